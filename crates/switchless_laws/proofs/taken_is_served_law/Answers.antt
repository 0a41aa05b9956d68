use Rattle.std.proofs.Common.{List, All}
use Rattle.std.proofs.lemmas.List.Elements.{All-weaker}
use Rattle.word_port.specs.declared.Step.{Step}
use Rattle.switchless.specs.declared.Pool.{Pool}
use Rattle.switchless_laws.specs.Moments.{KeepsSlots, LeavesSlots}
use Rattle.switchless_laws.specs.Roles.{IsParticipant, HasLeft}
use Rattle.switchless_laws.proofs.RolesKeep.{participant_keeps, participant_leaves}
use Rattle.switchless_laws.proofs.Theorem.{served_is, slots_free, agree}
use Rattle.switchless_laws.proofs.taken_is_served_law.Goals as goal

all_keep : (R : Type 0) (pool : Pool) (participants : List (List Step)) → All (IsParticipant R pool) participants → All (KeepsSlots pool) participants
all_keep R pool participants h = All-weaker (IsParticipant R pool) (KeepsSlots pool) (participant_keeps R pool) participants h

all_leave : (R : Type 0) (pool : Pool) (participants : List (List Step)) → All (HasLeft R pool) participants → All (LeavesSlots pool) participants
all_leave R pool participants h = All-weaker (HasLeft R pool) (LeavesSlots pool) (participant_leaves R pool) participants h

pub returns : goal.returns
returns r c = record {
  moments = λ pool words participants before after keep h. served_is pool words participants before after h.are_free h.shuffled h.legal (all_keep _ pool participants keep);
  free = λ pool words participants whole leave h. slots_free pool words participants whole h.are_free h.shuffled h.legal (all_leave _ pool participants leave);
  agree = λ pool words participants whole leave h. agree pool words participants whole h.are_free h.shuffled h.legal (all_leave _ pool participants leave);
}
