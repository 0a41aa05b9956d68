use Rattle.std.proofs.Common.{ℕ, zero, suc, ◌+◌, ◌≡◌, ◌<◌, List, [], ◌∷◌, All, Some, refl, arith, slice_get}
use Rattle.std.proofs.lemmas.List.Elements.{All-nil, All-cons}
use Rattle.word_port.specs.declared.Step.{Step}
use Rattle.word_port.specs.declared.Side.TheVariants.{Pool}
use Rattle.word_port.specs.Requests.{step_of, load_of, swap_of, cas_of}
use Rattle.word_port.specs.Events.{made, placed}
use Rattle.word_port.specs.Interaction.{ret}
use Rattle.switchless.specs.Caller.{offer, look, looks, collect, caller_within, more_than_any}
use Rattle.switchless.specs.Worker.{WorkerSetup, scan, accept, finish, worker}
use Rattle.switchless_laws.specs.Moments.{IsSlotOf}
use Rattle.switchless_laws.specs.Roles.{IsCallerLog, IsWorkerLog, IsWholeRole, IsLeftRole}
use Rattle.switchless_laws.specs.Example.{one_slot, calling, working}
use Rattle.switchless_laws.proofs.example_law.Goals as goal

caller_log : IsCallerLog calling (ret (Some 5))
unfolding caller_within offer looks look collect more_than_any
caller_log = record {
  pool = one_slot;
  word = 13;
  offers = refl;
  events = made (step_of (cas_of Pool 0 0 13) 0) ∷ made (step_of (load_of Pool 0) 171798691855) ∷ made (step_of (swap_of Pool 0 0) 171798691855) ∷ [];
  begun = (refl, (refl, (refl, refl)));
  waits = omega arith;
  steps = refl;
}

abbrev setup : WorkerSetup ℕ
setup = record { pool = one_slot; stop = 1; limit = 8; serve = λ ordinal frame. ret (record { status = 5; records = [] }) }

worker_log : IsWorkerLog ℕ one_slot working (ret [])
unfolding worker scan accept finish more_than_any
worker_log = record {
  setup = setup;
  serves = λ ordinal frame. tt;
  stops = λ h. let late : 1 < 0 + 1 = h.1 in absurd (omega arith);
  events = placed 0 ∷ made (step_of (load_of Pool 0) 13) ∷ made (step_of (cas_of Pool 0 13 14) 13) ∷ made (step_of (swap_of Pool 0 171798691855) 14) ∷ made (step_of (load_of Pool 1) 1) ∷ [];
  begun = (refl, (refl, (refl, (refl, refl))));
  waits = omega arith;
  steps = refl;
}

abbrev words : List ℕ
words = 0 ∷ 1 ∷ []

only_slot : (slot : ℕ) → IsSlotOf one_slot slot → slice_get words slot ≡ Some 0
only_slot zero h = refl
only_slot (suc slot) h = let late : suc slot < 0 + 1 = h.1 in absurd (omega arith)

pub returns-clause-calling : goal.returns-clause-calling
returns-clause-calling c = record { done = []; last = calling; roles = All-nil (IsWholeRole ℕ one_slot); last_role = IsLeftRole.called (Some 5) caller_log; steps = refl }

pub returns-clause-working : goal.returns-clause-working
returns-clause-working c = record { done = []; last = working; roles = All-nil (IsWholeRole ℕ one_slot); last_role = IsLeftRole.works (ret []) worker_log; steps = refl }

pub returns-clause-free : goal.returns-clause-free
returns-clause-free c = only_slot

none_left : All (λ (part : List Step). part ≡ []) ([] ∷ [] ∷ [])
none_left =
    let P : List Step → Type 0 = λ part. part ≡ [] in
    All-cons P [] ([] ∷ []) refl (All-cons P [] [] refl (All-nil P))

pub returns-clause-shuffled : goal.returns-clause-shuffled
returns-clause-shuffled c = (0, _, refl, (1, _, refl, (1, _, refl, (1, _, refl, (0, _, refl, (1, _, refl, (0, _, refl, none_left)))))))

pub returns-clause-legal : goal.returns-clause-legal
returns-clause-legal c = (refl, (refl, (refl, (refl, (refl, (refl, (refl, tt)))))))

pub returns-clause-served : goal.returns-clause-served
returns-clause-served c = refl

pub returns-clause-taken : goal.returns-clause-taken
returns-clause-taken c = refl
