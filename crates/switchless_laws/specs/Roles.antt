-- Logs of participants in a pool: roles one after another, of which the last may go on.
use Rattle.std.specs.Prelude.{ℕ, ◌≡◌, ◌≤◌, IsTrue, List, ◌++◌, All, flat_map, Option}
use Rattle.word_port.specs.declared.Step.{Step}
use Rattle.word_port.specs.Events.{Event, steps_of, waits_in}
use Rattle.word_port.specs.Interaction.{Interaction, ret, IsAfter, AllRequests}
use Rattle.switchless.specs.declared.Pool.{Pool as Slots}
use Rattle.switchless.specs.Slots.{is_offered}
use Rattle.switchless.specs.Caller.{caller, more_than_any}
use Rattle.switchless.specs.Worker.{WorkerSetup, worker}
use Rattle.switchless_laws.specs.Moments.{IsSlotOf}

-- the number is that of no slot of the pool
abbrev pub IsElsewhere : Slots → ℕ → Type 0
IsElsewhere pool index = IsSlotOf pool index → ⊥

-- the steps are those of a caller's role with an offered word, whose rest is still to come
pub record IsCallerLog (log : List Step) (rest : Interaction (Option ℕ)) : Type 0 where
  pub pool : Slots
  pub word : ℕ
  pub offers : IsTrue (is_offered word)
  pub events : List Event
  pub begun : IsAfter (caller pool word) events rest
  pub waits : waits_in events ≤ more_than_any
  pub steps : steps_of events ≡ log

-- the steps are those of a worker's role, whose rest is still to come; what it serves and its stop word are no slots of the pool
pub record IsWorkerLog (R : Type 0) (pool : Slots) (log : List Step) (rest : Interaction (List R)) : Type 0 where
  pub setup : WorkerSetup R
  pub serves : (ordinal frame : ℕ) → AllRequests (λ q. IsElsewhere pool q.index) (setup.serve ordinal frame)
  pub stops : IsElsewhere pool setup.stop
  pub events : List Event
  pub begun : IsAfter (worker setup) events rest
  pub waits : waits_in events ≤ more_than_any
  pub steps : steps_of events ≡ log

-- steps on no slot, or a whole role
pub data IsWholeRole (R : Type 0) (pool : Slots) (log : List Step) : Type 0 where
  other_steps : All (λ s. IsElsewhere pool s.index) log → IsWholeRole R pool log
  called : (end : Option ℕ) → IsCallerLog log (ret end) → IsWholeRole R pool log
  worked : (records : List R) → IsWorkerLog R pool log (ret records) → IsWholeRole R pool log

-- the same, or a role that may go on
pub data IsRole (R : Type 0) (pool : Slots) (log : List Step) : Type 0 where
  other_steps : All (λ s. IsElsewhere pool s.index) log → IsRole R pool log
  calls : (rest : Interaction (Option ℕ)) → IsCallerLog log rest → IsRole R pool log
  works : (rest : Interaction (List R)) → IsWorkerLog R pool log rest → IsRole R pool log

-- the same, where a caller's role has ended, with an answer or with none
pub data IsLeftRole (R : Type 0) (pool : Slots) (log : List Step) : Type 0 where
  other_steps : All (λ s. IsElsewhere pool s.index) log → IsLeftRole R pool log
  called : (end : Option ℕ) → IsCallerLog log (ret end) → IsLeftRole R pool log
  works : (rest : Interaction (List R)) → IsWorkerLog R pool log rest → IsLeftRole R pool log

-- whole roles one after another, and a last one of this kind
pub record EndsWith (R : Type 0) (pool : Slots) (IsLast : List Step → Type 0) (log : List Step) : Type 0 where
  pub done : List (List Step)
  pub last : List Step
  pub roles : All (IsWholeRole R pool) done
  pub last_role : IsLast last
  pub steps : flat_map (λ l. l) done ++ last ≡ log

-- a participant's log
abbrev pub IsParticipant : (R : Type 0) → Slots → List Step → Type 0
IsParticipant R pool log = EndsWith R pool (IsRole R pool) log

-- a participant's log in which each caller's role has ended
abbrev pub HasLeft : (R : Type 0) → Slots → List Step → Type 0
HasLeft R pool log = EndsWith R pool (IsLeftRole R pool) log
