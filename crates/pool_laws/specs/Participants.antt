-- The participants of a run with workers, and their logs.
use Rattle.std.specs.Prelude.{ℕ, ◌≡◌, ◌≤◌, ◌⊎◌, List, [], ◌∷◌}
use Rattle.word_port.specs.declared.Step.{Step}
use Rattle.word_port.specs.Interaction.{Interaction, map_value}
use Rattle.word_port.specs.Limits.{Progress}
use Rattle.word_port.specs.Runs.{Runs}
use Rattle.switchless.specs.declared.Pool.{Pool}
use Rattle.switchless.specs.Caller.{more_than_any}
use Rattle.switchless.specs.Worker.{Served, WorkerSetup, worker}
use Rattle.call_script.specs.declared.HostAct.{HostAct}
use Rattle.call_script.specs.Words.{stop_word}
use Rattle.call_report.specs.declared.CallRecord.{CallRecord}
use Rattle.call_report.specs.declared.Way.TheVariants.{Served as served_way}
use Rattle.call_machine.specs.declared.Machine.{Machine}
use Rattle.call_machine.specs.Context.{first_context}
use Rattle.call_machine.specs.Result.{Outcome}
use Rattle.call_machine.specs.Calls.{ecall_pool}
use Rattle.call_machine.specs.Ocall.{ocall_pool}
use Rattle.call_machine.specs.Served.{served_ocall}
use Rattle.call_machine.specs.Thread.{ecall, thread, racer_acts}
use Rattle.pool_laws.specs.Machines.{AreFitting, HasStackFor}

-- what serving a call gives to a worker
abbrev pub to_worker : Outcome → Served CallRecord
to_worker out = record { status = out.status.0; records = out.records }

-- a trusted worker serves ECALLs, with no call in progress
abbrev pub trusted_worker : Machine → ℕ → ℕ → WorkerSetup CallRecord
trusted_worker m participant limit = record {
  pool = ecall_pool m.script.settings;
  stop = stop_word m.script.settings;
  limit = limit;
  serve = λ ordinal frame. map_value to_worker
      (ecall m (first_context m.script.settings participant) ordinal frame served_way);
}

-- an untrusted worker serves OCALLs
abbrev pub untrusted_worker : Machine → ℕ → WorkerSetup CallRecord
untrusted_worker m limit = record {
  pool = ocall_pool m.script.settings;
  stop = stop_word m.script.settings;
  limit = limit;
  serve = λ ordinal frame. map_value to_worker (served_ocall m ordinal frame);
}

-- the pool for ECALLs or the pool for OCALLs
abbrev pub IsPoolOf : Machine → Pool → Type 0
IsPoolOf m pool = (pool ≡ ecall_pool m.script.settings) ⊎ (pool ≡ ocall_pool m.script.settings)

-- the log of a whole run of the behaviour, by one that had no more waiting looks than any participant has
pub record IsWholeLog {A : Type 0} (t : Interaction A) (log : List Step) : Type 0 where
  pub before : Progress
  pub after : Progress
  pub value : A
  pub empty : before.port.log ≡ []
  pub few : before.waits ≤ more_than_any
  pub run : Runs t before after value
  pub log_is : after.port.log ≡ log

-- the log of a host thread, of a worker, of a racer, or of the one step that sets the stop word
pub data IsParticipantOf (m : Machine) (log : List Step) : Type 0 where
  host_thread : (participant : ℕ) (acts : List HostAct) → HasStackFor m.script.settings participant
      → AreFitting m.interface acts
      → IsWholeLog (thread m (first_context m.script.settings participant) acts) log → IsParticipantOf m log
  trusted : (participant limit : ℕ) → HasStackFor m.script.settings participant
      → IsWholeLog (worker (trusted_worker m participant limit)) log → IsParticipantOf m log
  untrusted : (limit : ℕ) → IsWholeLog (worker (untrusted_worker m limit)) log → IsParticipantOf m log
  racer : (acts : List HostAct) → IsWholeLog (racer_acts m.script.settings.host acts) log → IsParticipantOf m log
  stopper : (s : Step) → s.index ≡ stop_word m.script.settings → log ≡ s ∷ [] → IsParticipantOf m log
