-- A run of a small machine, and logs and records that are no protected run of it.
use Rattle.std.specs.Prelude.{ℕ, List, [], ◌∷◌, ◌++◌}
use Rattle.sgx_base.specs.declared.TheConstants.Status.{SUCCESS, INVALID_PARAMETER}
use Rattle.word_port.specs.declared.Step.{Step}
use Rattle.word_port.specs.declared.Side.TheVariants.{Enclave}
use Rattle.word_port.specs.Requests.{step_of, load_of, swap_of}
use Rattle.word_port.specs.Events.{steps_of}
use Rattle.word_port.specs.Limits.{Progress}
use Rattle.word_port.specs.Runs.{Runs}
use Rattle.call_script.specs.declared.HostAct.{Raw}
use Rattle.call_report.specs.declared.CallKind.TheVariants.{Ecall}
use Rattle.call_report.specs.declared.Way.TheVariants.{Ordinary}
use Rattle.call_report.specs.declared.CallRecord.{CallRecord}
use Rattle.call_machine.specs.declared.Machine.{Machine}
use Rattle.call_machine.specs.Result.{Outcome}
use Rattle.call_machine.specs.Reported.{beginning, first_thread}
use Rattle.call_laws.specs.Examples.{small_machine, small_words, small_events}
use Rattle.run_laws.specs.Protected.{IsProtectedRun}

-- the small machine of the laws of an ECALL, whose one thread enters with a frame of its own at 0x10000
abbrev pub one_call_machine : Machine
one_call_machine = record small_machine { script = record small_machine.script { words = small_words; threads = (Raw 0 0x10000 ∷ []) ∷ [] } }

-- the record of an ECALL of this function at 0x10000
abbrev pub record_of : ℕ → CallRecord
record_of ordinal = record {
  kind = Ecall;
  ordinal = ordinal;
  depth = 0;
  frame = 0x10000;
  way = Ordinary;
  status = SUCCESS;
  first = 0;
  turn = 18;
  last = 24;
}

-- its loads and stores, 24 in all
abbrev pub one_call_log : List Step
one_call_log = steps_of small_events

-- the run has ended
abbrev pub one_call_outcome : Outcome
one_call_outcome = record { status = SUCCESS; records = record_of 0 ∷ [] }

abbrev pub one_call_end : Progress
one_call_end = record (beginning one_call_machine 64) { port = record (beginning one_call_machine 64).port { log = one_call_log }; records = 65535 }

-- the enclave loads the first byte of the frame's pointer once more
abbrev pub second_load : Step
second_load = step_of (load_of Enclave 8) 16

-- the enclave stores to a byte that no call gave it
abbrev pub stray_store : Step
stray_store = step_of (swap_of Enclave 40 1) 0

-- a refusal of a function that is not there, with another status than that of the first row
abbrev pub wrong_refusal : CallRecord
wrong_refusal = record (record_of 1) { status = INVALID_PARAMETER; turn = 0; last = 0 }

pub record Examples : Type 0 where
  pub run : Runs (first_thread one_call_machine) (beginning one_call_machine 64) one_call_end one_call_outcome
  pub protected : IsProtectedRun one_call_machine (record_of 0 ∷ []) one_call_log
  pub loaded_again : ¬ IsProtectedRun one_call_machine (record_of 0 ∷ []) (one_call_log ++ second_load ∷ [])
  pub stored_elsewhere : ¬ IsProtectedRun one_call_machine [] (stray_store ∷ [])
  pub refused_wrongly : ¬ IsProtectedRun one_call_machine (wrong_refusal ∷ []) []
