-- What calls and acts of the host have made.
use Rattle.std.specs.Prelude.{◌≡◌, List}
use Rattle.sgx_base.specs.declared.Status.{Status}
use Rattle.word_port.specs.Port.{PortState}
use Rattle.word_port.specs.Interaction.{Interaction}
use Rattle.word_port.specs.Runs.{Runs}
use Rattle.call_report.specs.declared.CallRecord.{CallRecord}
use Rattle.call_report.specs.RecordList.{RecordList, with_records}
use Rattle.call_machine.specs.Result.{Outcome}
use Rattle.call_machine.specs.Tcs.{TcsState, moment}

-- calls were made, and their records are at the end of the list; of the thread control structure only waiting looks were taken
abbrev pub MakesCalls : Interaction (List CallRecord) → PortState → PortState → RecordList → RecordList → TcsState → TcsState → Type 0
MakesCalls calls old new before after first last =
    (made : List CallRecord) × Runs calls (moment old before first) (moment new after last) made
    × (after ≡ with_records before made) × (last ≡ record first { waits = last.waits })

-- the same of what gives a status too
abbrev pub MakesOutcome : Interaction Outcome → PortState → PortState → RecordList → RecordList → TcsState → TcsState → Status → Type 0
MakesOutcome acts old new before after first last status =
    (out : Outcome) × (out.status ≡ status) × Runs acts (moment old before first) (moment new after last) out
    × (after ≡ with_records before out.records) × (last ≡ record first { waits = last.waits })
