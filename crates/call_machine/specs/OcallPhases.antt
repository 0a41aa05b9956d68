-- How the engine's parts of an OCALL stand to its behaviour: what is done before the host runs, and what is done after it.
use Rattle.std.specs.Prelude.{ℕ, ◌≡◌, ◌≤◌, ◌⊎◌, true, false, List, [], ◌∷◌, length, Option, Some, None, Ok, Err, unwrap_or, slice_get, slice_set, IsTrue}
use Rattle.sgx_base.specs.Ranges.{is_mapped}
use Rattle.sgx_base.specs.declared.Status.{Status}
use Rattle.sgx_base.specs.declared.TheConstants.Status.{SUCCESS, UNEXPECTED}
use Rattle.edl_interface.specs.declared.Function.{Function}
use Rattle.edl_interface.specs.Parameters.{has_frame, marshalled}
use Rattle.word_port.specs.Port.{PortState}
use Rattle.word_port.specs.Interaction.{Interaction, ret, here, and_then}
use Rattle.word_port.specs.Limits.{progress}
use Rattle.word_port.specs.Runs.{Reaches, Runs}
use Rattle.enclave_memory.specs.declared.Arg.{Arg}
use Rattle.enclave_memory.specs.Memory.{Memory}
use Rattle.enclave_memory.specs.Arguments.{Argument, Passed, ArePassed, arguments_in}
use Rattle.bridge_program.specs.Standing.{with_ocall}
use Rattle.ocall_frames.specs.declared.HostStack.{HostStack}
use Rattle.ocall_frames.specs.declared.Frame.{Frame}
use Rattle.ocall_frames.specs.Stack.{frame_below}
use Rattle.ocall_frames.specs.Arguments.{checked_size}
use Rattle.ocall_frames.specs.Frames.{Reply, IsArenaAfter}
use Rattle.call_report.specs.declared.Way.TheVariants.{Ordinary}
use Rattle.call_report.specs.declared.CallRecord.{CallRecord}
use Rattle.call_report.specs.RecordList.{RecordList, with_records}
use Rattle.call_machine.specs.declared.Machine.{Machine}
use Rattle.call_machine.specs.declared.ocalls.Answer.{Answer}
use Rattle.call_machine.specs.declared.ocalls.Asked.{Asked}
use Rattle.call_machine.specs.Context.{Context}
use Rattle.call_machine.specs.Ecall.{OcallOutcome}
use Rattle.call_machine.specs.Ocall.{HostSide, OcallDone, host_run, handler_context, answer_loads, ocall_record, ocall_outcome}
use Rattle.call_machine.specs.Tcs.{TcsState, context_of, moment, IsPortOf}
use Rattle.call_machine.specs.Thread.{ecalls, handlers_by, ocall}

-- the address of a frame, 0 where there is none
abbrev pub frame_address : Option Frame → ℕ
frame_address None = 0
frame_address (Some frame) = frame.at

-- the top of a host stack under a frame that was taken from it
abbrev pub top_under : Option Frame → ℕ → ℕ
top_under None top = top
top_under (Some frame) top = frame.at

-- the top of a host stack once a frame was given back
abbrev pub top_after : Option Frame → ℕ → ℕ
top_after None top = top
top_after (Some frame) top = frame.old_top

-- a frame was taken for an OCALL that is not refused, where its function has one
abbrev pub IsTaken : Function → List Argument → HostStack → HostStack → Option Frame → Type 0
IsTaken f arguments before after None =
    (has_frame f ≡ false) × ((size : ℕ) × (checked_size f arguments ≡ Ok size)) × (after ≡ before)
IsTaken f arguments before after (Some frame) =
    (has_frame f ≡ true) × (checked_size f arguments ≡ Ok frame.size) × (frame_below before.base before.top frame.size ≡ Some frame.at)
    × (frame.old_top ≡ before.top) × (after ≡ record before { top = frame.at })

-- why an OCALL is refused: for its arguments, or since its frame does not fit the host stack
abbrev pub IsUntaken : Function → List Argument → HostStack → Status → Type 0
IsUntaken f arguments stack status =
    (checked_size f arguments ≡ Err status)
    ⊎ ((has_frame f ≡ true) × (status ≡ UNEXPECTED)
    × ((size : ℕ) × (checked_size f arguments ≡ Ok size) × (frame_below stack.base stack.top size ≡ None)))

-- the frame of a function that has one is as large as the arguments ask, and lies in a host memory of so many bytes
abbrev pub IsFrameFor : Function → List Arg → Memory → ℕ → Option Frame → Type 0
IsFrameFor f args arena host None = has_frame f ≡ false
IsFrameFor f args arena host (Some frame) =
    (has_frame f ≡ true) × ((passed : List Passed) → ArePassed arena args passed → checked_size f (arguments_in arena passed) ≡ Ok frame.size)
    × IsTrue (is_mapped host frame.at frame.size)

-- an OCALL once the host has run: the answer is loaded, and the record ends
abbrev pub answered_ocall : Context → ℕ → List Argument → Function → ℕ → ℕ → HostSide → Interaction OcallOutcome
answered_ocall cx ordinal arguments f frame first host =
    and_then (answer_loads f arguments frame host) (λ done. here (λ last. ret (ocall_outcome cx ordinal first last (Ok done))))

-- an OCALL whose frame is written, where the host is to run
abbrev pub asked_ocall : Machine → Context → ℕ → List Argument → Function → ℕ → ℕ → Interaction OcallOutcome
asked_ocall m cx ordinal arguments f frame first =
    and_then (host_run m (handlers_by m (ecalls m cx)) (handler_context cx ordinal f frame) ordinal f frame) (answered_ocall cx ordinal arguments f frame first)

-- the record of an OCALL that begins at this place of the log
abbrev pub begun_record : Context → ℕ → ℕ → CallRecord
begun_record cx ordinal first = ocall_record cx ordinal 0 Ordinary SUCCESS first first first

-- the record once the OCALL has ended
abbrev pub ended_record : CallRecord → ℕ → Status → Option ℕ → ℕ → CallRecord
ended_record begun frame status turn last = record begun { frame = frame; status = status; turn = unwrap_or turn last; last = last }

-- an OCALL has begun: its record has its place, its frame is written, and it is on the call stack
pub record IsAsked (m : Machine) (ordinal : ℕ) (args : List Arg) (old new : PortState) (before after : RecordList) (first last : TcsState) (asked : Asked) : Type 0 where
  pub found : slice_get m.interface.ocalls ordinal ≡ Some asked.function.now
  pub ordinal_is : asked.ordinal ≡ ordinal
  pub place_is : asked.place ≡ length before.list
  pub begun_is : asked.begun ≡ begun_record (context_of first) ordinal (length old.log)
  pub grown : after ≡ with_records before (asked.begun ∷ [])
  pub stands : last ≡ record first { stack = with_ocall (Some ordinal) first.stack; top = top_under asked.frame first.top }
  pub goes_back : top_after asked.frame first.top ≡ first.top
  pub port : IsPortOf m new
  pub frame : IsFrameFor asked.function.now args first.arena new.host asked.frame
  pub within : top_under asked.frame first.top ≤ first.top
  pub reaches : (passed : List Passed) → ArePassed first.arena args passed
      → Reaches (ocall m (context_of first) ordinal (arguments_in first.arena passed)) (moment old before first) (moment new after last)
      (asked_ocall m (context_of first) ordinal (arguments_in first.arena passed) asked.function.now (frame_address asked.frame) (length old.log))

-- an OCALL was refused, and has a record
pub record IsUnasked (m : Machine) (ordinal : ℕ) (arguments : List Argument) (old new : PortState) (before after : RecordList) (first last : TcsState) (status : Status) : Type 0 where
  pub runs : Runs (ocall m (context_of first) ordinal arguments) (moment old before first) (moment new after last)
      (ocall_outcome (context_of first) ordinal (length old.log) (length new.log) (Err status))
  pub grown : after ≡ with_records before (ocall_record (context_of first) ordinal 0 Ordinary status (length old.log) (length new.log) (length new.log) ∷ [])
  pub kept : last ≡ first

-- what the host did by the handler, where no worker has part
abbrev pub handled : Status → List CallRecord → HostSide
handled status made = record { way = Ordinary; status = status; records = made }

-- the answer of an OCALL whose host side ended with this status was loaded, where the status is SUCCESS
pub record IsAnswer (f : Function) (passed : List Passed) (frame : ℕ) (status : Status) (old new : PortState) (before after : Memory) (answer : Answer) : Type 0 where
  pub reply : Reply
  pub runs : (made : List CallRecord) (records waits : ℕ)
      → Runs (answer_loads f (arguments_in before passed) frame (handled status made)) (progress old records waits) (progress new records waits)
      (record { frame = frame; host = handled status made; turn = answer.turn; reply = reply })
  pub value_is : answer.value ≡ reply.value
  pub arena_is : IsArenaAfter (marshalled f) passed reply.loaded before after

-- an OCALL has ended: its answer was loaded, it has left the call stack and the host stack, and its record has ended
pub record IsAnswered (asked : Asked) (passed : List Passed) (status : Status) (old new : PortState) (before after : RecordList) (first last : TcsState) (value : ℕ) : Type 0 where
  pub answer : Answer
  pub loaded : IsAnswer asked.function.now passed (frame_address asked.frame) status old new first.arena last.arena answer
  pub value_is : value ≡ answer.value
  pub stands : last ≡ record first { stack = with_ocall None first.stack; top = top_after asked.frame first.top; arena = last.arena }
  pub set : after ≡ record before { list = slice_set before.list asked.place (ended_record asked.begun (frame_address asked.frame) status answer.turn (length new.log)) }
