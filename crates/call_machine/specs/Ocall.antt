-- What an OCALL does: its frame is written, the host runs, and the answer is loaded from the enclave's own addresses.
use Rattle.std.specs.Prelude.{ℕ, ◌&&◌, nat_lt, if◌then◌else◌, List, [], ◌∷◌, ◌++◌, Option, Some, None, is_none, unwrap_or, slice_get, Result, Ok, Err}
use Rattle.sgx_base.specs.Rows.{Row, first_row, unless_refused}
use Rattle.sgx_base.specs.declared.Status.{Status}
use Rattle.sgx_base.specs.declared.TheConstants.Status.{UNEXPECTED, INVALID_FUNCTION}
use Rattle.edl_interface.specs.declared.Function.{Function}
use Rattle.edl_interface.specs.Parameters.{has_frame}
use Rattle.word_port.specs.declared.Side.TheVariants.{Enclave}
use Rattle.word_port.specs.Events.{new_record}
use Rattle.word_port.specs.Interaction.{Interaction, ret, here, tick, and_then, map_value}
use Rattle.word_port.specs.Accesses.{stores}
use Rattle.enclave_memory.specs.Arguments.{Argument}
use Rattle.ocall_frames.specs.Stack.{frame_below}
use Rattle.ocall_frames.specs.Frames.{argument_rows, ocall_size, frame_bytes, read_reply, Reply}
use Rattle.switchless.specs.declared.Pool.{Pool}
use Rattle.switchless.specs.Slots.{offered_word}
use Rattle.switchless.specs.Caller.{caller}
use Rattle.call_script.specs.declared.Settings.{Settings}
use Rattle.call_script.specs.Words.{ocall_slots}
use Rattle.call_report.specs.declared.CallKind.TheVariants.{Ocall}
use Rattle.call_report.specs.declared.Way.{Way}
use Rattle.call_report.specs.declared.Way.TheVariants.{Ordinary, Fallback, Taken}
use Rattle.call_report.specs.declared.CallRecord.{CallRecord}
use Rattle.call_machine.specs.declared.Machine.{Machine}
use Rattle.call_machine.specs.Context.{Context, depth_of, context_in_ocall}
use Rattle.call_machine.specs.Result.{Outcome, is_success, and_then_ok}
use Rattle.call_machine.specs.Ecall.{OcallOutcome, Ocalls}

-- what the handler of an OCALL does, in the context in which it runs, for a frame at this address
abbrev pub Handlers : Type 0
Handlers = Context → ℕ → Function → ℕ → Interaction Outcome

-- why an OCALL is refused: for its arguments, or since its frame does not fit the host stack
abbrev pub ocall_rows : Context → Function → List Argument → List Row
ocall_rows cx f arguments =
    argument_rows f arguments
    ++ record { holds = has_frame f && is_none (frame_below cx.base cx.top (ocall_size f arguments)); status = UNEXPECTED } ∷ []

-- the address of its frame, 0 where it has none
abbrev pub ocall_frame : Context → Function → List Argument → ℕ
ocall_frame cx f arguments = if has_frame f then unwrap_or (frame_below cx.base cx.top (ocall_size f arguments)) 0 else 0

-- the pool for OCALLs
abbrev pub ocall_pool : Settings → Pool
ocall_pool settings = record { from = ocall_slots settings; slots = settings.slots; retries = settings.retries }

-- what the host did: how the OCALL went, its status, and records
pub record HostSide : Type 0 where
  pub way : Way
  pub status : Status
  pub records : List CallRecord

-- what the host did, by a handler
abbrev pub host_side : Way → Outcome → HostSide
host_side way out = record { way = way; status = out.status; records = out.records }

-- the handler after a role that fell back, or what the worker did
abbrev pub unless_taken : Interaction Outcome → Option ℕ → Interaction HostSide
unless_taken handled (Some status) = ret (record { way = Taken; status = record { 0 = status }; records = [] })
unless_taken handled None = map_value (host_side Fallback) handled

-- the handler runs; where a pool has workers for the function, a caller's role comes first
abbrev pub host_run : Machine → Handlers → Context → ℕ → Function → ℕ → Interaction HostSide
host_run m handlers cx ordinal f frame =
    if f.switchless && nat_lt 0 m.script.settings.uworkers
    then and_then (caller (ocall_pool m.script.settings) (offered_word ordinal frame)) (unless_taken (handlers cx ordinal f frame))
    else map_value (host_side Ordinary) (handlers cx ordinal f frame)

-- the context in which the handler runs: the OCALL is in progress, and its frame is on the host stack
abbrev pub handler_context : Context → ℕ → Function → ℕ → Context
handler_context cx ordinal f frame = if has_frame f then record (context_in_ocall cx ordinal) { top = frame } else context_in_ocall cx ordinal

-- an OCALL whose host side ran: its frame, what the host did, where its answer begins, and the answer
pub record OcallDone : Type 0 where
  pub frame : ℕ
  pub host : HostSide
  pub turn : Option ℕ
  pub reply : Reply

-- nothing came back
abbrev pub no_reply : Reply
no_reply = record { value = 0; loaded = [] }

-- loads the answer where the status is SUCCESS, and nothing else
abbrev pub answer_loads : Function → List Argument → ℕ → HostSide → Interaction OcallDone
answer_loads f arguments frame host =
    if is_success host.status
    then here (λ turn. map_value (λ reply. record { frame = frame; host = host; turn = Some turn; reply = reply }) (read_reply f arguments frame))
    else ret (record { frame = frame; host = host; turn = None; reply = no_reply })

-- an OCALL that is not refused
abbrev pub unrefused_ocall : Machine → Handlers → Context → ℕ → List Argument → Function → Interaction OcallDone
unrefused_ocall m handlers cx ordinal arguments f =
    let frame = ocall_frame cx f arguments in
    and_then (stores Enclave frame (frame_bytes f arguments frame)) (λ stored.
    and_then (host_run m handlers (handler_context cx ordinal f frame) ordinal f frame) (answer_loads f arguments frame))

-- an OCALL, or its refusal
abbrev pub ocall_or_refusal : Machine → Handlers → Context → ℕ → List Argument → Option Function → Interaction (Result OcallDone Status)
ocall_or_refusal m handlers cx ordinal arguments None = ret (Err INVALID_FUNCTION)
ocall_or_refusal m handlers cx ordinal arguments (Some f) =
    and_then_ok (ret (unless_refused (first_row (ocall_rows cx f arguments)))) (λ allowed. map_value (λ done. Ok done) (unrefused_ocall m handlers cx ordinal arguments f))

-- the record of an OCALL
abbrev pub ocall_record : Context → ℕ → ℕ → Way → Status → ℕ → ℕ → ℕ → CallRecord
ocall_record cx ordinal frame way status first turn last = record {
  kind = Ocall;
  ordinal = ordinal;
  depth = depth_of cx;
  frame = frame;
  way = way;
  status = status;
  first = first;
  turn = turn;
  last = last;
}

-- its status, its answer and records
abbrev pub ocall_outcome : Context → ℕ → ℕ → ℕ → Result OcallDone Status → OcallOutcome
ocall_outcome cx ordinal first last (Err status) =
    record { status = status; value = 0; loaded = []; records = ocall_record cx ordinal 0 Ordinary status first last last ∷ [] }
ocall_outcome cx ordinal first last (Ok done) = record {
  status = done.host.status;
  value = done.reply.value;
  loaded = done.reply.loaded;
  records = ocall_record cx ordinal done.frame done.host.way done.host.status first (unwrap_or done.turn last) last ∷ done.host.records;
}

-- a whole OCALL, where this is what handlers do
unfoldable pub ocall_by : Machine → Handlers → Ocalls
ocall_by m handlers cx ordinal arguments =
    tick new_record (here (λ first.
    and_then (ocall_or_refusal m handlers cx ordinal arguments (slice_get m.interface.ocalls ordinal)) (λ result.
    here (λ last. ret (ocall_outcome cx ordinal first last result)))))
