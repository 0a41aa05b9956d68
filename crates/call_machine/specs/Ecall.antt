-- What an ECALL does: the one load of its frame, the copies, its body, and what is put back.
use Rattle.std.specs.Prelude.{ℕ, ◌-◌, ◌==◌, Bool, true, false, if◌then◌else◌, List, [], ◌∷◌, ◌++◌, length, map, replicate, zip, count_by, Option, Some, None, option_map, unwrap_or, slice_get, Result, Ok, Err}
use Rattle.sgx_base.specs.Bytes.{low_bytes, rounded_size}
use Rattle.sgx_base.specs.Rows.{first_row, unless_refused}
use Rattle.sgx_base.specs.declared.Status.{Status}
use Rattle.sgx_base.specs.declared.TheConstants.Status.{SUCCESS, INVALID_FUNCTION}
use Rattle.sgx_base.specs.declared.Passing.TheVariants.{Inward}
use Rattle.edl_interface.specs.declared.Class.{Class}
use Rattle.edl_interface.specs.declared.Class.TheVariants.{Buffer, Text, Fixed}
use Rattle.edl_interface.specs.declared.Param.{Param}
use Rattle.edl_interface.specs.declared.Function.{Function}
use Rattle.edl_interface.specs.declared.Interface.{Interface}
use Rattle.edl_interface.specs.Parameters.{marshalled, is_out, address_in, value_in, return_size}
use Rattle.edl_interface.specs.Lengths.{length_in, copied_length}
use Rattle.word_port.specs.declared.Side.TheVariants.{Enclave}
use Rattle.word_port.specs.Interaction.{Interaction, ret, ask, here, and_then, map_value}
use Rattle.word_port.specs.Accesses.{loads, stores}
use Rattle.call_copy.specs.declared.Shape.{Shape}
use Rattle.call_copy.specs.Copies.{copy_in, copy_out}
use Rattle.enclave_memory.specs.Arguments.{Argument, argument_of, places_in}
use Rattle.body_vm.specs.declared.Action.{Action}
use Rattle.body_vm.specs.declared.Action.TheVariants.{Temp}
use Rattle.body_vm.specs.Execution.{Execution, returned, on_cell, on_ocall, OcallRequest, OcallAnswer, execution}
use Rattle.ocall_frames.specs.Frames.{blocks_after}
use Rattle.call_script.specs.Words.{cell_word}
use Rattle.call_report.specs.declared.CallKind.TheVariants.{Ecall}
use Rattle.call_report.specs.declared.Way.{Way}
use Rattle.call_report.specs.declared.CallRecord.{CallRecord}
use Rattle.call_machine.specs.declared.Machine.{Machine}
use Rattle.call_machine.specs.Context.{Context, depth_of, context_in_ecall}
use Rattle.bridge_program.specs.Entry.{entry_rows}
use Rattle.call_machine.specs.Refusal.{frame_rows, field_rows}
use Rattle.call_machine.specs.Result.{Outcome, and_then_ok}

-- how a parameter is copied
abbrev pub shape_of : Class → Shape
shape_of (Buffer way size count unit) = record { way = way; unit = unit; text = false }
shape_of (Text way unit) = record { way = way; unit = unit; text = true }
shape_of (Fixed way length unit) = record { way = way; unit = unit; text = false }
shape_of _ = record { way = Inward; unit = 1; text = false }

-- the copies of the marshalled parameters so far, null where there is none, and the room that is left
pub record Copies : Type 0 where
  pub blocks : List (Option (List ℕ))
  pub room : ℕ

-- the copies with one more in front, or the refusal
abbrev pub with_first : Option (List ℕ) → Result Copies Status → Result Copies Status
with_first block (Err status) = Err status
with_first block (Ok copies) = Ok (record copies { blocks = block ∷ copies.blocks })

-- copies the parameters in, one wholly before the next, by the fields of the frame's copy
abbrev pub copies_in : Function → List ℕ → ℕ → List Param → Interaction (Result Copies Status)
copies_in f frame room [] = ret (Ok (record { blocks = []; room = room }))
copies_in f frame room (p ∷ rest) =
    if copied_length f frame p == 0 then map_value (with_first None) (copies_in f frame room rest)
    else and_then_ok (copy_in (shape_of p.class) (address_in frame p) (length_in f frame p) room) (λ bytes.
    map_value (with_first (Some bytes)) (copies_in f frame (room - rounded_size (length bytes)) rest))

-- puts the blocks of the `out` parameters back
abbrev pub copies_out : List ℕ → List (Param × Option (List ℕ)) → Interaction (Unit {0})
copies_out frame [] = ret tt
copies_out frame ((p, None) ∷ rest) = copies_out frame rest
copies_out frame ((p, Some bytes) ∷ rest) =
    if is_out p.class then and_then (copy_out (shape_of p.class) (address_in frame p) bytes) (λ done. copies_out frame rest)
    else copies_out frame rest

-- what an OCALL gives: its status, its return, the bytes that came back for each marshalled parameter, and records
pub record OcallOutcome : Type 0 where
  pub status : Status
  pub value : ℕ
  pub loaded : List (Option (List ℕ))
  pub records : List CallRecord

-- what an OCALL does, in a context and with its arguments
abbrev pub Ocalls : Type 0
Ocalls = Context → ℕ → List Argument → Interaction OcallOutcome

-- what an ECALL does, at a frame's address
abbrev pub Ecalls : Type 0
Ecalls = Context → ℕ → ℕ → Way → Interaction Outcome

-- the marshalled parameters of an OCALL
abbrev pub ocall_params : Interface → ℕ → List Param
ocall_params interface ordinal = unwrap_or (option_map marshalled (slice_get interface.ocalls ordinal)) []

-- how a body goes on after an OCALL
abbrev pub answer_of : Interface → OcallRequest → OcallOutcome → OcallAnswer
answer_of interface q out = record {
  status = out.status.0;
  value = out.value;
  blocks = blocks_after (ocall_params interface q.ordinal) (places_in q.arguments) out.loaded q.blocks;
}

-- what a body gives: its last number, its blocks, and records
pub record Finished : Type 0 where
  pub value : ℕ
  pub blocks : List (Option (List ℕ))
  pub records : List CallRecord

-- what a body gives that made no OCALL
abbrev pub finished : ℕ → List (Option (List ℕ)) → Finished
finished value blocks = record { value = value; blocks = blocks; records = [] }

-- what a body gives, after the records of an OCALL
abbrev pub after_records : List CallRecord → Finished → Finished
after_records records done = record done { records = records ++ done.records }

-- carries out what a body asks for, one request after another
abbrev pub interpret : Machine → Ocalls → Context → Execution → Interaction Finished
interpret m ocalls cx (returned value blocks) = ret (finished value blocks)
interpret m ocalls cx (on_cell q next) =
    ask (record { side = Enclave; kind = q.kind; index = cell_word m.script.settings q.cell; first = q.first; second = q.second }) (λ old. interpret m ocalls cx (next old))
interpret m ocalls cx (on_ocall q next) =
    and_then (ocalls (record cx { room = q.room }) q.ordinal (map (argument_of q.blocks) q.arguments)) (λ out.
    map_value (after_records out.records) (interpret m ocalls cx (next (answer_of m.interface q out))))

-- whether it makes a temporary block
abbrev pub is_temp : Action → Bool
is_temp (Temp place n) = true
is_temp _ = false

-- the actions of an ECALL's body
abbrev pub actions_of : Machine → ℕ → List Action
actions_of m ordinal = unwrap_or (option_map (λ b. b.actions) (slice_get m.script.bodies ordinal)) []

-- the body of an ECALL over the values and the copies of its parameters; a temporary block is null until it is made
abbrev pub body_over : Machine → ℕ → List ℕ → Copies → Execution
body_over m ordinal values copies =
    execution (actions_of m ordinal) values (copies.blocks ++ replicate (count_by is_temp (actions_of m ordinal)) None) copies.room

-- the body of a function, by the fields of the frame's copy
abbrev pub body_of : Machine → ℕ → Function → List ℕ → Copies → Execution
body_of m ordinal f frame copies = body_over m ordinal (map (value_in frame) f.params) copies

-- an answered ECALL: where its answer begins, and the records of the calls in it
pub record Answered : Type 0 where
  pub turn : ℕ
  pub records : List CallRecord

-- the return, and then each `out` parameter
abbrev pub put_answer : Function → ℕ → List ℕ → Finished → Interaction (Unit {0})
put_answer f address frame done =
    and_then (stores Enclave address (low_bytes (return_size f) done.value)) (λ stored. copies_out frame (zip (marshalled f) done.blocks))

-- runs the body, and puts its answer back
abbrev pub body_and_answer : Machine → Ocalls → Context → ℕ → Function → ℕ → List ℕ → Copies → Interaction (Result Answered Status)
body_and_answer m ocalls cx ordinal f address frame copies =
    and_then (interpret m ocalls (context_in_ecall cx ordinal copies.room) (body_of m ordinal f frame copies)) (λ done.
    here (λ turn. map_value (λ stored. Ok (record { turn = turn; records = done.records })) (put_answer f address frame done)))

-- an entry whose frame was loaded: its fields are checked, its parameters are copied in, its body runs and its answer is put back
abbrev pub loaded_entry : Machine → Ocalls → Context → ℕ → ℕ → Function → List ℕ → Interaction (Result Answered Status)
loaded_entry m ocalls cx ordinal address f frame =
    and_then_ok (ret (unless_refused (first_row (field_rows m.script.settings.host f frame)))) (λ allowed.
    and_then_ok (copies_in f frame cx.room (marshalled f)) (λ copies.
    body_and_answer m ocalls cx ordinal f address frame copies))

-- an entry that its table, stack and frame address allow: it loads the frame once, and uses every field from that copy
abbrev pub admitted_entry : Machine → Ocalls → Context → ℕ → ℕ → Function → Interaction (Result Answered Status)
admitted_entry m ocalls cx ordinal address f = and_then (loads Enclave address f.frame_size) (loaded_entry m ocalls cx ordinal address f)

-- an entry of a function, whose frame address may be refused
abbrev pub entry_at : Machine → Ocalls → Context → ℕ → ℕ → Option Function → Interaction (Result Answered Status)
entry_at m ocalls cx ordinal address None = ret (Err INVALID_FUNCTION)
entry_at m ocalls cx ordinal address (Some f) =
    and_then_ok (ret (unless_refused (first_row (frame_rows m.script.settings.host f address)))) (λ allowed. admitted_entry m ocalls cx ordinal address f)

-- the record of an ECALL
abbrev pub ecall_record : Context → ℕ → ℕ → Way → Status → ℕ → ℕ → ℕ → CallRecord
ecall_record cx ordinal address way status first turn last = record {
  kind = Ecall;
  ordinal = ordinal;
  depth = depth_of cx;
  frame = address;
  way = way;
  status = status;
  first = first;
  turn = turn;
  last = last;
}

-- its status and records
abbrev pub ecall_outcome : Context → ℕ → ℕ → Way → ℕ → ℕ → Result Answered Status → Outcome
ecall_outcome cx ordinal address way first last (Ok done) =
    record { status = SUCCESS; records = ecall_record cx ordinal address way SUCCESS first done.turn last ∷ done.records }
ecall_outcome cx ordinal address way first last (Err status) =
    record { status = status; records = ecall_record cx ordinal address way status first last last ∷ [] }

-- an entry, refused or answered
abbrev pub entered : Machine → Ocalls → Context → ℕ → ℕ → Interaction (Result Answered Status)
entered m ocalls cx ordinal address =
    and_then_ok (ret (unless_refused (first_row (entry_rows m.interface cx.stack ordinal)))) (λ allowed.
    entry_at m ocalls cx ordinal address (slice_get m.interface.ecalls ordinal))

-- a whole ECALL, where this is what OCALLs do; its record has its place already
unfoldable pub ecall_by : Machine → Ocalls → Ecalls
ecall_by m ocalls cx ordinal address way =
    here (λ first. and_then (entered m ocalls cx ordinal address) (λ result. here (λ last. ret (ecall_outcome cx ordinal address way first last result))))
