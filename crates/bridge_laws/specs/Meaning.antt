-- What the instructions of a bridge do: each over where the bridge stands, and a list one after another.
use Rattle.std.specs.Prelude.{ℕ, zero, suc, ◌-◌, ◌^◌, ◌==◌, ◌&&◌, ◌||◌, not, nat_lt, Bool, if◌then◌else◌, List, [], ◌∷◌, ◌++◌, replicate, Option, Some, None, unwrap_or, slice_get, slice_set, Result, Ok, Err}
use Rattle.sgx_base.specs.Bytes.{low_bytes, rounded_size, is_divisible}
use Rattle.sgx_base.specs.Ranges.{is_host_range}
use Rattle.sgx_base.specs.Texts.{terminated_text, has_early_end}
use Rattle.sgx_base.specs.declared.Status.{Status}
use Rattle.sgx_base.specs.declared.TheConstants.Status.{UNEXPECTED, INVALID_PARAMETER, OUT_OF_MEMORY}
use Rattle.edl_interface.specs.declared.Param.{Param}
use Rattle.edl_interface.specs.declared.Function.{Function}
use Rattle.edl_interface.specs.Parameters.{is_marshalled, unit_of, address_in, return_size}
use Rattle.edl_interface.specs.Lengths.{length_in, copied_length}
use Rattle.word_port.specs.declared.Side.TheVariants.{Enclave}
use Rattle.word_port.specs.Interaction.{Interaction, ret, here, and_then, map_value}
use Rattle.word_port.specs.Accesses.{loads, stores}
use Rattle.call_copy.specs.Copies.{copy_out}
use Rattle.call_report.specs.declared.CallRecord.{CallRecord}
use Rattle.call_machine.specs.declared.Machine.{Machine}
use Rattle.call_machine.specs.Context.{Context, context_in_ecall}
use Rattle.call_machine.specs.Result.{and_then_ok}
use Rattle.call_machine.specs.Ecall.{Ocalls, Answered, shape_of, interpret, body_of}
use Rattle.bridge_program.specs.declared.Instr.{Instr}
use Rattle.bridge_program.specs.declared.Instr.TheVariants.{Begin, NoFrame, Frame, Length, Outside, Fence, Divide, Alloc, CopyIn, Zero, TextEnd, Call, PutReturn, CopyOut}

-- where the bridge of an ECALL stands: the one copy of its frame, a block or null for each marshalled parameter so far, and the room that is left; once its function has run, the number that it gave, where its answer begins, and the records of the calls in it
pub record State : Type 0 where
  pub frame : List ℕ
  pub blocks : List (Option (List ℕ))
  pub room : ℕ
  pub value : ℕ
  pub turn : ℕ
  pub records : List CallRecord

-- what is done by an instruction: a new state, or a refusal
abbrev pub Doing : Type 0
Doing = Interaction (Result State Status)

-- a refusal where the test holds
abbrev pub refuse_if : Bool → Status → State → Doing
refuse_if test status s = ret (if test then Err status else Ok s)

-- the place of a parameter's block: the marshalled parameters before it have theirs first
abbrev pub place_of : ℕ → List Param → ℕ
place_of zero params = zero
place_of (suc n) [] = zero
place_of (suc n) (p ∷ params) = if is_marshalled p.class then suc (place_of n params) else place_of n params

-- the block at a place, or null
abbrev pub block_at : State → ℕ → Option (List ℕ)
block_at s place = unwrap_or (slice_get s.blocks place) None

-- with these bytes in the block at a place
abbrev pub with_block : State → ℕ → List ℕ → State
with_block s place bytes = record s { blocks = slice_set s.blocks place (Some bytes) }

-- what is done with a block; nothing with null
abbrev pub unless_null : Option (List ℕ) → State → (List ℕ → Doing) → Doing
unless_null None s next = ret (Ok s)
unless_null (Some bytes) s next = next bytes

-- what is done with a parameter; nothing where there is none of this number
abbrev pub with_param : Option Param → State → (Param → Doing) → Doing
with_param None s next = ret (Ok s)
with_param (Some p) s next = next p

-- Length: the product of size and count is not above 64 bits
abbrev pub length_tested : Function → State → Param → Doing
length_tested f s p = refuse_if (not (nat_lt (length_in f s.frame p) (2 ^ 64))) INVALID_PARAMETER s

-- Outside: a pointer that is not null has its range in host memory
abbrev pub range_tested : ℕ → Function → State → Param → Doing
range_tested host f s p =
    refuse_if (not (address_in s.frame p == 0) && not (is_host_range host (address_in s.frame p) (length_in f s.frame p))) INVALID_PARAMETER s

-- Divide: what is copied is whole elements
abbrev pub division_tested : Function → State → Param → Doing
division_tested f s p =
    refuse_if (not (copied_length f s.frame p == 0) && not (is_divisible (length_in f s.frame p) (unit_of p.class))) INVALID_PARAMETER s

-- the next block, which takes room; nothing is in it yet
abbrev pub with_room_taken : State → ℕ → State
with_room_taken s length = record s { blocks = s.blocks ++ Some [] ∷ []; room = s.room - rounded_size length }

-- Alloc: null where the pointer is null or the length 0, else a block where there is room
abbrev pub allocated : Function → State → Param → Doing
allocated f s p =
    if copied_length f s.frame p == 0 then ret (Ok (record s { blocks = s.blocks ++ None ∷ [] }))
    else ret (if nat_lt s.room (rounded_size (length_in f s.frame p)) then Err OUT_OF_MEMORY else Ok (with_room_taken s (length_in f s.frame p)))

-- CopyIn: the block's bytes are loaded
abbrev pub copied_in : Function → ℕ → State → Param → Doing
copied_in f place s p =
    unless_null (block_at s place) s (λ bytes.
    map_value (λ loaded. Ok (with_block s place loaded)) (loads Enclave (address_in s.frame p) (length_in f s.frame p)))

-- Zero: the block's bytes are 0
abbrev pub zeroed : Function → ℕ → State → Param → Doing
zeroed f place s p = unless_null (block_at s place) s (λ bytes. ret (Ok (with_block s place (replicate (length_in f s.frame p) 0))))

-- TextEnd: the block's last unit becomes 0, and no earlier one is 0
abbrev pub text_ended : ℕ → State → Param → Doing
text_ended place s p =
    unless_null (block_at s place) s (λ bytes.
    ret (if has_early_end (unit_of p.class) (terminated_text (unit_of p.class) bytes) then Err UNEXPECTED
    else Ok (with_block s place (terminated_text (unit_of p.class) bytes))))

-- CopyOut: the block is put back
abbrev pub copied_out : ℕ → State → Param → Doing
copied_out place s p =
    unless_null (block_at s place) s (λ bytes. map_value (λ done. Ok s) (copy_out (shape_of p.class) (address_in s.frame p) bytes))

-- what an instruction does in the bridge of an ECALL of this function, at a frame's address
abbrev pub means : Machine → Ocalls → Context → ℕ → ℕ → Function → Instr → State → Doing
means m ocalls cx ordinal address f Begin s = ret (Ok s)
means m ocalls cx ordinal address f NoFrame s = refuse_if (not (address == 0)) INVALID_PARAMETER s
means m ocalls cx ordinal address f Frame s =
    if address == 0 || not (is_host_range m.script.settings.host address f.frame_size) then ret (Err INVALID_PARAMETER)
    else map_value (λ bytes. Ok (record s { frame = bytes })) (loads Enclave address f.frame_size)
means m ocalls cx ordinal address f (Length n) s = with_param (slice_get f.params n) s (length_tested f s)
means m ocalls cx ordinal address f (Outside n) s = with_param (slice_get f.params n) s (range_tested m.script.settings.host f s)
means m ocalls cx ordinal address f Fence s = ret (Ok s)
means m ocalls cx ordinal address f (Divide n) s = with_param (slice_get f.params n) s (division_tested f s)
means m ocalls cx ordinal address f (Alloc n) s = with_param (slice_get f.params n) s (allocated f s)
means m ocalls cx ordinal address f (CopyIn n) s = with_param (slice_get f.params n) s (copied_in f (place_of n f.params) s)
means m ocalls cx ordinal address f (Zero n) s = with_param (slice_get f.params n) s (zeroed f (place_of n f.params) s)
means m ocalls cx ordinal address f (TextEnd n) s = with_param (slice_get f.params n) s (text_ended (place_of n f.params) s)
means m ocalls cx ordinal address f Call s =
    and_then (interpret m ocalls (context_in_ecall cx ordinal s.room) (body_of m ordinal f s.frame (record { blocks = s.blocks; room = s.room }))) (λ done.
    here (λ turn. ret (Ok (record s { blocks = done.blocks; value = done.value; turn = turn; records = done.records }))))
means m ocalls cx ordinal address f PutReturn s = map_value (λ stored. Ok s) (stores Enclave address (low_bytes (return_size f) s.value))
means m ocalls cx ordinal address f (CopyOut n) s = with_param (slice_get f.params n) s (copied_out (place_of n f.params) s)
means m ocalls cx ordinal address f _ s = ret (Ok s)

-- a list does what its instructions do, one after another, up to a refusal
abbrev pub list_means : Machine → Ocalls → Context → ℕ → ℕ → Function → List Instr → State → Doing
list_means m ocalls cx ordinal address f [] s = ret (Ok s)
list_means m ocalls cx ordinal address f (instr ∷ rest) s = and_then_ok (means m ocalls cx ordinal address f instr s) (list_means m ocalls cx ordinal address f rest)

-- where a bridge begins
abbrev pub first_state : Context → State
first_state cx = record { frame = []; blocks = []; room = cx.room; value = 0; turn = 0; records = [] }

-- what is known of an answered ECALL at its end
abbrev pub answer_of : Result State Status → Result Answered Status
answer_of (Ok s) = Ok (record { turn = s.turn; records = s.records })
answer_of (Err status) = Err status

-- an entry that carries out a list
abbrev pub entry_by_list : Machine → Ocalls → Context → ℕ → ℕ → Function → List Instr → Interaction (Result Answered Status)
entry_by_list m ocalls cx ordinal address f list = map_value answer_of (list_means m ocalls cx ordinal address f list (first_state cx))
