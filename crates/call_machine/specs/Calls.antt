-- How the host calls an ECALL: the lengths of its strings, a frame on its stack, the entry, and the return.
use Rattle.std.specs.Prelude.{ℕ, zero, suc, ◌+◌, ◌≡◌, ◌⊎◌, Bool, true, false, not, ◌&&◌, ◌==◌, nat_lt, if◌then◌else◌, List, [], ◌∷◌, replicate, zip, fold, Option, Some, None, slice_get}
use Rattle.sgx_base.specs.Bytes.{low_bytes, with_bytes_at}
use Rattle.sgx_base.specs.Ranges.{is_mapped}
use Rattle.sgx_base.specs.Texts.{is_zero_unit}
use Rattle.sgx_base.specs.declared.TheConstants.Status.{UNEXPECTED}
use Rattle.edl_interface.specs.declared.Class.{Class}
use Rattle.edl_interface.specs.declared.Param.{Param}
use Rattle.edl_interface.specs.declared.Function.{Function}
use Rattle.edl_interface.specs.Parameters.{is_text, unit_of, field_size, has_frame, return_size}
use Rattle.word_port.specs.declared.Side.TheVariants.{Host}
use Rattle.word_port.specs.Events.{new_record}
use Rattle.word_port.specs.Interaction.{Interaction, ret, here, tick, and_then, map_value}
use Rattle.word_port.specs.Accesses.{loads, stores}
use Rattle.word_port.specs.Port.{PortState}
use Rattle.word_port.specs.Runs.{Makes}
use Rattle.ocall_frames.specs.Stack.{frame_below}
use Rattle.switchless.specs.declared.Pool.{Pool}
use Rattle.switchless.specs.Slots.{offered_word}
use Rattle.switchless.specs.Caller.{caller}
use Rattle.call_script.specs.declared.CallArg.{CallArg}
use Rattle.call_script.specs.declared.CallArg.TheVariants.{At, Null, Number, Bytes}
use Rattle.call_script.specs.declared.Settings.{Settings}
use Rattle.call_script.specs.Words.{ecall_slots}
use Rattle.call_report.specs.declared.Way.TheVariants.{Ordinary, Fallback, Taken}
use Rattle.call_report.specs.declared.CallRecord.{CallRecord}
use Rattle.call_machine.specs.declared.Machine.{Machine}
use Rattle.call_machine.specs.Acts.{place_address}
use Rattle.call_machine.specs.Context.{Context}
use Rattle.bridge_program.specs.Entry.{is_empty}
use Rattle.call_machine.specs.Result.{Outcome, is_success}
use Rattle.call_machine.specs.Ecall.{Ecalls, ecall_record}

-- loads a string's units up to a unit 0, or to where host memory ends; gives the length with one unit more
abbrev pub string_loads : ℕ → ℕ → ℕ → ℕ → Interaction ℕ
string_loads zero host unit address = ret unit
string_loads (suc units) host unit address =
    if is_mapped host address unit
    then and_then (loads Host address unit) (λ bytes. if is_zero_unit bytes then ret unit else map_value (λ n. n + unit) (string_loads units host unit (address + unit)))
    else ret unit

-- what was loaded where a string goes on at an address, or ends there: its unit is 0, or not in host memory
abbrev pub IsUnitSeen : ℕ → ℕ → ℕ → PortState → PortState → Bool → Type 0
IsUnitSeen host unit address old new true =
    (is_mapped host address unit ≡ true) × ((bytes : List ℕ) × Makes (loads Host address unit) old new bytes × (is_zero_unit bytes ≡ false))
IsUnitSeen host unit address old new false =
    ((is_mapped host address unit ≡ false) × (new ≡ old))
    ⊎ ((is_mapped host address unit ≡ true) × ((bytes : List ℕ) × Makes (loads Host address unit) old new bytes × (is_zero_unit bytes ≡ true)))

-- the address of a pointer's argument, where frames of the handler begin at this one
abbrev pub argument_address : ℕ → CallArg → ℕ
argument_address frame (At place) = place_address frame place
argument_address frame _ = 0

-- the length of a string argument whose pointer is not null, found by loads, and 0 for any other
abbrev pub string_length : ℕ → ℕ → Class → CallArg → Interaction ℕ
string_length host frame class arg =
    if is_text class && not (argument_address frame arg == 0) then string_loads host host (unit_of class) (argument_address frame arg) else ret 0

-- the length of each argument, in order
abbrev pub string_lengths : ℕ → ℕ → List (Param × CallArg) → Interaction (List ℕ)
string_lengths host frame [] = ret []
string_lengths host frame ((p, arg) ∷ rest) =
    and_then (string_length host frame p.class arg) (λ n.
    map_value (λ lengths. n ∷ lengths) (string_lengths host frame rest))

-- the bytes of an argument's field
abbrev pub field_bytes : ℕ → ℕ → CallArg → List ℕ
field_bytes frame size (At place) = low_bytes size (argument_address frame (At place))
field_bytes frame size Null = low_bytes size 0
field_bytes frame size (Number n) = low_bytes size n
field_bytes frame size (Bytes bytes) = bytes

-- an argument in its field; a string's length stands right after its address
abbrev pub with_field : ℕ → List ℕ → Param × CallArg × ℕ → List ℕ
with_field frame structure (p, arg, n) =
    let filled = with_bytes_at structure p.offset (field_bytes frame (field_size p.class) arg) in
    if is_text p.class then with_bytes_at filled (p.offset + 8) (low_bytes 8 n) else filled

-- each argument with the length that was found
abbrev pub with_lengths : List (Param × CallArg) → List ℕ → List (Param × CallArg × ℕ)
with_lengths ((p, arg) ∷ rest) (n ∷ lengths) = (p, arg, n) ∷ with_lengths rest lengths
with_lengths _ _ = []

-- the frame that the host writes: its fields, and 0 in the return and the padding
abbrev pub call_frame : Function → ℕ → List CallArg → List ℕ → List ℕ
call_frame f frame args lengths = fold (with_field frame) (replicate f.frame_size 0) (with_lengths (zip f.params args) lengths)

-- the pool for ECALLs
abbrev pub ecall_pool : Settings → Pool
ecall_pool settings = record { from = ecall_slots settings; slots = settings.slots; retries = settings.retries }

-- an entry whose record takes its place just before it
abbrev pub with_record : Interaction Outcome → Interaction Outcome
with_record t = tick new_record t

-- the record of a call that a worker took; its steps are those of the role
abbrev pub taken_record : Context → ℕ → ℕ → ℕ → ℕ → ℕ → CallRecord
taken_record cx ordinal frame status first last = ecall_record cx ordinal frame Taken (record { 0 = status }) first last last

-- the entry after a role that fell back, or the record of a call that was taken
abbrev pub unless_taken : Ecalls → Context → ℕ → ℕ → ℕ → Option ℕ → Interaction Outcome
unless_taken ecalls cx ordinal frame first None = ecalls cx ordinal frame Fallback
unless_taken ecalls cx ordinal frame first (Some status) =
    here (λ last. ret (record { status = record { 0 = status }; records = taken_record cx ordinal frame status first last ∷ [] }))

-- enters: by a caller's role where a pool has workers for the function and no call is in progress, else the ordinary way
abbrev pub entry : Machine → Ecalls → Context → ℕ → Function → ℕ → Interaction Outcome
entry m ecalls cx ordinal f frame =
    with_record (if is_empty cx.stack && (f.switchless && nat_lt 0 m.script.settings.tworkers)
    then here (λ first. and_then (caller (ecall_pool m.script.settings) (offered_word ordinal frame)) (unless_taken ecalls cx ordinal frame first))
    else ecalls cx ordinal frame Ordinary)

-- loads the return where the call succeeded
abbrev pub with_return : Function → ℕ → Outcome → Interaction (List CallRecord)
with_return f frame out =
    if is_success out.status then map_value (λ bytes. out.records) (loads Host frame (return_size f)) else ret out.records

-- the record of a call whose frame does not fit the host stack
abbrev pub no_frame : Context → ℕ → Interaction (List CallRecord)
no_frame cx ordinal = tick new_record (here (λ place. ret (ecall_record cx ordinal 0 Ordinary UNEXPECTED place place place ∷ [])))

-- the frame is written, the call is made, and its return is loaded
abbrev pub call_in_frame : Machine → Ecalls → Context → ℕ → Function → List ℕ → ℕ → Interaction (List CallRecord)
call_in_frame m ecalls cx ordinal f bytes frame =
    and_then (stores Host frame bytes) (λ stored.
    and_then (entry m ecalls (record cx { top = frame }) ordinal f frame) (with_return f frame))

-- a call whose frame has an address, or does not fit
abbrev pub call_where : Machine → Ecalls → Context → ℕ → Function → (ℕ → List ℕ) → Option ℕ → Interaction (List CallRecord)
call_where m ecalls cx ordinal f bytes None = no_frame cx ordinal
call_where m ecalls cx ordinal f bytes (Some frame) = call_in_frame m ecalls cx ordinal f (bytes frame) frame

-- a call by the host; places in a frame are those of the handler's frame
abbrev pub call_to : Machine → Ecalls → Context → ℕ → ℕ → List CallArg → Option Function → Interaction (List CallRecord)
call_to m ecalls cx handler_frame ordinal args None = ret []
call_to m ecalls cx handler_frame ordinal args (Some f) =
    if has_frame f
    then and_then (string_lengths m.script.settings.host handler_frame (zip f.params args)) (λ lengths.
    call_where m ecalls cx ordinal f (λ frame. call_frame f handler_frame args lengths) (frame_below cx.base cx.top f.frame_size))
    else map_value (λ out. out.records) (entry m ecalls cx ordinal f 0)

-- a call by its ordinal
abbrev pub host_call : Machine → Ecalls → Context → ℕ → ℕ → List CallArg → Interaction (List CallRecord)
host_call m ecalls cx handler_frame ordinal args = call_to m ecalls cx handler_frame ordinal args (slice_get m.interface.ecalls ordinal)

-- an entry at an address of the script's own, which is never posted
abbrev pub raw_call : Ecalls → Context → ℕ → ℕ → Interaction (List CallRecord)
raw_call ecalls cx ordinal address = map_value (λ out. out.records) (with_record (ecalls cx ordinal address Ordinary))
