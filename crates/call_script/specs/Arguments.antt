-- Arguments of calls by the host: their forms, and their values.
use Rattle.std.specs.Prelude.{ℕ, ◌-◌, ◌*◌, ◌^◌, Bool, false, not, ◌&&◌, ◌||◌, ◌==◌, if◌then◌else◌, nat_lt, nat_le, List, length, Option, Some, None, is_some, is_none, option_and_then, unwrap_or, codes}
use Rattle.std.specs.Str.{bytes_eq}
use Rattle.sgx_base.specs.Numbers.{is_decimal, spelled_number}
use Rattle.edl_interface.specs.declared.Plain.{Plain}
use Rattle.edl_interface.specs.declared.Class.{Class}
use Rattle.edl_interface.specs.declared.Class.TheVariants.{Plain as by_value}
use Rattle.call_script.specs.declared.CallArg.{CallArg}
use Rattle.call_script.specs.declared.CallArg.TheVariants.{At, Null, Number, Bytes}
use Rattle.call_script.specs.declared.Place.{Place}
use Rattle.call_script.specs.declared.Place.TheVariants.{At as at_address, InFrame}
use Rattle.call_script.specs.Spelling.{Word, is_number, is_place, is_place_out, is_in_frame, frame_offset, spelled_bytes, is_bad_hex, behind_at, behind_hash, behind_minus}

abbrev pub holds_of : (Word → Bool) → Option Word → Bool
holds_of test None = false
holds_of test (Some w) = test w

-- ---- forms

-- a number, or `-` and decimal digits
abbrev pub is_integer_word : Word → Bool
is_integer_word w = is_number w || holds_of is_decimal (behind_minus w)

-- `null`, or `@` and a place
abbrev pub is_pointer_word : Word → Bool
is_pointer_word w = bytes_eq w (codes "null") || holds_of is_place (behind_at w)

-- the word has not the form of an argument for this class
abbrev pub is_wrong_argument : Class → Word → Bool
is_wrong_argument (by_value plain) w = not (if plain.integer then is_integer_word w else is_some (behind_hash w))
is_wrong_argument _ w = not (is_pointer_word w)

-- ---- values

-- whether a type has the number n, and whether it has the number that is n below 0
abbrev pub has_number : Plain → ℕ → Bool
has_number plain n = if plain.signed then nat_lt (2 * n) (2 ^ (8 * plain.size)) else nat_lt n (2 ^ (8 * plain.size))

abbrev pub has_negative : Plain → ℕ → Bool
has_negative plain n = if plain.signed then nat_le (2 * n) (2 ^ (8 * plain.size)) else n == 0

-- the two's complement, in 64 bits, of the number that is n below 0
abbrev pub complement : ℕ → ℕ
complement n = if n == 0 then 0 else 2 ^ 64 - n

abbrev pub if_holds : Bool → ℕ → Option ℕ
if_holds test n = if test then Some n else None

abbrev pub integer_by : Plain → Word → Option Word → Option ℕ
integer_by plain w None = option_and_then (λ n. if_holds (has_number plain n) n) (spelled_number w)
integer_by plain w (Some digits) =
    option_and_then (λ n. if_holds (has_negative plain n) (complement n)) (spelled_number digits)

-- the number of an integer that its type has
abbrev pub integer_of : Plain → Word → Option ℕ
integer_of plain w = integer_by plain w (behind_minus w)

-- an integer that its type has not, or bytes of another size
abbrev pub is_misfit : Class → Word → Bool
is_misfit (by_value plain) w =
    if plain.integer then is_integer_word w && is_none (integer_of plain w)
    else
    holds_of (λ hex. not (is_bad_hex hex) && not (length (unwrap_or (spelled_bytes hex) (codes "")) == plain.size))
    (behind_hash w)
is_misfit _ w = false

abbrev pub is_bad_hex_argument : Class → Word → Bool
is_bad_hex_argument (by_value plain) w = not plain.integer && holds_of is_bad_hex (behind_hash w)
is_bad_hex_argument _ w = false

-- at any class: an address or an offset that is too large, and a place in a frame
abbrev pub is_place_argument_out : Word → Bool
is_place_argument_out w = holds_of is_place_out (behind_at w)

abbrev pub is_frame_argument : Word → Bool
is_frame_argument w = holds_of is_in_frame (behind_at w)

abbrev pub number_of : Word → ℕ
number_of w = unwrap_or (spelled_number w) 0

abbrev pub place_by : Word → Option Word → Place
place_by w None = at_address (number_of w)
place_by w (Some offset) = InFrame (number_of offset)

-- the place that a word names
abbrev pub place_named : Word → Place
place_named w = place_by w (frame_offset w)

abbrev pub pointer_by : Option Word → CallArg
pointer_by None = Null
pointer_by (Some w) = At (place_named w)

-- the bytes that a word spells
abbrev pub bytes_of : Word → List ℕ
bytes_of hex = unwrap_or (spelled_bytes hex) (codes "")

-- the argument that a word is for a class
abbrev pub argument_of : Class → Word → CallArg
argument_of (by_value plain) w =
    if plain.integer then Number (unwrap_or (integer_of plain w) 0)
    else Bytes (bytes_of (unwrap_or (behind_hash w) (codes "")))
argument_of _ w = pointer_by (behind_at w)
