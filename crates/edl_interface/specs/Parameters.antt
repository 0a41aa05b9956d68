-- How the parameters of a function are passed.
use Rattle.std.specs.Prelude.{ℕ, ◌≡◌, ◌≤◌, Bool, true, false, ◌||◌, ◌==◌, not, List, length, filter, Option, Some, None, if◌then◌else◌, is_some, option_map, unwrap_or}
use Rattle.sgx_base.specs.Bytes.{little_endian, part, extension_of}
use Rattle.sgx_base.specs.Passing.{is_inward, is_outward}
use Rattle.sgx_base.specs.declared.Passing.{Passing}
use Rattle.edl_interface.specs.declared.Plain.{Plain}
use Rattle.edl_interface.specs.declared.Class.{Class}
use Rattle.edl_interface.specs.declared.Class.TheVariants.{Plain as by_value, UserCheck, Buffer, Text, Fixed, Foreign}
use Rattle.edl_interface.specs.declared.Param.{Param}
use Rattle.edl_interface.specs.declared.Function.{Function}

-- the way in which it is copied, where it is marshalled
abbrev pub way_of : Class → Option Passing
way_of (by_value plain) = None
way_of UserCheck = None
way_of (Buffer way size count unit) = Some way
way_of (Text way unit) = Some way
way_of (Fixed way length unit) = Some way
way_of (Foreign way) = way

-- whether it is copied between host and enclave
abbrev pub is_marshalled : Class → Bool
is_marshalled class = is_some (way_of class)

-- whether it is copied in
abbrev pub is_in : Class → Bool
is_in class = unwrap_or (option_map is_inward (way_of class)) false

-- whether it is copied back
abbrev pub is_out : Class → Bool
is_out class = unwrap_or (option_map is_outward (way_of class)) false

-- whether it is a string
abbrev pub is_text : Class → Bool
is_text (Text way unit) = true
is_text _ = false

-- the size of its element
abbrev pub unit_of : Class → ℕ
unit_of (Buffer way size count unit) = unit
unit_of (Text way unit) = unit
unit_of (Fixed way length unit) = unit
unit_of _ = 1

-- the size of its field; a pointer's is 8
abbrev pub field_size : Class → ℕ
field_size (by_value plain) = plain.size
field_size _ = 8

-- the marshalled parameters, in order
abbrev pub marshalled : Function → List Param
marshalled f = filter (λ p. is_marshalled p.class) f.params

-- a function has a frame where it has a parameter or a return
abbrev pub has_frame : Function → Bool
has_frame f = not (length f.params == 0) || is_some f.ret

-- the bytes of a parameter's field
abbrev pub field_of : List ℕ → Param → List ℕ
field_of frame p = part frame p.offset (field_size p.class)

-- the address in a pointer's or an array's field
abbrev pub address_in : List ℕ → Param → ℕ
address_in frame p = little_endian (part frame p.offset 8)

-- the number that bytes are at a type, as one of 64 bits
abbrev pub value_at : Plain → List ℕ → ℕ
value_at plain bytes = extension_of plain.size plain.signed (little_endian bytes)

-- the number in a parameter's field: that of an integer, an address, and 0 for what no body can name
abbrev pub value_in : List ℕ → Param → ℕ
value_in frame p = value_by p.class
  where
    value_by : Class → ℕ
    value_by (by_value plain) = if plain.integer then value_at plain (field_of frame p) else 0
    value_by UserCheck = address_in frame p
    value_by _ = 0

-- an integer has at most 8 bytes
abbrev pub IsWordSized : Class → Type 0
IsWordSized (by_value plain) = plain.integer ≡ true → plain.size ≤ 8
IsWordSized _ = Unit {0}

-- the return's size, 0 where there is none
abbrev pub return_size : Function → ℕ
return_size f = unwrap_or (option_map (λ r. r.size) f.ret) 0
