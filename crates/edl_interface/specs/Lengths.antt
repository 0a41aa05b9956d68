-- The length of a marshalled parameter, over the bytes of a marshalling structure.
use Rattle.std.specs.Prelude.{ℕ, ◌+◌, ◌*◌, ◌==◌, if◌then◌else◌, List, option_map, unwrap_or, slice_get}
use Rattle.sgx_base.specs.Bytes.{little_endian, part}
use Rattle.edl_interface.specs.declared.Amount.{Amount}
use Rattle.edl_interface.specs.declared.Amount.TheVariants.{Number, Param as of_param}
use Rattle.edl_interface.specs.declared.Class.{Class}
use Rattle.edl_interface.specs.declared.Class.TheVariants.{Buffer, Text, Fixed}
use Rattle.edl_interface.specs.declared.Param.{Param}
use Rattle.edl_interface.specs.declared.Function.{Function}
use Rattle.edl_interface.specs.Parameters.{value_in, address_in}

-- the number that a size or a count is; a parameter's value is converted to 64 bits
abbrev pub amount_in : Function → List ℕ → Amount → ℕ
amount_in f frame (Number n) = n
amount_in f frame (of_param i) = unwrap_or (option_map (value_in frame) (slice_get f.params i)) 0

-- the length of a string, which an ECALL's structure has right after its address
abbrev pub text_length_in : List ℕ → Param → ℕ
text_length_in frame p = little_endian (part frame (p.offset + 8) 8)

-- the product of size and count, as a number without bound
abbrev pub length_in : Function → List ℕ → Param → ℕ
length_in f frame p = length_by p.class
  where
    length_by : Class → ℕ
    length_by (Buffer way size count unit) = amount_in f frame size * amount_in f frame count
    length_by (Text way unit) = text_length_in frame p
    length_by (Fixed way length unit) = length
    length_by _ = 0

-- the length that a parameter is copied at: 0 where its pointer is null
abbrev pub copied_length : Function → List ℕ → Param → ℕ
copied_length f frame p = if address_in frame p == 0 then 0 else length_in f frame p
