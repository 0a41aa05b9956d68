-- What a sample's script is read for.
use Rattle.std.specs.Prelude.{true, false, [], ◌∷◌, Some, codes}
use Rattle.sgx_base.specs.declared.Passing.TheVariants.{Inward}
use Rattle.edl_interface.specs.declared.Amount.TheVariants.{Number, Param as by_param}
use Rattle.edl_interface.specs.declared.Class.{Class}
use Rattle.edl_interface.specs.declared.Class.TheVariants.{Plain as by_value, Buffer}
use Rattle.edl_interface.specs.declared.Plain.{Plain}
use Rattle.edl_interface.specs.declared.Function.{Function}
use Rattle.edl_interface.specs.declared.Interface.{Interface}

-- an unsigned number of 64 bits
abbrev pub word_type : Plain
word_type = record { size = 8; integer = true; signed = false }

-- bytes that are handed in, as many as the parameter of place 1 says
abbrev pub buffer_class : Class
buffer_class = Buffer Inward (by_param 1) (Number 1) 1

-- `public uint64_t f([in, size=len] const uint8_t* buf, size_t len);`
abbrev pub sampled : Function
sampled = record {
  name = codes "f";
  is_public = true;
  switchless = false;
  ret = Some word_type;
  params = record { name = codes "buf"; offset = 8; class = buffer_class }
      ∷ record { name = codes "len"; offset = 16; class = by_value word_type } ∷ [];
  allow = [];
  frame_size = 24;
}

-- that function alone
abbrev pub sample_interface : Interface
sample_interface = record { ecalls = sampled ∷ []; ocalls = [] }
