-- Interfaces that rows of scripts are read for.
use Rattle.std.specs.Prelude.{ℕ, Bool, true, false, List, [], ◌∷◌, Option, Some, None, codes}
use Prim.Native.String.{String}
use Rattle.sgx_base.specs.declared.Passing.TheVariants.{Inward, Outward}
use Rattle.edl_interface.specs.declared.Plain.{Plain}
use Rattle.edl_interface.specs.declared.Class.{Class}
use Rattle.edl_interface.specs.declared.Class.TheVariants.{Plain as by_value, UserCheck, Buffer}
use Rattle.edl_interface.specs.declared.Amount.TheVariants.{Number, Param as of_param}
use Rattle.edl_interface.specs.declared.Param.{Param}
use Rattle.edl_interface.specs.declared.Function.{Function}
use Rattle.edl_interface.specs.declared.Interface.{Interface}

abbrev pub integer : ℕ → Bool → Plain
integer size signed = record { size = size; integer = true; signed = signed }

abbrev pub opaque : ℕ → Plain
opaque size = record { size = size; integer = false; signed = false }

abbrev pub param : String → ℕ → Class → Param
param text offset class = record { name = codes text; offset = offset; class = class }

abbrev pub function : String → Bool → Option Plain → List Param → ℕ → Function
function text switchless ret params size =
    record {
      name = codes text;
      is_public = true;
      switchless = switchless;
      ret = ret;
      params = params;
      allow = [];
      frame_size = size;
    }

-- uint64_t f([in, size=len] const uint8_t* buf, size_t len)
abbrev pub sum_function : Function
sum_function =
    function "f" false (Some (integer 8 false)) (param "buf" 8 (Buffer Inward (of_param 1) (Number 1) 1)
    ∷ param "len" 16 (by_value (integer 8 false)) ∷ []) 24

abbrev pub sum_interface : Interface
sum_interface = record { ecalls = sum_function ∷ []; ocalls = [] }

-- void g(uint8_t a, int8_t b, double d, [user_check] void* u)
abbrev pub value_function : Function
value_function =
    function "g" false None (param "a" 0 (by_value (integer 1 false)) ∷ param "b" 1 (by_value (integer 1 true))
    ∷ param "d" 8 (by_value (opaque 8)) ∷ param "u" 16 UserCheck ∷ []) 24

-- void o([out, size=4] uint8_t* p), uint32_t w(int x) transition_using_threads, void z(), void d(double v, [in, size=2]
-- uint8_t* q, [user_check] void* u)
abbrev pub ocall_functions : List Function
ocall_functions =
    function "o" false None (param "p" 0 (Buffer Outward (Number 4) (Number 1) 1) ∷ []) 8
    ∷ function "w" true (Some (integer 4 false)) (param "x" 4 (by_value (integer 4 true)) ∷ []) 8
    ∷ function "z" false None [] 0
    ∷ function "d" false None (param "v" 0 (by_value (opaque 8)) ∷ param "q" 8 (Buffer Inward (Number 2) (Number 1) 1)
    ∷ param "u" 16 UserCheck ∷ []) 24
    ∷ []

abbrev pub wide_interface : Interface
wide_interface =
    record { ecalls = sum_function ∷ value_function ∷ function "n" false None [] 0 ∷ []; ocalls = ocall_functions }
