-- What the words of a body stand for: registers, blocks and values.
use Rattle.std.specs.Prelude.{ℕ, ◌-◌, Bool, true, false, not, ◌&&◌, ◌||◌, if◌then◌else◌, nat_le, List, ◌++◌, map, filter, position, slice_index, Option, Some, None, is_some, is_none, option_map, codes, length, ◌==◌}
use Rattle.std.specs.Str.{bytes_eq}
use Rattle.sgx_base.specs.Numbers.{spelled_number}
use Rattle.edl_interface.specs.declared.Param.{Param}
use Rattle.edl_interface.specs.declared.Class.{Class}
use Rattle.edl_interface.specs.declared.Class.TheVariants.{Plain as by_value, UserCheck}
use Rattle.edl_interface.specs.Parameters.{is_marshalled}
use Rattle.body_vm.specs.declared.Operand.{Operand}
use Rattle.body_vm.specs.declared.Operand.TheVariants.{Number, Reg, Value}
use Rattle.body_vm.specs.declared.Pass.{Pass}
use Rattle.body_vm.specs.declared.Pass.TheVariants.{Value as by_number, Bytes as by_block}
use Rattle.call_script.specs.Spelling.{Word, is_dotted_name}

-- the names of a body: the parameters of its function, and its temporaries in order
pub record BodyNames : Type 0 where
  pub params : List Param
  pub temporaries : List Word

abbrev pub is_register_word : Word → Bool
is_register_word w =
    length w == 2 && (slice_index w 0 == 114 && (nat_le 48 (slice_index w 1) && nat_le (slice_index w 1) 55))

-- `r0` to `r7`
abbrev pub register_of : Word → Option ℕ
register_of w = if is_register_word w then Some (slice_index w 1 - 48) else None

-- the blocks: the marshalled parameters in order, then the temporaries
abbrev pub block_names : BodyNames → List Word
block_names names = map (λ p. p.name) (filter (λ p. is_marshalled p.class) names.params) ++ names.temporaries

abbrev pub block_of : BodyNames → Word → Option ℕ
block_of names w = position (bytes_eq w) (block_names names)

-- an integer, or an address that is not looked at
abbrev pub is_value_class : Class → Bool
is_value_class (by_value plain) = plain.integer
is_value_class UserCheck = true
is_value_class _ = false

abbrev pub is_opaque_class : Class → Bool
is_opaque_class (by_value plain) = not plain.integer
is_opaque_class _ = false

-- the place of the parameter of this name, of such a class
abbrev pub param_of : (Class → Bool) → BodyNames → Word → Option ℕ
param_of test names w = position (λ p. bytes_eq p.name w && test p.class) names.params

abbrev pub is_param : BodyNames → Word → Bool
is_param names w = is_some (param_of (λ _. true) names w)

abbrev pub operand_by : Option ℕ → Option ℕ → Option ℕ → Option Operand
operand_by (Some n) register param = Some (Number n)
operand_by None (Some r) param = Some (Reg r)
operand_by None None (Some place) = Some (Value place)
operand_by None None None = None

-- a number, a register, or else an integer or `user_check` parameter
abbrev pub operand_of : BodyNames → Word → Option Operand
operand_of names w = operand_by (spelled_number w) (register_of w) (param_of is_value_class names w)

-- ---- an argument of an OCALL

-- `null`, or a block
abbrev pub block_pass : BodyNames → Word → Option Pass
block_pass names w =
    if bytes_eq w (codes "null") then Some (by_block None)
    else option_map (λ place. by_block (Some place)) (block_of names w)

abbrev pub pass_of : BodyNames → Param → Word → Option Pass
pass_of names p w = if is_marshalled p.class then block_pass names w else option_map by_number (operand_of names w)

-- a word that stands for something in the body, wherever it may stand
abbrev pub is_known : BodyNames → Word → Bool
is_known names w =
    is_some (register_of w) || is_some (block_of names w) || is_param names w || bytes_eq w (codes "null")

-- a name that stands for nothing, or at a value for a parameter that no value can be had of
abbrev pub is_unknown_argument : BodyNames → Param → Word → Bool
is_unknown_argument names p w =
    is_none (pass_of names p w) && is_dotted_name w
    && (not (is_known names w) || (not (is_marshalled p.class) && is_some (param_of is_opaque_class names w)))

-- any other word that does not fit
abbrev pub is_wrong_pass : BodyNames → Param → Word → Bool
is_wrong_pass names p w = is_none (pass_of names p w) && not (is_unknown_argument names p w)
