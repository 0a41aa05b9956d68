-- The fields of marshalling structures lie one after another.
use Rattle.std.specs.Prelude.{ℕ, ◌+◌, ◌≤◌, List, [], ◌∷◌, All}
use Rattle.edl_interface.specs.declared.Interface.{Interface}
use Rattle.edl_interface.specs.declared.Function.{Function}
use Rattle.edl_interface.specs.declared.Param.{Param}
use Rattle.edl_interface.specs.Parameters.{field_size}

-- each field begins at or after the end of the one before it, and ends within so many bytes
abbrev pub AreInOrder : ℕ → ℕ → List Param → Type 0
AreInOrder from size [] = Unit {0}
AreInOrder from size (p ∷ params) = (from ≤ p.offset) × (p.offset + field_size p.class ≤ size) × AreInOrder (p.offset + field_size p.class) size params

-- the fields of a function are so in its structure
abbrev pub HasFieldsInOrder : Function → Type 0
HasFieldsInOrder f = AreInOrder 0 f.frame_size f.params

-- those of each function are
pub record IsInOrder (i : Interface) : Type 0 where
  pub ecalls : All HasFieldsInOrder i.ecalls
  pub ocalls : All HasFieldsInOrder i.ocalls
