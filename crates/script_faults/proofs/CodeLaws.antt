-- The code of the first row that is broken, from row to row.
use Rattle.std.proofs.Common.{ℕ, ◌≡◌, Bool, true, false, List, [], ◌∷◌, Option, Some, None, refl, ◌∙◌}
use Rattle.std.specs.Prelude.{if◌then◌else◌}
use Rattle.call_script.specs.Faults.{Row, row}
use Rattle.script_faults.specs.Codes.{first_code}

-- this is the code of the first of these rows that is broken
pub record IsFirst (rows : List Row) (code : Option ℕ) : Type 0 where
  pub is : code ≡ first_code rows

by-test : (code : ℕ) (b t : Bool) (rest : List Row) (x y : Option ℕ) → t ≡ b → y ≡ first_code rest
    → x ≡ (if t then Some code else y) → x ≡ first_code (row code b ∷ rest)
by-test code true t rest x y e f g = let z = rw e at g in z
by-test code false t rest x y e f g = let z = rw e at g in z ∙ f

pub step : (code : ℕ) {b t : Bool} {rest : List Row} {x y : Option ℕ} → t ≡ b → IsFirst rest y
    → x ≡ (if t then Some code else y) → IsFirst (row code b ∷ rest) x
step code {b} {t} {rest} {x} {y} e f g = record { is = by-test code b t rest x y e f.is g }

pub none : IsFirst [] None
none = record { is = refl }
