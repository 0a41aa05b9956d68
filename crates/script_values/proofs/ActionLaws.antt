-- Numbers of cells, and of actions passed over.
use Rattle.std.proofs.Common.{arith, ℕ, ◌-◌, ◌<◌, ◌≤◌, ◌^◌, ◌≡◌, Bool, false, List, [], ◌∷◌, refl}
use Rattle.std.specs.Prelude.{◌||◌, nat_le, nat_lt}
use Rattle.std.proofs.lemmas.Bool.{or_parts, or_from, leb-false, ltb-false, lt-leb, le-ltb}
use Rattle.call_script.specs.Spelling.{Word}
use Rattle.call_script.specs.Arguments.{number_of}
use Rattle.call_script.specs.Line.{Part, Role, Register, Block, Value, CellNumber, SkipCount}
use Rattle.call_script.specs.Parts.{any_part, is_no_cell, is_skip_past}

pub below : (n : ℕ) (b : Bool) → nat_le (2 ^ 32) n || b ≡ false → n < 2 ^ 32
below n b e = leb-false (2 ^ 32) n (or_parts _ _ e).0

pub not_above : (n : ℕ) (b : Bool) → nat_lt (2 ^ 32 - 1) n || b ≡ false → n < 2 ^ 32
not_above n b e = let l = ltb-false (2 ^ 32 - 1) n (or_parts _ _ e).0 in omega arith

-- a rule that no part breaks, and one that is broken no oftener
no_part : (f g : Role → Word → Bool) → ((role : Role) (w : Word) → f role w ≡ false → g role w ≡ false)
    → (parts : List Part) → any_part f parts ≡ false → any_part g parts ≡ false
no_part f g h [] e = refl
no_part f g h (p ∷ parts) e =
    let both = or_parts (f p.role p.word) (any_part f parts) e in
    or_from _ _ (h p.role p.word both.0) (no_part f g h parts both.1)

-- below a number of cells, and so below a larger one
pub cells_below : (k m : ℕ) → k ≤ m → (parts : List Part) → any_part (is_no_cell k) parts ≡ false
    → any_part (is_no_cell m) parts ≡ false
cells_below k m l = no_part (is_no_cell k) (is_no_cell m) go
  where
    go : (role : Role) (w : Word) → is_no_cell k role w ≡ false → is_no_cell m role w ≡ false
    go Register w e = refl
    go Block w e = refl
    go Value w e = refl
    go CellNumber w e = let less = leb-false k (number_of w) e in lt-leb m (number_of w) (omega arith)
    go SkipCount w e = refl

-- not past so many actions, and so not past more
pub skips_within : (k m : ℕ) → k ≤ m → (parts : List Part) → any_part (is_skip_past k) parts ≡ false
    → any_part (is_skip_past m) parts ≡ false
skips_within k m l = no_part (is_skip_past k) (is_skip_past m) go
  where
    go : (role : Role) (w : Word) → is_skip_past k role w ≡ false → is_skip_past m role w ≡ false
    go Register w e = refl
    go Block w e = refl
    go Value w e = refl
    go CellNumber w e = refl
    go SkipCount w e = let most = ltb-false k (number_of w) e in le-ltb m (number_of w) (omega arith)
