-- What is known only where types may be nested deep enough.
use Rattle.std.specs.Prelude.{◌≡◌, ◌≤◌, ℕ, Option, Some, None}

-- it is not known, or is this
abbrev pub IsUnknownOr : {X : Type 0} → X → Option X → Type 0
IsUnknownOr x None = Unit {0}
IsUnknownOr x (Some y) = y ≡ x

-- from some depth on it is known to be this, and at no depth to be another
pub record IsSettled {X : Type 0} (at : ℕ → Option X) (x : X) : Type 0 where
  pub from : ℕ
  pub deep : (n : ℕ) → from ≤ n → at n ≡ Some x
  pub only : (n : ℕ) → IsUnknownOr x (at n)

-- what it is, or None where it is known at no depth
abbrev pub Settles : {X : Type 0} → (ℕ → Option X) → Option X → Type 0
Settles at None = (n : ℕ) → at n ≡ None
Settles at (Some x) = IsSettled at x
