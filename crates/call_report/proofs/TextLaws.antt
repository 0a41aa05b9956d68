-- Where a string ends.
use Rattle.std.proofs.Common.{ℕ, zero, suc, ◌≡◌, ◌+◌, ◌*◌, ◌/◌, ◌<◌, ◌≤◌, Bool, true, false, cond, nat_lt, List, length, drop, Option, Some, None, option_map, IfSome, refl, ap, ◌∙◌, sym, arith, inl, inr}
use Rattle.std.proofs.Math.Nat.{mul-le-mul_right, div-mul-le_self}
use Rattle.std.proofs.lemmas.Bool.{lt-ltb, le-ltb, cases_lt}
use Rattle.std.specs.List.{position_or_len}
use Rattle.sgx_base.specs.Texts.{units, is_zero_unit, terminated_length}

-- so many units are so many
units_length : (unit n : ℕ) (bytes : List ℕ) → length (units unit n bytes) ≡ n
units_length unit zero bytes = refl
units_length unit (suc n) bytes = ap suc (units_length unit n (drop unit bytes))

-- the place of the first unit 0, of all the units
abbrev first_zero : ℕ → List ℕ → ℕ
first_zero unit bytes = position_or_len is_zero_unit (units unit (length bytes / unit) bytes)

terminated_by : (unit : ℕ) (bytes : List ℕ) (b : Bool) → nat_lt (first_zero unit bytes) (length bytes / unit) ≡ b
    → terminated_length unit bytes ≡ option_map (λ k. (k + 1) * unit) (cond b (Some (first_zero unit bytes)) None)
terminated_by unit bytes b t =
    let all = units_length unit (length bytes / unit) bytes in
    rw (all, t) refl

ends_within : (unit n : ℕ) (bytes : List ℕ) → Some n ≡ terminated_length unit bytes → n ≤ length bytes
ends_within unit n bytes e = elim (cases_lt (first_zero unit bytes) (length bytes / unit)) as (λ _. n ≤ length bytes) [
  | inl h ↦
      let f : Some n ≡ Some ((first_zero unit bytes + 1) * unit) = e ∙ terminated_by unit bytes true (lt-ltb _ _ h) in
      let g : n ≡ (first_zero unit bytes + 1) * unit = cc in
      let a : first_zero unit bytes + 1 ≤ length bytes / unit = omega (arith, h) in
      let b : (first_zero unit bytes + 1) * unit ≤ (length bytes / unit) * unit = mul-le-mul_right unit a in
      let c : (length bytes / unit) * unit ≤ length bytes = div-mul-le_self (length bytes) unit in
      omega (arith, g, b, c)
  | inr h ↦
      let f : Some n ≡ None = e ∙ terminated_by unit bytes false (le-ltb _ _ h) in
      absurd (cc)
]

-- a string ends within its bytes
pub terminated_within : (unit : ℕ) (bytes : List ℕ) (found : Option ℕ) → found ≡ terminated_length unit bytes → IfSome found (λ n. n ≤ length bytes)
terminated_within unit bytes (Some n) e = ends_within unit n bytes e
terminated_within unit bytes None e = tt
