-- Numbers of so many bytes.
use Rattle.std.proofs.Common.{arith, ℕ, ◌+◌, ◌-◌, ◌*◌, ◌^◌, ◌<◌, ◌≤◌, ◌≡◌, Bool, true, false, inl, inr}
use Rattle.std.specs.Prelude.{nat_lt, nat_le, not, ◌==◌, if◌then◌else◌}
use Rattle.edl_interface.specs.declared.Plain.{Plain}
use Rattle.call_script.specs.Arguments.{has_number, has_negative}
use Rattle.std.proofs.lemmas.Bool.{cases_lt}
use Rattle.std.proofs.lemmas.Bool.Decides.{nat_tests}
use Rattle.std.proofs.Math.Pow.{pow_mono}

module _ (size n : ℕ) where
  -- eight bytes hold any number of 64 bits
  pub eight : 8 ≤ size → n < 2 ^ 64 → n < 2 ^ (8 * size)
  eight s l = let at : 64 ≤ 8 * size = omega arith in let p : 2 ^ 64 ≤ 2 ^ (8 * size) = pow_mono at in omega (arith, p)

  -- where the double has more than 64 bits, more than 8 bytes hold it
  pub double : n < 2 ^ 64 → ¬ (n * 2 < 2 ^ 64) → nat_lt 8 size ≡ nat_lt (2 * n) (2 ^ (8 * size))
  double l m = elim (cases_lt 8 size) [
    | inl s ↦
        let at : 72 ≤ 8 * size = omega arith in
        let p : 2 ^ 72 ≤ 2 ^ (8 * size) = pow_mono at in
        let k : 2 * n < 2 ^ (8 * size) = omega (arith, p) in
        grind (arith, nat_tests, k, s)
    | inr s ↦
        let at : 8 * size ≤ 64 = omega arith in
        let p : 2 ^ (8 * size) ≤ 2 ^ 64 = pow_mono at in
        let k : 2 ^ (8 * size) ≤ 2 * n = omega (arith, p) in
        grind (arith, nat_tests, k, s)
  ]

  pub double_below : n < 2 ^ 64 → ¬ (n + (n - 1) < 2 ^ 64) → nat_lt 8 size ≡ nat_le (2 * n) (2 ^ (8 * size))
  double_below l m = elim (cases_lt 8 size) [
    | inl s ↦
        let at : 72 ≤ 8 * size = omega arith in
        let p : 2 ^ 72 ≤ 2 ^ (8 * size) = pow_mono at in
        let k : 2 * n ≤ 2 ^ (8 * size) = omega (arith, p) in
        grind (arith, nat_tests, k, s)
    | inr s ↦
        let at : 8 * size ≤ 64 = omega arith in
        let p : 2 ^ (8 * size) ≤ 2 ^ 64 = pow_mono at in
        let k : 2 ^ (8 * size) < 2 * n = omega (arith, p) in
        grind (arith, nat_tests, k, s)
  ]

module _ (plain : Plain) (n : ℕ) where
  pub no_double : not plain.signed ≡ false → n < 2 ^ 64 → ¬ (n * 2 < 2 ^ 64) → nat_lt 8 plain.size ≡ has_number plain n
  no_double e l m = go plain.signed e
    where
      go : (s : Bool) → not s ≡ false
          → nat_lt 8 plain.size
          ≡ (if s then nat_lt (2 * n) (2 ^ (8 * plain.size)) else nat_lt n (2 ^ (8 * plain.size)))
      go true e = double plain.size n l m
      go false e = absurd cc

  pub no_double_below : not plain.signed ≡ false → n < 2 ^ 64 → ¬ (n + (n - 1) < 2 ^ 64)
      → nat_lt 8 plain.size ≡ has_negative plain n
  no_double_below e l m = go plain.signed e
    where
      go : (s : Bool) → not s ≡ false
          → nat_lt 8 plain.size ≡ (if s then nat_le (2 * n) (2 ^ (8 * plain.size)) else n == 0)
      go true e = double_below plain.size n l m
      go false e = absurd cc
