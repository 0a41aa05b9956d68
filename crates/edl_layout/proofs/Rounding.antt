-- Places rounded up to an alignment, and numbers that stand still at the largest one.
use Rattle.std.proofs.Common.{ℕ, ◌+◌, ◌-◌, ◌*◌, ◌/◌, ◌%◌, ◌<◌, ◌≤◌, ◌≡◌, ◌∙◌, ap, arith}
use Rattle.std.proofs.Math.Nat.{div-eq_of_lt-le, div-add-mod', mul-zero}
use Rattle.std.proofs.lemmas.Nat.{mod_below}
use Rattle.sgx_base.specs.Bytes.{round_up}

-- no alignment, no place
pub round_up-zero : (n : ℕ) → round_up n 0 ≡ 0
round_up-zero n = mul-zero ((n + (0 - 1)) / 0)

-- a multiple stays
pub round_up-multiple : (n a : ℕ) → 0 < a → n % a ≡ 0 → round_up n a ≡ n
round_up-multiple n a pos e =
    let whole : n / a * a + n % a ≡ n = div-add-mod' n a in
    let low : n / a * a ≤ n + (a - 1) = omega arith in
    let one_more : (n / a + 1) * a ≡ n / a * a + a = grind arith in
    let high : n + (a - 1) < (n / a + 1) * a = omega arith in
    ap (λ q. q * a) (div-eq_of_lt-le {k = n / a} a {m = n + (a - 1)} low high) ∙ omega arith

-- what is left over is filled up
pub round_up-over : (n a : ℕ) → 0 < n % a → 0 < a → round_up n a ≡ n + (a - n % a)
round_up-over n a over pos =
    let whole : n / a * a + n % a ≡ n = div-add-mod' n a in
    let below : n % a < a = mod_below n a pos in
    let one_more : (n / a + 1) * a ≡ n / a * a + a = grind arith in
    let two_more : (n / a + 1 + 1) * a ≡ n / a * a + a + a = grind arith in
    let low : (n / a + 1) * a ≤ n + (a - 1) = omega arith in
    let high : n + (a - 1) < (n / a + 1 + 1) * a = omega arith in
    ap (λ q. q * a) (div-eq_of_lt-le {k = n / a + 1} a {m = n + (a - 1)} low high) ∙ omega arith
