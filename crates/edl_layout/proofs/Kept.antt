-- Numbers that stand still at the largest one of 64 bits.
use Rattle.std.proofs.Common.{ℕ, zero, suc, ◌+◌, ◌-◌, ◌*◌, ◌/◌, ◌^◌, ◌<◌, ◌≤◌, ◌≡◌, sym, ◌∙◌, ap, arith, ⊎_elim, add-zero}
use Rattle.std.proofs.Math.Nat.{lt-div-mul-add, mul-zero, le-mul_of_pos_right}
use Rattle.std.proofs.lemmas.Bool.{cases_lt}
use Rattle.sgx_base.specs.Bytes.{round_up}
use Rattle.edl_layout.specs.Ends.{kept}
use Rattle.edl_layout.proofs.Rounding.{round_up-zero}

pub kept-small : (n : ℕ) → n < 2 ^ 64 → kept n ≡ n
kept-small n h = omega arith

kept-large : (n : ℕ) → 2 ^ 64 - 1 ≤ n → kept n ≡ 2 ^ 64 - 1
kept-large n h = omega arith

-- both are too large
kept_same : (a b : ℕ) → 2 ^ 64 - 1 ≤ a → 2 ^ 64 - 1 ≤ b → kept a ≡ kept b
kept_same a b h k = kept-large a h ∙ sym (kept-large b k)

pub kept_kept-add : (n s : ℕ) → kept (kept n + s) ≡ kept (n + s)
kept_kept-add n s = omega arith

pub kept_kept-mul : (n m : ℕ) → kept (kept n * m) ≡ kept (n * m)
kept_kept-mul n zero = ap kept (mul-zero (kept n) ∙ sym (mul-zero n))
kept_kept-mul n (suc m) =
    ⊎_elim
    (λ (small : n < 2 ^ 64). ap (λ k. kept (k * suc m)) (kept-small n small))
    (λ (large : 2 ^ 64 ≤ n).
    let most : kept n ≡ 2 ^ 64 - 1 = omega arith in
    let pos : 0 < suc m = omega arith in
    let above : n ≤ n * suc m = le-mul_of_pos_right n pos in
    let kept_above : kept n ≤ kept n * suc m = le-mul_of_pos_right (kept n) pos in
    kept_same (kept n * suc m) (n * suc m) (omega arith) (omega arith))
    (cases_lt n (2 ^ 64))

le-round_up : (n a : ℕ) → 0 < a → n ≤ round_up n a
le-round_up n a pos =
    let above : n + (a - 1) < (n + (a - 1)) / a * a + a = lt-div-mul-add pos in
    omega arith

pub kept_round : (n a s : ℕ) → kept (round_up (kept n) a + s) ≡ kept (round_up n a + s)
kept_round n zero s = ap (λ r. kept (r + s)) (round_up-zero (kept n) ∙ sym (round_up-zero n))
kept_round n (suc a) s =
    ⊎_elim
    (λ (small : n < 2 ^ 64). ap (λ k. kept (round_up k (suc a) + s)) (kept-small n small))
    (λ (large : 2 ^ 64 ≤ n).
    let most : kept n ≡ 2 ^ 64 - 1 = omega arith in
    let pos : 0 < suc a = omega arith in
    let above : n ≤ round_up n (suc a) = le-round_up n (suc a) pos in
    let kept_above : kept n ≤ round_up (kept n) (suc a) = le-round_up (kept n) (suc a) pos in
    kept_same (round_up (kept n) (suc a) + s) (round_up n (suc a) + s) (omega arith) (omega arith))
    (cases_lt n (2 ^ 64))

pub kept_round-alone : (n a : ℕ) → kept (round_up (kept n) a) ≡ kept (round_up n a)
kept_round-alone n a = ap kept (sym (add-zero (round_up (kept n) a))) ∙ kept_round n a 0 ∙ ap kept (add-zero (round_up n a))

-- what is above a number where it is kept is above it
pub kept-above : (m n : ℕ) → m < kept n → m < n
kept-above m n h = omega arith

-- what is at most a small number where it is kept is at most it
pub kept-below : (m n : ℕ) → m < 2 ^ 64 - 1 → kept n ≤ m → n ≤ m
kept-below m n small h = omega arith
