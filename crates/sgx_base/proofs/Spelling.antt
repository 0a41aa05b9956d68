-- The value of digits, and when it fits 64 bits.
use Rattle.std.proofs.Common.{ℕ, suc, ◌+◌, ◌*◌, ◌^◌, ◌<◌, ◌≤◌, ◌≡◌, List, [], ◌∷◌, length, drop, get_or, fold, None, Some, arith}
use Rattle.std.proofs.Math.Nat.{mul-le-mul_right}
use Rattle.std.proofs.Math.Seq.{drop-cons}
use Rattle.std.proofs.lemmas.Grind.{common_steps}
use Rattle.std.proofs.lemmas.List.{drop_all}
use Rattle.std.specs.Char.{digit_value}
use Rattle.sgx_base.specs.Numbers.{if_fits, digits_value}

-- the value of digits, where those before them have a value
abbrev pub value_after : ℕ → ℕ → List ℕ → ℕ
value_after base = fold (λ n digit. base * n + digit_value digit)

-- more digits make no value smaller
pub value_grows : (base n : ℕ) (digits : List ℕ) → 1 ≤ base → n ≤ value_after base n digits
value_grows base n [] h = omega arith
value_grows base n (d ∷ digits) h =
    let rest : base * n + digit_value d ≤ value_after base (base * n + digit_value d) digits = value_grows base (base * n + digit_value d) digits h in
    let times : 1 * n ≤ base * n = mul-le-mul_right n h in
    omega (arith, rest, times)

-- one digit more
pub value_at : (base n : ℕ) (digits : List ℕ) (i : ℕ) → i < length digits → value_after base n (drop i digits) ≡ value_after base (base * n + digit_value (get_or digits i 0)) (drop (suc i) digits)
value_at base n digits i h = rw (drop-cons digits i 0 h)

-- a value of 2^64 or more does not fit
pub none_fits : (n : ℕ) → 2 ^ 64 ≤ n → None ≡ if_fits n
none_fits n h = grind (arith, common_steps)

-- a value below 2^64 fits
pub some_fits : (n : ℕ) → n < 2 ^ 64 → Some n ≡ if_fits n
some_fits n h = grind (arith, common_steps)

-- where a value with its next digit does not fit, the whole does not
pub whole_too_large : (base n : ℕ) (digits : List ℕ) (i : ℕ) → 1 ≤ base → i < length digits
    → value_after base n (drop i digits) ≡ digits_value base digits → 2 ^ 64 ≤ base * n + digit_value (get_or digits i 0)
    → None ≡ if_fits (digits_value base digits)
whole_too_large base n digits i some inside so_far large =
    let grows : base * n + digit_value (get_or digits i 0) ≤ value_after base (base * n + digit_value (get_or digits i 0)) (drop (suc i) digits) =
    value_grows base (base * n + digit_value (get_or digits i 0)) (drop (suc i) digits) some in
    none_fits (digits_value base digits) (omega (arith, large, grows, value_at base n digits i inside, so_far))

-- where no digit is left, the value is that of the whole
pub whole_fits : (base n : ℕ) (digits : List ℕ) (i : ℕ) → length digits ≤ i → n < 2 ^ 64
    → value_after base n (drop i digits) ≡ digits_value base digits → Some n ≡ if_fits (digits_value base digits)
whole_fits base n digits i past fits so_far =
    let e : n ≡ digits_value base digits = rw (drop_all i digits past) at so_far in
    rw (← e) (some_fits n fits)
