-- The units of a byte list, and the first of them that is 0.
use Rattle.std.proofs.Common.{ℕ, zero, suc, ◌+◌, ◌*◌, ◌/◌, ◌<◌, ◌≤◌, ◌≡◌, List, [], length, take, drop, get_or, Bool, true, false, cond, Some, None, option_map, refl, ap, sym, ◌∙◌, arith, ltb}
use Rattle.std.proofs.Math.Nat.{zero-mul}
use Rattle.std.proofs.lemmas.Bool.{lt-ltb, le-ltb}
use Rattle.std.proofs.lemmas.List.{drop-drop}
use Rattle.std.proofs.lemmas.List.Sums.{position_or_len_is}
use Rattle.std.specs.List.{position, position_or_len}
use Rattle.sgx_base.specs.Texts.{units, is_zero_unit, terminated_length}

-- the unit of this number
abbrev pub unit_at : ℕ → List ℕ → ℕ → List ℕ
unit_at unit bytes k = take unit (drop (k * unit) bytes)

-- there are as many units as were asked for
pub units_length : (unit n : ℕ) (bytes : List ℕ) → length (units unit n bytes) ≡ n
units_length unit zero bytes = refl
units_length unit (suc n) bytes = ap suc (units_length unit n (drop unit bytes))

-- each of them begins where those before it end
pub units_at : (unit n : ℕ) (bytes : List ℕ) (k : ℕ) → k < n → get_or (units unit n bytes) k [] ≡ unit_at unit bytes k
units_at unit zero bytes k h = absurd (omega arith)
units_at unit (suc n) bytes zero h = rw zero-mul
units_at unit (suc n) bytes (suc k) h =
    let e : get_or (units unit n (drop unit bytes)) k [] ≡ unit_at unit (drop unit bytes) k = units_at unit n (drop unit bytes) k (omega arith) in
    let place : unit + k * unit ≡ suc k * unit = omega arith in
    e ∙ ap (take unit) (drop-drop (k * unit) unit bytes ∙ ap (λ m. drop m bytes) place)

-- the place that passes first is the position
position_is : {X : Type 0} (p : X → Bool) (xs : List X) (i : ℕ) → position_or_len p xs ≡ i → i < length xs → position p xs ≡ Some i
position_is p xs i e h = ap (λ n. cond (ltb n (length xs)) (Some n) None) e ∙ ap (λ b. cond b (Some i) None) (lt-ltb i (length xs) h)

-- where no place passes, there is no position
position_is_none : {X : Type 0} (p : X → Bool) (xs : List X) → position_or_len p xs ≡ length xs → position p xs ≡ None
position_is_none p xs e =
    ap (λ n. cond (ltb n (length xs)) (Some n) None) e ∙ ap (λ b. cond b (Some (length xs)) None) (le-ltb (length xs) (length xs) (omega arith))

-- the unit 0 that is found first ends the string
pub found_at : (unit : ℕ) (bytes : List ℕ) (i : ℕ) → i < length bytes / unit
    → ((k : ℕ) → k < i → is_zero_unit (unit_at unit bytes k) ≡ false) → is_zero_unit (unit_at unit bytes i) ≡ true
    → Some ((i + 1) * unit) ≡ terminated_length unit bytes
found_at unit bytes i inside before here =
    let count : length (units unit (length bytes / unit) bytes) ≡ length bytes / unit = units_length unit (length bytes / unit) bytes in
    let first : position_or_len is_zero_unit (units unit (length bytes / unit) bytes) ≡ i =
    position_or_len_is is_zero_unit (units unit (length bytes / unit) bytes) i [] (omega (arith, count))
    (λ k h. ap is_zero_unit (units_at unit (length bytes / unit) bytes k (omega (arith, h, inside))) ∙ before k h)
    (λ _. ap is_zero_unit (units_at unit (length bytes / unit) bytes i inside) ∙ here) in
    sym (ap (option_map (λ k. (k + 1) * unit)) (position_is is_zero_unit (units unit (length bytes / unit) bytes) i first (omega (arith, count))))

-- where no unit is 0, the string has no end
pub none_found : (unit : ℕ) (bytes : List ℕ) (i : ℕ) → length bytes / unit ≤ i
    → ((k : ℕ) → k < i → is_zero_unit (unit_at unit bytes k) ≡ false) → None ≡ terminated_length unit bytes
none_found unit bytes i all none =
    let count : length (units unit (length bytes / unit) bytes) ≡ length bytes / unit = units_length unit (length bytes / unit) bytes in
    let past : position_or_len is_zero_unit (units unit (length bytes / unit) bytes) ≡ length (units unit (length bytes / unit) bytes) =
    position_or_len_is is_zero_unit (units unit (length bytes / unit) bytes) (length (units unit (length bytes / unit) bytes)) [] (omega arith)
    (λ k h. ap is_zero_unit (units_at unit (length bytes / unit) bytes k (omega (arith, h, count))) ∙ none k (omega (arith, h, count, all)))
    (λ h. absurd (omega (arith, h))) in
    sym (ap (option_map (λ k. (k + 1) * unit)) (position_is_none is_zero_unit (units unit (length bytes / unit) bytes) past))
