-- Numbers in byte lists.
use Rattle.std.proofs.Common.{ℕ, zero, suc, ◌≡◌, ◌+◌, ◌-◌, ◌*◌, ◌^◌, ◌<◌, ◌≤◌, Bool, true, false, ◌&&◌, nat_le, cond, Fits, w8, List, [], ◌∷◌, drop, length, arith, get_or, ap, ◌∙◌, add-one, refl}
use Rattle.std.proofs.Math.Seq.{drop-cons}
use Rattle.std.proofs.Math.Nat.{mul-suc, pow-le-pow_right}
use Rattle.std.proofs.lemmas.Nat.{pow-add, pow_pos}
use Rattle.sgx_base.specs.Bytes.{little_endian, extension_of}

-- the number of the last bytes is at most that of all
pub little_endian_drop : (n : ℕ) (bytes : List ℕ) → little_endian (drop n bytes) ≤ little_endian bytes
little_endian_drop zero bytes = omega arith
little_endian_drop (suc n) [] = omega arith
little_endian_drop (suc n) (b ∷ bytes) = let h = little_endian_drop n bytes in omega arith

-- one byte more at the front
pub little_endian_step : (n : ℕ) (bytes : List ℕ) → n < length bytes → little_endian (drop n bytes) ≡ get_or bytes n 0 + 256 * little_endian (drop (n + 1) bytes)
little_endian_step n bytes h = ap little_endian (drop-cons bytes n 0 h) ∙ rw add-one refl

-- a byte before the last ones makes 256 times their number
pub little_endian_above : (n : ℕ) (bytes : List ℕ) → 0 < n → n ≤ length bytes → 256 * little_endian (drop n bytes) ≤ little_endian bytes
little_endian_above zero bytes positive h = absurd (omega arith)
little_endian_above (suc n) bytes positive h =
    let whole = little_endian_drop n bytes in
    let step : little_endian (drop n bytes) ≡ get_or bytes n 0 + 256 * little_endian (drop (suc n) bytes) = ap little_endian (drop-cons bytes n 0 (omega arith)) in
    omega arith

-- so many bytes are a number of so many bytes
pub little_endian_bound : (bytes : List ℕ) → ((i : ℕ) → Fits w8 (get_or bytes i 0)) → (n : ℕ) → length bytes ≤ n → little_endian bytes < 2 ^ (8 * n)
little_endian_bound [] h n few = pow_pos (8 * n)
little_endian_bound (b ∷ bytes) h zero few = absurd (omega arith)
little_endian_bound (b ∷ bytes) h (suc n) few =
    let rest : little_endian bytes < 2 ^ (8 * n) = little_endian_bound bytes (λ i. h (suc i)) n (omega arith) in
    let first : Fits w8 b = h 0 in
    let here : b < 256 = omega arith in
    let all : 2 ^ (8 * suc n) ≡ 2 ^ (8 * n) * 256 = ap (λ k. 2 ^ k) (mul-suc 8 n) ∙ pow-add 2 (8 * n) 8 in
    rw all (omega (arith, rest, here))

-- a number of more than 8 bytes is not extended
pub extension_wide : (size : ℕ) (signed : Bool) (n : ℕ) → 9 ≤ size → extension_of size signed n ≡ n
extension_wide size signed n wide =
    let some : 0 < 2 = omega arith in
    let high : 2 ^ 64 ≤ 2 ^ (8 * size) = pow-le-pow_right some {i = 64} {j = 8 * size} (omega arith) in
    elim (signed && nat_le (2 ^ (8 * size)) (2 * n)) as (λ b. cond b (n + (2 ^ 64 - 2 ^ (8 * size))) n ≡ n) [ true ↦ omega arith | false ↦ refl ]

-- no byte is the number 0 at every type
pub extension_none : (size : ℕ) (signed : Bool) (bytes : List ℕ) → size < 1 → length bytes ≤ size → extension_of size signed (little_endian bytes) ≡ little_endian bytes
extension_none zero true [] none few = refl
extension_none zero false [] none few = refl
extension_none zero signed (b ∷ bytes) none few = absurd (omega arith)
extension_none (suc size) signed bytes none few = absurd (omega arith)
