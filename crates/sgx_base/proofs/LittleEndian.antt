-- Numbers and the bytes that they are, the lowest first.
use Rattle.std.proofs.Common.{ℕ, zero, suc, ◌+◌, ◌*◌, ◌/◌, ◌%◌, ◌^◌, ◌<◌, ◌≤◌, ◌≡◌, List, [], ◌∷◌, length, drop, All, refl, ap, arith, length-drop}
use Rattle.std.proofs.Math.Nat.{pow-suc, pow-le-pow_right, mod-add-div, div-lt_iff_lt-mul}
use Rattle.std.proofs.lemmas.Nat.{mod_below}
use Rattle.std.proofs.lemmas.List.Elements.{All-nil, All-cons, All-head, All-tail, All-drop}
use Rattle.sgx_base.specs.Bytes.{little_endian, low_bytes}

-- so many low bytes are so many
pub low_bytes_length : (k n : ℕ) → length (low_bytes k n) ≡ k
low_bytes_length zero n = refl
low_bytes_length (suc k) n = ap suc (low_bytes_length k (n / 256))

-- each low byte is a byte
pub low_bytes_below : (k n : ℕ) → All (λ b. b < 256) (low_bytes k n)
low_bytes_below zero n = All-nil (λ b. b < 256)
low_bytes_below (suc k) n = All-cons (λ b. b < 256) (n % 256) (low_bytes k (n / 256)) (mod_below n 256 (omega arith)) (low_bytes_below k (n / 256))

-- the number that bytes are is below 256 to the power of how many they are
pub little_endian_below : (bytes : List ℕ) → All (λ b. b < 256) bytes → little_endian bytes < 256 ^ length bytes
little_endian_below [] h = omega arith
little_endian_below (b ∷ bytes) h =
    let rest : little_endian bytes < 256 ^ length bytes = little_endian_below bytes (All-tail (λ x. x < 256) b bytes h) in
    let here : b < 256 = All-head (λ x. x < 256) b bytes h in
    rw pow-suc (omega (arith, rest, here))

-- the low bytes of a number that fits them are that number
pub little_endian_of_low_bytes : (k n : ℕ) → n < 256 ^ k → little_endian (low_bytes k n) ≡ n
little_endian_of_low_bytes zero n h = let none : n < 1 = h in omega (arith, none)
little_endian_of_low_bytes (suc k) n h =
    let more : n < 256 ^ k * 256 = rw pow-suc at h in
    let high : n / 256 < 256 ^ k = (div-lt_iff_lt-mul {k = 256} {x = n} {y = 256 ^ k} (omega arith)).1 more in
    let e : little_endian (low_bytes k (n / 256)) ≡ n / 256 = little_endian_of_low_bytes k (n / 256) high in
    rw e (mod-add-div n 256)

-- eight low bytes are the whole of a number of 64 bits
pub little_endian_of_eight : (n : ℕ) → n < 2 ^ 64 → little_endian (low_bytes 8 n) ≡ n
little_endian_of_eight n h = little_endian_of_low_bytes 8 n h

-- the low bytes of the number that bytes are, as many as they are, are those bytes
pub low_bytes_of_little_endian : (bytes : List ℕ) → All (λ b. b < 256) bytes → low_bytes (length bytes) (little_endian bytes) ≡ bytes
low_bytes_of_little_endian [] h = refl
low_bytes_of_little_endian (b ∷ bytes) h =
    let here : b < 256 = All-head (λ x. x < 256) b bytes h in
    let rest : low_bytes (length bytes) (little_endian bytes) ≡ bytes = low_bytes_of_little_endian bytes (All-tail (λ x. x < 256) b bytes h) in
    let low : (b + 256 * little_endian bytes) % 256 ≡ b = omega (arith, here) in
    let high : (b + 256 * little_endian bytes) / 256 ≡ little_endian bytes = omega (arith, here) in
    rw (low, high, rest)

-- a number that is read from less than eight bytes has room for one byte more
pub little_endian_has_room : (bytes : List ℕ) (i : ℕ) → All (λ b. b < 256) bytes → length bytes ≤ 8 → 0 < i → little_endian (drop i bytes) < 2 ^ 56
little_endian_has_room bytes i h short some =
    let few : length (drop i bytes) ≤ 7 = omega (arith, length-drop i bytes) in
    let below : little_endian (drop i bytes) < 256 ^ length (drop i bytes) = little_endian_below (drop i bytes) (All-drop (λ b. b < 256) i bytes h) in
    let most : 256 ^ length (drop i bytes) ≤ 256 ^ 7 = pow-le-pow_right (omega arith) few in
    omega (arith, below, most)
