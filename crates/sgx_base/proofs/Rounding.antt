-- Sizes rounded up to a multiple of 16.
use Rattle.std.proofs.Common.{ℕ, ◌+◌, ◌*◌, ◌/◌, ◌%◌, ◌<◌, ◌≤◌, ◌≡◌, arith}
use Rattle.std.proofs.Math.Nat.{mul-mod_left}
use Rattle.sgx_base.specs.Bytes.{rounded_size}

-- rounding makes no size smaller
pub size-le-rounded : (n : ℕ) → n ≤ rounded_size n
size-le-rounded n = omega arith

-- it adds less than 16
pub rounded-lt : (n : ℕ) → rounded_size n < n + 16
rounded-lt n = omega arith

-- a rounded size is a multiple of 16
pub rounded-mod : (n : ℕ) → rounded_size n % 16 ≡ 0
rounded-mod n = mul-mod_left ((n + 15) / 16) 16

-- of a multiple of 16 nothing changes
pub rounded_of_multiple : (k : ℕ) → rounded_size (k * 16) ≡ k * 16
rounded_of_multiple k = omega arith

-- a size above 0 stays above 0
pub rounded-pos : (n : ℕ) → 0 < n → 0 < rounded_size n
rounded-pos n h = omega arith

-- a multiple of 16 that holds n bytes holds them rounded up
pub rounded-le : (n k : ℕ) → n ≤ k * 16 → rounded_size n ≤ k * 16
rounded-le n k h = omega arith
