-- A product that is cut off, against a limit below.
use Rattle.std.proofs.Common.{arith, ℕ, ◌≡◌, ◌*◌, ◌^◌, ◌-◌, ◌∙◌, ap}
use Rattle.std.specs.Prelude.{min, nat_lt}
use Rattle.script_faults.proofs.AroundLaws.{cut_product}

above : (n : ℕ) → nat_lt 1048576 (min n (2 ^ 64 - 1)) ≡ nat_lt 1048576 n
above n = grind arith

pub product_above : (p t : ℕ) → nat_lt 1048576 (min (min p (2 ^ 64 - 1) * t) (2 ^ 64 - 1)) ≡ nat_lt 1048576 (p * t)
product_above p t = ap (nat_lt 1048576) (cut_product p t (2 ^ 64 - 1)) ∙ above (p * t)
