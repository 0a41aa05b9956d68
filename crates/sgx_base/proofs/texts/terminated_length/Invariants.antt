use Rattle.std.proofs.Common.{ℕ, ◌≡◌, ◌<◌, false}
use Rattle.sgx_base.specs.Texts.{is_zero_unit}
use Rattle.sgx_base.proofs.Units.{unit_at}
use Rattle.sgx_base.proofs.texts.terminated_length.Given as goal

abbrev pub invariant-loop-i : goal.invariant-loop-i
invariant-loop-i l = (k : ℕ) → k < l.i → is_zero_unit (unit_at l.size l.bytes k) ≡ false
