use Rattle.std.proofs.Common.{◌≡◌, ◌<◌, ◌^◌, drop}
use Rattle.sgx_base.specs.Numbers.{digits_value}
use Rattle.sgx_base.proofs.Spelling.{value_after}
use Rattle.sgx_base.proofs.numbers.value_of_digits.Given as goal

abbrev pub invariant-loop-digit : goal.invariant-loop-digit
invariant-loop-digit l = (l.value < 2 ^ 64) × (value_after l.base l.value (drop l.digit-index l.digits) ≡ digits_value l.base l.digits)
