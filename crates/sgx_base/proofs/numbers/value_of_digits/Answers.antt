use Rattle.std.proofs.Common.{◌+◌, ◌*◌, ◌^◌, ◌<◌, ◌≤◌, length, get_or, arith}
use Rattle.std.specs.Char.{digit_value}
use Rattle.sgx_base.proofs.Spelling.{whole_too_large, whole_fits}
use Rattle.sgx_base.proofs.numbers.value_of_digits.Goals as goal

pub returns-in_err-value : goal.returns-in_err-value
returns-in_err-value c =
    let inside : c.loop-digit.digit-index < length c.args.digits.now = omega arith in
    let large : 2 ^ 64 ≤ c.args.base * c.loop-digit.value + digit_value (get_or c.args.digits.now c.loop-digit.digit-index 0) = omega (arith, c.in_err-value.ensures) in
    rw c.from_residual.ensures
    (whole_too_large c.args.base c.loop-digit.value c.args.digits.now c.loop-digit.digit-index c.requires inside c.loop-digit.invariant.1 large)

pub returns : goal.returns
returns c =
    whole_fits c.args.base c.loop-digit.value c.args.digits.now c.loop-digit.digit-index c.loop-digit-test.false c.loop-digit.invariant.0 c.loop-digit.invariant.1
