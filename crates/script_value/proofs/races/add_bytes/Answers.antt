use Rattle.std.proofs.Common.{arith}
use Rattle.script_value.proofs.RaceLaws.{small_here}
use Rattle.script_value.proofs.races.add_bytes.Goals as goal

pub overflow_cast-access : goal.overflow_cast-access
overflow_cast-access c =
    let small = small_here c.args.access c.loop-value.place c.args.bytes.now c.loop-value.value-index
    c.loop-value-test.true c.loop-value.invariant.small in
    omega (arith, small.0)

pub overflow_cast-place : goal.overflow_cast-place
overflow_cast-place c =
    let small = small_here c.args.access c.loop-value.place c.args.bytes.now c.loop-value.value-index
    c.loop-value-test.true c.loop-value.invariant.small in
    omega (arith, small.1)
