use Rattle.std.proofs.Common.{◌<◌, ◌^◌, ◌%◌, arith}
use Rattle.std.proofs.lemmas.Nat.{mod_below}
use Rattle.run_summary.proofs.SumLaws.{has_room}
use Rattle.run_summary.proofs.number_put.Goals as goal

pub overflow_mul-number : goal.overflow_mul-number
overflow_mul-number c =
    let h : c.loop-i.number < 2 ^ 56 = has_room c.args.steps.now c.loop-i.i c.loop-i.number c.loop-i.invariant c.requires c.loop-i-test.true in
    omega (arith, h)

pub overflow_add-number : goal.overflow_add-number
overflow_add-number c =
    let h : c.loop-i.number < 2 ^ 56 = has_room c.args.steps.now c.loop-i.i c.loop-i.number c.loop-i.invariant c.requires c.loop-i-test.true in
    omega (arith, h)
