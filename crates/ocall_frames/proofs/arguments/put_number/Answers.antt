use Rattle.std.proofs.Common.{◌≡◌, ◌+◌, ◌≤◌, length, arith}
use Rattle.ocall_frames.proofs.StructureLaws.{number_begins, number_more, number_ends}
use Rattle.ocall_frames.proofs.arguments.put_number.Goals as goal

pub loop-i-init : goal.loop-i-init
loop-i-init c = number_begins c.args.structure.now c.args.at c.args.size c.args.number

pub loop-i-preserved : goal.loop-i-preserved
loop-i-preserved c =
    let fits : c.args.at + c.args.size ≤ length c.loop-i.structure = omega (arith, c.requires, c.loop-i.auto.structure) in
    number_more c.loop-i.structure _ c.args.at c.args.size c.loop-i.i c.loop-i.rest fits c.loop-i-test.true c.loop-i.invariant

pub returns : goal.returns
returns c =
    let all : c.loop-i.i ≡ c.args.size = omega (arith, c.loop-i-test.false, c.loop-i.auto.i-end) in
    number_ends c.loop-i.structure _ c.args.at c.args.size c.loop-i.i c.loop-i.rest all c.loop-i.invariant
