use Rattle.std.proofs.Common.{None}
use Rattle.edl_layout.specs.Faults.{IsCleanParam, ParamFault}
use Rattle.edl_layout.proofs.Among.{end}
use Rattle.edl_layout.proofs.functions.params_fault.Goals as goal

pub returns : goal.returns
returns c =
    let g = c.args.types.now.gathered in
    let foreign = c.args.types.now.foreign in
    c.loop-param.invariant None (end (IsCleanParam g foreign) (ParamFault g foreign c.args.file) c.args.params.now c.loop-param.param-index c.loop-param-test.false)
