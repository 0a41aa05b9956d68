use Rattle.std.proofs.Common.{Option, drop}
use Rattle.edl_layout.specs.declared.LayoutFault.{LayoutFault}
use Rattle.edl_layout.specs.Faults.{IsCleanParam, ParamFault}
use Rattle.edl_layout.specs.Picks.{Checked}
use Rattle.edl_layout.proofs.functions.params_fault.Given as goal

abbrev pub invariant-loop-param : goal.invariant-loop-param
invariant-loop-param l =
    (found : Option LayoutFault)
    → Checked (IsCleanParam l.types.gathered l.types.foreign) (ParamFault l.types.gathered l.types.foreign l.file) (drop l.param-index l.params) found
    → Checked (IsCleanParam l.types.gathered l.types.foreign) (ParamFault l.types.gathered l.types.foreign l.file) l.params found
