use Rattle.std.proofs.Common.{Option, drop}
use Rattle.std.specs.Prelude.{filter_map}
use Rattle.edl_layout.specs.declared.LayoutFault.{LayoutFault}
use Rattle.edl_layout.specs.Picks.{pick_of, AreCheckedFunctions}
use Rattle.edl_layout.proofs.functions.side_fault.Given as goal

abbrev pub invariant-loop-pick : goal.invariant-loop-pick
invariant-loop-pick l =
    (found : Option LayoutFault)
    → AreCheckedFunctions l.types.gathered l.types.foreign (filter_map (pick_of l.types.gathered l.is_trusted) (drop l.pick-index l.picks)) found
    → AreCheckedFunctions l.types.gathered l.types.foreign (filter_map (pick_of l.types.gathered l.is_trusted) l.picks) found
