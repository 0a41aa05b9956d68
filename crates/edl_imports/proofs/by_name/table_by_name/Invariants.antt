use Rattle.std.proofs.Common.{take}
use Rattle.edl_imports.specs.ByName.{TellsNames}
use Rattle.edl_imports.proofs.by_name.table_by_name.Given as goal

abbrev pub invariant-loop-pick : goal.invariant-loop-pick
invariant-loop-pick l = TellsNames l.files l.is_trusted l.table (take l.pick-index l.picks)
