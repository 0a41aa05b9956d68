use Rattle.std.proofs.Common.{take}
use Rattle.edl_imports.specs.Tables.{TellsPicks}
use Rattle.edl_imports.proofs.offers.table_of.Given as goal

abbrev pub invariant-loop-pick : goal.invariant-loop-pick
invariant-loop-pick l = TellsPicks l.table (take l.pick-index l.picks)
