use Rattle.std.proofs.Common.{◌≡◌, take}
use Rattle.edl_imports.specs.Offers.{joined}
use Rattle.edl_imports.specs.Tables.{TellsPicks}
use Rattle.edl_imports.proofs.offers.add_all.Given as goal

abbrev pub invariant-loop-pick : goal.invariant-loop-pick
invariant-loop-pick l = TellsPicks l.initial.table l.initial.picks
    → (l.picks ≡ joined l.initial.picks (take l.pick-index l.more)) × TellsPicks l.table l.picks
