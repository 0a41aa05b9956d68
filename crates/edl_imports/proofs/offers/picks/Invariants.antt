use Rattle.std.proofs.Common.{◌≡◌}
use Rattle.edl_imports.specs.Offers.{picks}
use Rattle.edl_imports.proofs.offers.picks.Given as goal

abbrev pub invariant-loop-index : goal.invariant-loop-index
invariant-loop-index l = l.picks ≡ picks l.file l.index
