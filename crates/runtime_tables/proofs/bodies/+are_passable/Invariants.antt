use Rattle.std.proofs.Common.{length}
use Rattle.runtime_tables.proofs.bodies.+are_passable.Given as goal

-- a call has one item fewer
abbrev pub decreases-are_passable : goal.decreases-are_passable
decreases-are_passable l = length l.passes.now
