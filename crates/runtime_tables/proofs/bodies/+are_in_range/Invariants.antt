use Rattle.std.proofs.Common.{length}
use Rattle.runtime_tables.proofs.bodies.+are_in_range.Given as goal

-- a call has one item fewer
abbrev pub decreases-are_in_range : goal.decreases-are_in_range
decreases-are_in_range l = length l.actions.now
