use Rattle.std.proofs.Common.{length}
use Rattle.runtime_tables.proofs.frames.+are_passed.Given as goal

-- a call has one item fewer
abbrev pub decreases-are_passed : goal.decreases-are_passed
decreases-are_passed l = length l.params.now
