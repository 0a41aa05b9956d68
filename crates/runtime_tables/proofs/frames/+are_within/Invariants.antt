use Rattle.std.proofs.Common.{length}
use Rattle.runtime_tables.proofs.frames.+are_within.Given as goal

-- a call has one item fewer
abbrev pub decreases-are_within : goal.decreases-are_within
decreases-are_within l = length l.params.now
