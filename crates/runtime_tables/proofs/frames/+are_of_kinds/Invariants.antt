use Rattle.std.proofs.Common.{length}
use Rattle.runtime_tables.proofs.frames.+are_of_kinds.Given as goal

-- a call has one item fewer
abbrev pub decreases-are_of_kinds : goal.decreases-are_of_kinds
decreases-are_of_kinds l = length l.params.now
