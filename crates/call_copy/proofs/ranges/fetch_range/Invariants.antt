use Rattle.call_copy.proofs.Fetches.{IsFetched}
use Rattle.call_copy.proofs.ranges.fetch_range.Given as goal

abbrev pub invariant-loop-i : goal.invariant-loop-i
invariant-loop-i g l = IsFetched l.side l.at l.block l.i (g.P.WordPort.state l.fn.port) (g.P.WordPort.state l.port) l.fn.arena l.arena
