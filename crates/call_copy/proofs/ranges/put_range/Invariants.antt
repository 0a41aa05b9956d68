use Rattle.std.proofs.Common.{◌+◌, drop}
use Rattle.word_port.specs.Accesses.{stores}
use Rattle.word_port.specs.Runs.{Leads}
use Rattle.call_copy.proofs.ranges.put_range.Given as goal

-- the stores so far leave the stores of the bytes that are still to come
abbrev pub invariant-loop-i : goal.invariant-loop-i
invariant-loop-i g l =
    Leads (stores l.side l.at l.bytes) (g.P.WordPort.state l.fn.port) (g.P.WordPort.state l.port) (stores l.side (l.at + l.i) (drop l.i l.bytes))
