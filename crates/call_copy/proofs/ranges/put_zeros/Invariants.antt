use Rattle.std.proofs.Common.{◌+◌, drop, replicate}
use Rattle.word_port.specs.Accesses.{stores}
use Rattle.word_port.specs.Runs.{Leads}
use Rattle.call_copy.proofs.ranges.put_zeros.Given as goal

-- the stores so far leave the stores of the zeros that are still to come
abbrev pub invariant-loop-i : goal.invariant-loop-i
invariant-loop-i g l =
    Leads (stores l.side (l.at + l.past) (replicate l.count 0)) (g.P.WordPort.state l.fn.port) (g.P.WordPort.state l.port) (stores l.side ((l.at + l.past) + l.i) (drop l.i (replicate l.count 0)))
