use Rattle.std.proofs.Common.{◌+◌, ◌-◌}
use Rattle.word_port.specs.Runs.{Leads}
use Rattle.call_machine.specs.Acts.{mapped_loads}
use Rattle.call_machine.proofs.acts.peek_bytes.Given as goal

-- the bytes so far leave those that are still to come
abbrev pub invariant-loop-i : goal.invariant-loop-i
invariant-loop-i g l =
    Leads (mapped_loads l.side (g.P.WordPort.state l.fn.port).host l.at l.length) (g.P.WordPort.state l.fn.port) (g.P.WordPort.state l.port)
    (mapped_loads l.side (g.P.WordPort.state l.fn.port).host (l.at + l.i) (l.length - l.i))
