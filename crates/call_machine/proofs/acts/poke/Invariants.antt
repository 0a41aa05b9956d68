use Rattle.std.proofs.Common.{◌+◌, drop}
use Rattle.word_port.specs.Runs.{Leads}
use Rattle.call_machine.specs.Acts.{mapped_stores}
use Rattle.call_machine.proofs.acts.poke.Given as goal

-- the bytes so far leave those that are still to come
abbrev pub invariant-loop-i : goal.invariant-loop-i
invariant-loop-i g l =
    Leads (mapped_stores l.side (g.P.WordPort.state l.fn.port).host l.at l.bytes) (g.P.WordPort.state l.fn.port) (g.P.WordPort.state l.port)
    (mapped_stores l.side (g.P.WordPort.state l.fn.port).host (l.at + l.i) (drop l.i l.bytes))
