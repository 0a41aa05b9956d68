use Rattle.std.proofs.Common.{◌+◌, ◌-◌}
use Rattle.call_machine.proofs.StringLaws.{IsSearched}
use Rattle.call_machine.proofs.strings.string_length.Given as goal

-- no unit before the next one is 0
abbrev pub invariant-loop-next : goal.invariant-loop-next
invariant-loop-next g l = IsSearched (g.P.WordPort.state l.fn.port).host l.unit l.at l.next (g.P.WordPort.state l.fn.port) (g.P.WordPort.state l.port)

-- the bytes of host memory from the next unit on
abbrev pub decreases-loop-next : goal.decreases-loop-next
decreases-loop-next g l = (65536 + (g.P.WordPort.state l.fn.port).host) - l.next
