use Rattle.std.proofs.Common.{zip}
use Rattle.word_port.specs.Runs.{Leads}
use Rattle.call_machine.specs.Calls.{string_lengths}
use Rattle.call_machine.proofs.StringLaws.{lengths_left}
use Rattle.call_machine.proofs.strings.string_lengths.Given as goal

-- the lengths so far leave those of the arguments that are still to come
abbrev pub invariant-loop-i : goal.invariant-loop-i
invariant-loop-i g l =
    Leads (string_lengths (g.P.WordPort.state l.fn.port).host l.place.frame (zip l.fn.function.params l.args)) (g.P.WordPort.state l.fn.port) (g.P.WordPort.state l.port)
    (lengths_left (g.P.WordPort.state l.fn.port).host l.place.frame l.fn.function.params l.args l.i l.lengths)
