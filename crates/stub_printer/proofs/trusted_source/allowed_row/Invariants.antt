use Rattle.std.proofs.Common.{take}
use Rattle.stub_printer.specs.Stubs.{TellsAllowed}
use Rattle.stub_printer.proofs.trusted_source.allowed_row.Given as goal

abbrev pub invariant-loop-ordinal : goal.invariant-loop-ordinal
invariant-loop-ordinal l = TellsAllowed l.count (take l.ordinal-index l.allow) l.row.items
