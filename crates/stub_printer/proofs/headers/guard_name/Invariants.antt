use Rattle.std.proofs.Common.{◌≡◌, take}
use Rattle.stub_printer.specs.Stubs.{guard_name}
use Rattle.stub_printer.proofs.headers.guard_name.Given as goal

abbrev pub invariant-loop-byte : goal.invariant-loop-byte
invariant-loop-byte l = l.guard.items ≡ guard_name (take l.byte-index l.name)
