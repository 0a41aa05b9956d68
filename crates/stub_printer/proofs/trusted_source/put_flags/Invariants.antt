use Rattle.std.proofs.Common.{◌≡◌, ◌++◌, take}
use Rattle.std.specs.Prelude.{flat_map}
use Rattle.stub_printer.specs.Stubs.{flag_text}
use Rattle.stub_printer.proofs.trusted_source.put_flags.Given as goal

abbrev pub invariant-loop-holds : goal.invariant-loop-holds
invariant-loop-holds l = l.out.items ≡ l.initial.out.items ++ flat_map flag_text (take l.holds-index l.row)
