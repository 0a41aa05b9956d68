use Rattle.std.proofs.Common.{◌≡◌, ◌++◌, take}
use Rattle.std.specs.Prelude.{flat_map}
use Rattle.stub_printer.specs.Stubs.{host_field_lines}
use Rattle.stub_printer.proofs.untrusted_source.put_host_fields.Given as goal

abbrev pub invariant-loop-p : goal.invariant-loop-p
invariant-loop-p l = l.out.items ≡ l.initial.out.items ++ flat_map host_field_lines (take l.p-index l.f.params)
