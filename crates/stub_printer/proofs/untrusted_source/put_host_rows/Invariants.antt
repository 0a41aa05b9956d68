use Rattle.std.proofs.Common.{◌≡◌, ◌++◌, map, take}
use Rattle.std.specs.Prelude.{flat_map}
use Rattle.stub_printer.specs.Stubs.{host_row}
use Rattle.stub_printer.proofs.untrusted_source.put_host_rows.Given as goal

abbrev pub invariant-loop-f : goal.invariant-loop-f
invariant-loop-f l =
    l.out.items ≡ l.initial.out.items ++ flat_map (host_row l.options) (map (λ f. f.now) (take l.f-index l.functions))
