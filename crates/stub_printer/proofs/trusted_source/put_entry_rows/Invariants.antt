use Rattle.std.proofs.Common.{◌≡◌, ◌++◌, map, take}
use Rattle.std.specs.Prelude.{flat_map}
use Rattle.stub_printer.specs.Stubs.{entry_row}
use Rattle.stub_printer.proofs.trusted_source.put_entry_rows.Given as goal

abbrev pub invariant-loop-f : goal.invariant-loop-f
invariant-loop-f l =
    l.out.items ≡ l.initial.out.items ++ flat_map (entry_row (map (λ f. f.now) l.ecalls)) (take l.f-index l.interface.ocalls)
