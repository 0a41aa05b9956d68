use Rattle.std.proofs.Common.{◌≡◌, ◌++◌, map, take}
use Rattle.std.specs.Prelude.{flat_map}
use Rattle.stub_printer.specs.Stubs.{entry_prototype}
use Rattle.stub_printer.proofs.prototypes.put_entry_prototypes.Given as goal

abbrev pub invariant-loop-f : goal.invariant-loop-f
invariant-loop-f l =
    l.out.items ≡ l.initial.out.items ++ flat_map (entry_prototype l.options) (map (λ f. f.now) (take l.f-index l.functions))
