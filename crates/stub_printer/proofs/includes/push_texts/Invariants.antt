use Rattle.std.proofs.Common.{◌≡◌, ◌++◌, map, take}
use Rattle.std.specs.Prelude.{filter}
use Rattle.stub_printer.specs.Stubs.{stands_in}
use Rattle.stub_printer.proofs.includes.push_texts.Given as goal

abbrev pub invariant-loop-include : goal.invariant-loop-include
invariant-loop-include l =
    map (λ t. t.now) l.texts.items
    ≡ map (λ t. t.now) l.initial.texts.items
    ++ map (λ i. i.text) (filter (λ i. stands_in l.is_trusted i.place) (take l.include-index l.file.tree.includes))
