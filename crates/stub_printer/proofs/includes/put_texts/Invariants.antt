use Rattle.std.proofs.Common.{◌≡◌, ◌++◌, [], map, take, drop}
use Rattle.attr_terms.specs.Places.{TellsPlaces}
use Rattle.stub_printer.specs.Stubs.{include_lines}
use Rattle.stub_printer.proofs.includes.put_texts.Given as goal

abbrev pub invariant-loop-place : goal.invariant-loop-place
invariant-loop-place l = record {
  before : TellsPlaces l.before (map (λ t. t.now) (take l.place l.texts));
  rest : l.out.items ++ include_lines (map (λ t. t.now) (take l.place l.texts)) (map (λ t. t.now) (drop l.place l.texts))
      ≡ l.initial.out.items ++ include_lines [] (map (λ t. t.now) l.texts);
}
