use Rattle.std.proofs.Common.{◌≡◌, map, take}
use Rattle.attr_terms.specs.Taken.{function_in}
use Rattle.stub_printer.proofs.functions.declared_of.Given as goal

abbrev pub invariant-loop-function : goal.invariant-loop-function
invariant-loop-function l = map (λ f. f.now) l.functions.items ≡ map (λ f. f.decl) (map function_in (take l.function-index l.taken))
