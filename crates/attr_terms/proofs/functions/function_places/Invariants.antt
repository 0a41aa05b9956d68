use Rattle.std.proofs.Common.{take, map}
use Rattle.attr_terms.specs.Places.{TellsPlaces}
use Rattle.attr_terms.proofs.functions.function_places.Given as goal

abbrev pub invariant-loop-place : goal.invariant-loop-place
invariant-loop-place l = TellsPlaces l.places (map (λ f. f.decl.now.name) (take l.place l.functions))
