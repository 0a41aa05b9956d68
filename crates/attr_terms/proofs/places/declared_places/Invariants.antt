use Rattle.std.proofs.Common.{take, map}
use Rattle.attr_terms.specs.Places.{TellsPlaces}
use Rattle.attr_terms.proofs.places.declared_places.Given as goal

abbrev pub invariant-loop-place : goal.invariant-loop-place
invariant-loop-place l = TellsPlaces l.places (map (λ p. p.name) (take l.place l.list))
