use Rattle.std.proofs.Common.{take}
use Rattle.script_values.specs.Functions.{TellsPlaces}
use Rattle.script_values.proofs.functions.first_places.Given as goal

abbrev pub invariant-loop-place : goal.invariant-loop-place
invariant-loop-place l = TellsPlaces l.places (take l.place l.functions)
