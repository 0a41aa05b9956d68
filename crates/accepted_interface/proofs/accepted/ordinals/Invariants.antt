use Rattle.std.proofs.Common.{◌≡◌, map, take}
use Rattle.attr_terms.specs.Accepted.{ordinal_of}
use Rattle.accepted_interface.proofs.accepted.ordinals.Given as goal

abbrev pub invariant-loop-x : goal.invariant-loop-x
invariant-loop-x l = l.done ≡ map (λ x. ordinal_of l.functions.meanings.gathered.now x.name) (take l.x-index l.names)
