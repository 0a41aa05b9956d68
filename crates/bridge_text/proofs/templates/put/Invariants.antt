use Rattle.std.proofs.Common.{◌≡◌, ◌++◌, map, length}
use Rattle.bridge_text.specs.Template.{seen, fill}
use Rattle.bridge_text.proofs.templates.put.Given as goal

abbrev pub invariant-loop-rest : goal.invariant-loop-rest
invariant-loop-rest l =
    l.out.items ++ fill (map seen l.places) l.rest ≡ l.initial.out.items ++ fill (map seen l.places) l.initial.rest

abbrev pub decreases-loop-rest : goal.decreases-loop-rest
decreases-loop-rest l = length l.rest
