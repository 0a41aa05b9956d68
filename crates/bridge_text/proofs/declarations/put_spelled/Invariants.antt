use Rattle.std.proofs.Common.{◌≡◌, ◌++◌, replicate}
use Rattle.bridge_text.proofs.declarations.put_spelled.Given as goal

abbrev pub invariant-loop-star : goal.invariant-loop-star
invariant-loop-star l = l.out.items ≡ l.initial.out.items ++ replicate l.star 42
