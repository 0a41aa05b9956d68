use Rattle.std.proofs.Common.{◌≡◌, ◌++◌, length, map, None}
use Rattle.script_blocks.proofs.slots.empty_slots.Given as goal

abbrev pub invariant-loop-left : goal.invariant-loop-left
invariant-loop-left g l = l.slots.items ++ map (λ f. None) l.left ≡ map (λ f. None) l.functions

abbrev pub decreases-loop-left : goal.decreases-loop-left
decreases-loop-left g l = length l.left
