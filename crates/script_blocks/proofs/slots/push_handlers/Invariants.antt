use Rattle.std.proofs.Common.{◌≡◌, ◌++◌, [], length, map}
use Rattle.std.specs.Prelude.{reverse, unwrap_or}
use Rattle.script_blocks.proofs.slots.push_handlers.Given as goal

abbrev pub invariant-loop-slot : goal.invariant-loop-slot
invariant-loop-slot l =
    l.handlers ++ map (λ slot. unwrap_or slot []) (reverse l.slots.items)
    ≡ l.initial.handlers ++ map (λ slot. unwrap_or slot []) (reverse l.initial.slots.items)

abbrev pub decreases-loop-slot : goal.decreases-loop-slot
decreases-loop-slot l = length l.slots.items
