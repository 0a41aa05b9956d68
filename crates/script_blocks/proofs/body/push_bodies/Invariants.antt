use Rattle.std.proofs.Common.{◌≡◌, ◌++◌, length, map}
use Rattle.std.specs.Prelude.{reverse, unwrap_or}
use Rattle.script_blocks.specs.Bodies.{no_body}
use Rattle.script_blocks.proofs.body.push_bodies.Given as goal

abbrev pub invariant-loop-slot : goal.invariant-loop-slot
invariant-loop-slot l =
    l.bodies ++ map (λ slot. unwrap_or slot no_body) (reverse l.slots.items)
    ≡ l.initial.bodies ++ map (λ slot. unwrap_or slot no_body) (reverse l.initial.slots.items)

abbrev pub decreases-loop-slot : goal.decreases-loop-slot
decreases-loop-slot l = length l.slots.items
