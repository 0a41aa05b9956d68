use Rattle.std.proofs.Common.{◌≡◌, length}
use Rattle.script_lines.specs.Places.{placed_left}
use Rattle.script_value.specs.Left.{left}
use Rattle.script_value.proofs.lines.next_formed.Given as goal

abbrev pub invariant-loop-line : goal.invariant-loop-line
invariant-loop-line l = left l.placed ≡ left l.initial.placed

abbrev pub decreases-loop-line : goal.decreases-loop-line
decreases-loop-line l = length (placed_left l.placed)
