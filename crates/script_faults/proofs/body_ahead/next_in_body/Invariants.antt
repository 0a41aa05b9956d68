use Rattle.std.proofs.Common.{◌≡◌, ◌≤◌, length}
use Rattle.script_faults.specs.Bodies.{lines_of_body}
use Rattle.script_faults.proofs.body_ahead.next_in_body.Given as goal

abbrev pub invariant-loop-line : goal.invariant-loop-line
invariant-loop-line l = record {
  same : lines_of_body l.name l.rest ≡ lines_of_body l.name l.initial.rest;
  fewer : length l.rest ≤ length l.initial.rest;
}

abbrev pub decreases-loop-line : goal.decreases-loop-line
decreases-loop-line l = length l.rest
