use Rattle.std.proofs.Common.{◌≡◌, ◌++◌, length, map}
use Rattle.std.specs.List.{AllByRecursion}
use Rattle.script_blocks.specs.Blocks.{home_line, inside}
use Rattle.script_blocks.specs.Acts.{Fits}
use Rattle.script_blocks.specs.Bodies.{actions_of}
use Rattle.script_blocks.proofs.body.actions.Given as goal

abbrev pub invariant-loop-left : goal.invariant-loop-left
invariant-loop-left l = record {
  rest :
      l.actions ++ actions_of l.interface l.names (inside l.home (map home_line l.left))
      ≡ actions_of l.interface l.names (inside l.home (map home_line l.lines));
  fits : AllByRecursion Fits (map home_line l.left);
}

abbrev pub decreases-loop-left : goal.decreases-loop-left
decreases-loop-left l = length l.left
