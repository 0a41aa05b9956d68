use Rattle.std.proofs.Common.{◌≡◌, ◌++◌, length, map}
use Rattle.script_blocks.specs.Blocks.{home_line, inside}
use Rattle.script_blocks.specs.Bodies.{temporaries_of}
use Rattle.script_blocks.proofs.body.temporaries.Given as goal

abbrev pub invariant-loop-left : goal.invariant-loop-left
invariant-loop-left l =
    l.names ++ temporaries_of (inside l.home (map home_line l.left))
    ≡ temporaries_of (inside l.home (map home_line l.lines))

abbrev pub decreases-loop-left : goal.decreases-loop-left
decreases-loop-left l = length l.left
