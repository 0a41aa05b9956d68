use Rattle.std.proofs.Common.{◌≡◌, ◌+◌, ◌-◌, ◌*◌, ◌++◌, length, map}
use Rattle.std.specs.List.{AllByRecursion}
use Rattle.script_blocks.specs.Blocks.{home_line, inside, AreInPlace}
use Rattle.script_blocks.specs.Acts.{Fits, acts_of}
use Rattle.script_blocks.proofs.acts.+acts.Given as goal

abbrev pub decreases-act_there : goal.decreases-act_there
decreases-act_there l = 3 * l.depth + 1

abbrev pub decreases-push_own : goal.decreases-push_own
decreases-push_own l = 3 * l.depth + 2

abbrev pub decreases-acts_to : goal.decreases-acts_to
decreases-acts_to l = 3 * l.depth

abbrev pub invariant-acts_to-loop-left : goal.invariant-acts_to-loop-left
invariant-acts_to-loop-left l = record {
  rest :
      l.acts ++ acts_of l.source.interface.now (map home_line l.source.lines.now) (l.depth - 1)
      (inside l.home (map home_line l.left))
      ≡ acts_of l.source.interface.now (map home_line l.source.lines.now) (l.depth - 1)
      (inside l.home (map home_line l.lines));
  fits : AllByRecursion Fits (map home_line l.left);
  placed : AreInPlace (map home_line l.source.lines.now) (map home_line l.left);
}

abbrev pub decreases-acts_to-loop-left : goal.decreases-acts_to-loop-left
decreases-acts_to-loop-left l = length l.left
