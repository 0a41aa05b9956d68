use Rattle.std.proofs.Common.{◌≡◌, ◌++◌, length, map}
use Rattle.std.specs.List.{AllByRecursion}
use Rattle.script_blocks.specs.Blocks.{home_line, AreInPlace}
use Rattle.script_blocks.specs.Acts.{Fits, opened_acts}
use Rattle.script_blocks.proofs.thread.push_blocks.Given as goal

abbrev pub invariant-loop-left : goal.invariant-loop-left
invariant-loop-left l = record {
  rest :
      l.acts ++ opened_acts l.source.interface.now (map home_line l.source.lines.now) l.kind (map home_line l.left)
      ≡ l.initial.acts ++ opened_acts l.source.interface.now (map home_line l.source.lines.now) l.kind
      (map home_line l.source.lines.now);
  fits : AllByRecursion Fits (map home_line l.left);
  placed : AreInPlace (map home_line l.source.lines.now) (map home_line l.left);
}

abbrev pub decreases-loop-left : goal.decreases-loop-left
decreases-loop-left l = length l.left
