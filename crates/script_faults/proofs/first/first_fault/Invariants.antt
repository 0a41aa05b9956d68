use Rattle.std.proofs.Common.{length}
use Rattle.script_faults.proofs.WalkLaws.{IsReached}
use Rattle.script_faults.proofs.first.first_fault.Given as goal

abbrev pub invariant-loop-line : goal.invariant-loop-line
invariant-loop-line l = IsReached l.interface l.racing l.left l.bytes l.so_far l.lines

abbrev pub decreases-loop-line : goal.decreases-loop-line
decreases-loop-line l = length l.lines
