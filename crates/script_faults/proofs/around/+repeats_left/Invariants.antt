use Rattle.std.proofs.Common.{length}
use Rattle.script_faults.proofs.around.+repeats_left.Given as goal

abbrev pub decreases-repeats_left : goal.decreases-repeats_left
decreases-repeats_left l = length l.blocks.now
