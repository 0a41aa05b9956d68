use Rattle.std.proofs.Common.{length}
use Rattle.script_faults.proofs.around.+repetitions.Given as goal

abbrev pub decreases-repetitions : goal.decreases-repetitions
decreases-repetitions l = length l.blocks.now
