use Rattle.std.proofs.Common.{length}
use Rattle.script_values.proofs.calls.+push_passes.Given as goal

abbrev pub decreases-push_passes : goal.decreases-push_passes
decreases-push_passes l = length l.params.now
