use Rattle.std.proofs.Common.{length}
use Rattle.bridge_text.proofs.ecalls.+put_frees.Given as goal

abbrev pub decreases-put_frees : goal.decreases-put_frees
decreases-put_frees l = length l.params.now
