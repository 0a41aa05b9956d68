use Rattle.std.proofs.Common.{length}
use Rattle.bridge_text.proofs.declarations.+put_declarations.Given as goal

abbrev pub decreases-put_declarations : goal.decreases-put_declarations
decreases-put_declarations l = length l.params.now
