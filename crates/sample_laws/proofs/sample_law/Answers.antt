use Rattle.sample_laws.proofs.Head.{sample_read}
use Rattle.sample_laws.proofs.sample_law.Goals as goal

pub returns : goal.returns
returns c = sample_read
