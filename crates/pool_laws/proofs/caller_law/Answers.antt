use Rattle.pool_laws.proofs.Keeping.{caller_kept}
use Rattle.pool_laws.proofs.caller_law.Goals as goal

pub returns : goal.returns
returns c = λ pool own word offered slot waits at few. caller_kept slot word waits own offered few
