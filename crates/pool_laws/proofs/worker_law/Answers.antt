use Rattle.pool_laws.proofs.Workers.{own_worker, other_worker}
use Rattle.pool_laws.proofs.worker_law.Goals as goal

pub returns-clause-own : goal.returns-clause-own
returns-clause-own g c = λ pool setup stops serves. own_worker setup pool stops serves

pub returns-clause-other : goal.returns-clause-other
returns-clause-other g c = λ pool setup stops apart serves. other_worker setup pool stops apart serves
