use Rattle.call_laws.proofs.LocalBodies.{local_bodies}
use Rattle.call_laws.proofs.local_bodies_law.Goals as goal

pub returns : goal.returns
returns c = local_bodies
