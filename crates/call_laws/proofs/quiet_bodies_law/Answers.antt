use Rattle.call_laws.proofs.QuietBodies.{quiet_bodies}
use Rattle.call_laws.proofs.quiet_bodies_law.Goals as goal

pub returns : goal.returns
returns c = quiet_bodies
