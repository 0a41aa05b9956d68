use Rattle.host_racer.proofs.RacerSteps.{racer_steps}
use Rattle.host_racer.proofs.racer_laws.racer_steps_law.Goals as goal

pub returns : goal.returns
returns c = racer_steps
