use Rattle.host_racer.proofs.RacerActs.{acts_of_racer}
use Rattle.host_racer.proofs.racer_laws.sound_racers_law.Goals as goal

pub returns : goal.returns
returns c = acts_of_racer
