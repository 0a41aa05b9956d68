use Rattle.host_racer.proofs.RacerWrites.{racer_asks}
use Rattle.host_racer.proofs.racer_laws.racer_writes_law.Goals as goal

pub returns : goal.returns
returns c = racer_asks
