use Rattle.sample_machine.proofs.Machines.{faultless}
use Rattle.sample_machine.proofs.sample_machine_law.Goals as goal

pub returns : goal.returns
returns c = λ calls fault few. faultless calls fault few
