use Rattle.one_machine.proofs.OneMachine.{one_machine}
use Rattle.one_machine.proofs.one_machine_law.Goals as goal

pub returns : goal.returns
returns c = one_machine
