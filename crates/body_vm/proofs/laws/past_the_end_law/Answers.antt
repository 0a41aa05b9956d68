use Rattle.body_vm.proofs.ActionLaws.{read_past, write_past}
use Rattle.body_vm.proofs.laws.past_the_end_law.Goals as goal

pub returns-clause-read : goal.returns-clause-read
returns-clause-read c = read_past

pub returns-clause-write : goal.returns-clause-write
returns-clause-write c = write_past
