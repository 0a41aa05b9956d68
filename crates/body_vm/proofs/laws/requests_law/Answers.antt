use Rattle.body_vm.proofs.ActionLaws.{asks_at_most}
use Rattle.body_vm.proofs.laws.requests_law.Goals as goal

pub returns : goal.returns
returns c = asks_at_most
