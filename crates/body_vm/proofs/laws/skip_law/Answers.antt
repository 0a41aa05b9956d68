use Rattle.body_vm.proofs.ActionLaws.{skips_at_zero, stays_at_more, skips_at_more, stays_at_zero}
use Rattle.body_vm.proofs.laws.skip_law.Goals as goal

pub returns-clause-at_zero : goal.returns-clause-at_zero
returns-clause-at_zero c = skips_at_zero

pub returns-clause-not_at_zero : goal.returns-clause-not_at_zero
returns-clause-not_at_zero c = stays_at_more

pub returns-clause-at_more : goal.returns-clause-at_more
returns-clause-at_more c = skips_at_more

pub returns-clause-not_at_more : goal.returns-clause-not_at_more
returns-clause-not_at_more c = stays_at_zero
