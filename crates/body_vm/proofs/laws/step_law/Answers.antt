use Rattle.body_vm.proofs.StepLaws.{computed_step, changed_step}
use Rattle.body_vm.proofs.laws.step_law.Goals as goal

pub returns-clause-computes : goal.returns-clause-computes
returns-clause-computes c = computed_step

pub returns-clause-changes : goal.returns-clause-changes
returns-clause-changes c = changed_step
