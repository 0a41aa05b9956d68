use Rattle.body_vm.proofs.ActionLaws.{lengths_stay, one_place, registers_stay}
use Rattle.body_vm.proofs.laws.blocks_law.Goals as goal

pub returns-clause-lengths : goal.returns-clause-lengths
returns-clause-lengths c = lengths_stay

pub returns-clause-one : goal.returns-clause-one
returns-clause-one c = one_place

pub returns-clause-registers : goal.returns-clause-registers
returns-clause-registers c = registers_stay
