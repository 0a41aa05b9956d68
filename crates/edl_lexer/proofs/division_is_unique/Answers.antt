use Rattle.edl_lexer.proofs.Divided.{one_division, one_fault}
use Rattle.edl_lexer.proofs.division_is_unique.Goals as goal

pub returns-clause-division : goal.returns-clause-division
returns-clause-division c = one_division

pub returns-clause-fault : goal.returns-clause-fault
returns-clause-fault c = one_fault
