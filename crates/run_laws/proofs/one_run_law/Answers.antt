use Rattle.run_laws.proofs.OneRunLaws.{one_whole_run, no_beginning as none_begins}
use Rattle.run_laws.proofs.one_run_law.Goals as goal

pub returns-clause-one : goal.returns-clause-one
returns-clause-one c = one_whole_run

pub returns-clause-no_beginning : goal.returns-clause-no_beginning
returns-clause-no_beginning c = none_begins
