use Rattle.run_laws.proofs.Runs.{report_protected}
use Rattle.run_laws.proofs.report_law.Goals as goal

pub returns : goal.returns
returns c = λ m text sound r. report_protected m text sound r
