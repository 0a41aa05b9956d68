use Rattle.run_laws.proofs.Runs.{run_protected}
use Rattle.run_laws.proofs.run_law.Goals as goal

pub returns : goal.returns
returns c = λ m limit after outcome sound run. run_protected m sound limit after outcome run
