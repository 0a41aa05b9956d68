use Rattle.script_language.proofs.LineLaws.{fault-exists}
use Rattle.script_language.proofs.fault_line_law.Goals as goal

pub returns : goal.returns
returns c = fault-exists
