use Rattle.script_language.proofs.BlankLaws.{moved-script}
use Rattle.script_language.proofs.blank_line_law.Goals as goal

pub returns : goal.returns
returns c = moved-script
