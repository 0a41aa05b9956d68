use Rattle.script_language.proofs.LineLaws.{same-script}
use Rattle.script_language.proofs.silence_law.Goals as goal

pub returns : goal.returns
returns c = same-script
