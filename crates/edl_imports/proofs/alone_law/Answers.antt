use Rattle.edl_imports.proofs.AloneLaws.{is_alone}
use Rattle.edl_imports.proofs.alone_law.Goals as goal

pub returns : goal.returns
returns c = λ store paths root source r none. is_alone store paths root source r none
