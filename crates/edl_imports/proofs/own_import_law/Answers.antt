use Rattle.edl_imports.proofs.AloneLaws.{own_import}
use Rattle.edl_imports.proofs.own_import_law.Goals as goal

pub returns : goal.returns
returns c = λ store paths root source i is r u imports same. own_import store paths root source r i is u imports same
