use Rattle.edl_imports.proofs.CycleLaws.{cycle_refused}
use Rattle.edl_imports.proofs.cycle_law.Goals as goal

pub returns : goal.returns
returns c = λ store paths root bytes more e there h. cycle_refused store paths root bytes more e there h
