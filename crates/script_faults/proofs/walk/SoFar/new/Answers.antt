use Rattle.script_faults.proofs.WalkLaws.{so-far-first}
use Rattle.script_faults.proofs.walk.SoFar.new.Goals as goal

pub returns-clause-so_far : goal.returns-clause-so_far
returns-clause-so_far c = λ i bytes. so-far-first i bytes _ c.new.ensures c.new-2.ensures
