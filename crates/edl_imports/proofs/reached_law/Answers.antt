use Rattle.edl_imports.proofs.ReachLaws.{each_reached}
use Rattle.edl_imports.proofs.reached_law.Goals as goal

pub returns : goal.returns
returns c = λ store paths root g h. each_reached store paths root g h
