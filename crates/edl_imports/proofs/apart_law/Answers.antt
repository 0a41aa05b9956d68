use Rattle.edl_imports.proofs.TakenLaws.{types_stand_apart}
use Rattle.edl_imports.proofs.apart_law.Goals as goal

pub returns : goal.returns
returns c = λ store paths root g h. types_stand_apart store paths root g h
