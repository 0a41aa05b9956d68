use Rattle.edl_imports.proofs.TakenLaws.{each_once, first_place}
use Rattle.edl_imports.proofs.taken_law.Goals as goal

pub returns : goal.returns
returns c = record { once = λ store paths root g h. each_once store paths root g h; place = λ taken offered d. first_place taken offered d }
