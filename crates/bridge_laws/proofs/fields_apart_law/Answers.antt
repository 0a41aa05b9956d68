use Rattle.bridge_laws.proofs.Fields.{fields_apart}
use Rattle.bridge_laws.proofs.fields_apart_law.Goals as goal

pub returns : goal.returns
returns c = λ arguments f fit order. fields_apart arguments f fit order
