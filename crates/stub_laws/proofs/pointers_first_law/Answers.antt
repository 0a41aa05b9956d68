use Rattle.stub_laws.proofs.BridgeLaws.{checks_pointers_first}
use Rattle.stub_laws.proofs.pointers_first_law.Goals as goal

pub returns : goal.returns
returns c = λ i f function ordinal at framed copy narrow wide. checks_pointers_first i f function ordinal at framed copy narrow wide
