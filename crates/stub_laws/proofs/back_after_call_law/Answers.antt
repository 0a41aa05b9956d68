use Rattle.stub_laws.proofs.BridgeLaws.{copies_back_after_call}
use Rattle.stub_laws.proofs.back_after_call_law.Goals as goal

pub returns : goal.returns
returns c = λ i f function ordinal at. copies_back_after_call i f function ordinal at
