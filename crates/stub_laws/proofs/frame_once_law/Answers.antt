use Rattle.stub_laws.proofs.BridgeLaws.{reads_frame_once}
use Rattle.stub_laws.proofs.frame_once_law.Goals as goal

pub returns : goal.returns
returns c = λ i f function ordinal at framed words. reads_frame_once i f function ordinal at framed words
