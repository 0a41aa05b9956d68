use Rattle.ocall_frames.proofs.FrameLaws.{frame_alike}
use Rattle.ocall_frames.proofs.laws.frame_secrecy_law.Goals as goal

pub returns : goal.returns
returns c = frame_alike
