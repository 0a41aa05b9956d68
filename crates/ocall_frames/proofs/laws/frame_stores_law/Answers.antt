use Rattle.ocall_frames.proofs.FrameLaws.{frame_stores, frame_region}
use Rattle.ocall_frames.proofs.laws.frame_stores_law.Goals as goal

pub returns : goal.returns
returns c = record { stores = frame_stores; region = frame_region }
