use Rattle.ocall_frames.proofs.BackLaws.{reply_others}
use Rattle.ocall_frames.proofs.laws.reply_law.Goals as goal

pub returns : goal.returns
returns c = reply_others
