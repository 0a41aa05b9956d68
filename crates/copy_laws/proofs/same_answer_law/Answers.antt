use Rattle.copy_laws.proofs.SameAnswers.{same_answer}
use Rattle.copy_laws.proofs.SameLaws.{same_status}
use Rattle.copy_laws.proofs.same_answer_law.Goals as goal

pub returns : goal.returns
returns c = record { status = same_status; answer = same_answer }
