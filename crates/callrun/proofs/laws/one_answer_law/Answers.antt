use Rattle.callrun.proofs.OneAnswer.{one_text, none_done_and_cut, one_limit_cuts}
use Rattle.callrun.proofs.laws.one_answer_law.Goals as goal

pub returns-clause-text : goal.returns-clause-text
returns-clause-text c = one_text

pub returns-clause-either : goal.returns-clause-either
returns-clause-either c = none_done_and_cut

pub returns-clause-limit : goal.returns-clause-limit
returns-clause-limit c = one_limit_cuts
