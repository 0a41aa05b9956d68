use Rattle.std.proofs.Common.{rules}
use Rattle.log_trace.proofs.Lines.{six_words}
use Rattle.log_trace.proofs.step_line.Goals as goal

pub returns : goal.returns
returns c = rw (← six_words) (search rules)
