use Rattle.log_trace.proofs.Logs.{trace_tells}
use Rattle.log_trace.proofs.text_laws.one_log_law.Goals as goal

pub returns : goal.returns
returns c = trace_tells
