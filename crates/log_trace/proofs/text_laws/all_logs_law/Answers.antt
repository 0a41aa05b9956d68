use Rattle.log_trace.proofs.Logs.{traces_tell}
use Rattle.log_trace.proofs.text_laws.all_logs_law.Goals as goal

pub returns : goal.returns
returns c = traces_tell
