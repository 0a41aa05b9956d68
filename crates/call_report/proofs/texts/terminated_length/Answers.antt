use Rattle.call_report.proofs.TextLaws.{terminated_within}
use Rattle.call_report.proofs.texts.terminated_length.Goals as goal

pub returns-clause-within : goal.returns-clause-within
returns-clause-within c = terminated_within c.args.unit c.args.bytes.now c.terminated_length.result c.terminated_length.ensures
