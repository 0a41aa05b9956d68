use Rattle.call_machine.proofs.OneReport.{one_report}
use Rattle.call_machine.proofs.report_laws.one_report_law.Goals as goal

pub returns : goal.returns
returns c = one_report
