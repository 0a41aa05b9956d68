-- What a summary says of a machine's run.
use Rattle.std.specs.Prelude.{ℕ, ◌≡◌, List}
use Rattle.call_machine.specs.declared.Machine.{Machine}
use Rattle.call_machine.specs.Reported.{IsReportOf}
use Rattle.run_summary.specs.Summary.{summary}

-- the text is the summary of the run that has this report
pub record IsSummaryOf (m : Machine) (text : List ℕ) : Type 0 where
  pub report : List ℕ
  pub run : IsReportOf m report
  pub text_is : text ≡ summary run.outcome.records run.after.port.log
