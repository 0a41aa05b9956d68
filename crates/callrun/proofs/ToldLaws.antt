-- What is told of a run is told of a protected one.
use Rattle.std.proofs.Common.{ℕ, List}
use Rattle.call_machine.specs.declared.Machine.{Machine}
use Rattle.call_machine.specs.Sound.{IsSoundMachine}
use Rattle.call_machine.specs.Reported.{IsReportOf, step_limit}
use Rattle.run_laws.proofs.Runs.{run_protected}
use Rattle.run_summary.specs.Summarized.{IsSummaryOf}
use Rattle.callrun.specs.Told.{IsTold, report, summary}

pub report_told : (m : Machine) (text : List ℕ) → IsSoundMachine m → IsReportOf m text → IsTold report m text
report_told m text sound r =
    record { reported = text; run = r; protected = run_protected m sound step_limit r.after r.outcome r.run; told = r.text_is }

pub summary_told : (m : Machine) (text : List ℕ) → IsSoundMachine m → IsSummaryOf m text → IsTold summary m text
summary_told m text sound s = record {
  reported = s.report;
  run = s.run;
  protected = run_protected m sound step_limit s.run.after s.run.outcome s.run.run;
  told = s.text_is;
}
