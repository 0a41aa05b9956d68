-- What is told of a run that is done.
use Rattle.std.specs.Prelude.{ℕ, ◌≡◌, List}
use Rattle.edl_interface.specs.declared.Interface.{Interface}
use Rattle.word_port.specs.declared.Step.{Step}
use Rattle.call_report.specs.declared.CallRecord.{CallRecord}
use Rattle.call_report.specs.Report.{report as report_of}
use Rattle.run_summary.specs.Summary.{summary as summary_of}
use Rattle.call_machine.specs.declared.Machine.{Machine}
use Rattle.call_machine.specs.Reported.{IsReportOf}
use Rattle.run_laws.specs.Protected.{IsProtectedRun}

-- a text over an interface, records and a log
abbrev pub Telling : Type 0
Telling = Interface → List CallRecord → List Step → List ℕ

-- the report, and the summary
abbrev pub report : Telling
report = report_of

abbrev pub summary : Telling
summary interface records log = summary_of records log

-- the text tells of the machine's one run, whose report this is, and the run is protected
pub record IsTold (telling : Telling) (m : Machine) (text : List ℕ) : Type 0 where
  pub reported : List ℕ
  pub run : IsReportOf m reported
  pub protected : IsProtectedRun m run.outcome.records run.after.port.log
  pub told : text ≡ telling m.interface run.outcome.records run.after.port.log
