-- What the report of a protected run says.
use Rattle.std.specs.Prelude.{ℕ, ◌≡◌, List}
use Rattle.word_port.specs.declared.Step.{Step}
use Rattle.word_port.specs.History.{IsLegal, with_races}
use Rattle.call_report.specs.declared.CallRecord.{CallRecord}
use Rattle.call_report.specs.Report.{report}
use Rattle.call_machine.specs.declared.Machine.{Machine}
use Rattle.run_laws.specs.Protected.{IsProtectedRun}

-- records and a log of which the text is the report: they are a protected run, and the log with the script's host writes between its steps is one that the script's words can have seen
pub record HasProtectedRun (m : Machine) (text : List ℕ) : Type 0 where
  pub records : List CallRecord
  pub log : List Step
  pub text_is : text ≡ report m.interface records log
  pub legal : IsLegal m.script.words (with_races m.script.settings.host m.script.races log)
  pub protected : IsProtectedRun m records log

-- the text is the report of a protected run
unfoldable pub IsProtectedReport : Machine → List ℕ → Type 0
IsProtectedReport m text = HasProtectedRun m text
