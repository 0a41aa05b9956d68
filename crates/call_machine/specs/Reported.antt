-- What a report of one thread says of its script.
use Rattle.std.specs.Prelude.{ℕ, ◌≡◌, ◌≤◌, ◌/◌, ◌^◌, List, [], length, unwrap_or, slice_get}
use Rattle.word_port.specs.declared.RunFull.{RunFull}
use Rattle.word_port.specs.Port.{PortState}
use Rattle.word_port.specs.Limits.{Progress}
use Rattle.word_port.specs.Runs.{Runs, StopsAt}
use Rattle.word_port.specs.History.{IsLegal, with_races}
use Rattle.word_port.specs.Interaction.{Interaction}
use Rattle.call_script.specs.declared.HostAct.{HostAct}
use Rattle.call_report.specs.Report.{report}
use Rattle.call_machine.specs.declared.Machine.{Machine}
use Rattle.call_machine.specs.Context.{first_context}
use Rattle.call_machine.specs.Result.{Outcome}
use Rattle.call_machine.specs.Thread.{thread}

-- the limits of a participant
abbrev pub step_limit : ℕ
step_limit = 2 ^ 20

-- how many records a participant makes at most
abbrev pub record_limit : ℕ
record_limit = 2 ^ 16

-- how far a participant is when it begins, where its log takes so many steps
abbrev pub beginning : Machine → ℕ → Progress
beginning m limit = record {
  port = record { log = []; limit = limit; words = length m.script.words; host = m.script.settings.host; name = [] };
  records = record_limit;
  waits = limit / 4;
}

-- the acts of a host thread
abbrev pub acts_at : Machine → ℕ → List HostAct
acts_at m number = unwrap_or (slice_get m.script.threads number) []

-- what thread 0 does
abbrev pub first_thread : Machine → Interaction Outcome
first_thread m = thread m (first_context m.script.settings 0) (acts_at m 0)

-- the port's log with the script's races between its steps is legal on the script's words
abbrev pub IsLegalWithRaces : Machine → PortState → Type 0
IsLegalWithRaces m port = IsLegal m.script.words (with_races m.script.settings.host m.script.races port.log)

-- the text is the report of a whole run of thread 0
pub record IsReportOf (m : Machine) (text : List ℕ) : Type 0 where
  pub outcome : Outcome
  pub after : Progress
  pub run : Runs (first_thread m) (beginning m step_limit) after outcome
  pub within : length after.port.log ≤ step_limit
  pub legal : IsLegalWithRaces m after.port
  pub text_is : text ≡ report m.interface outcome.records after.port.log

-- a run of thread 0 is cut by this limit
pub record IsCutBy (m : Machine) (full : RunFull) : Type 0 where
  pub port : PortState
  pub stops : StopsAt full (first_thread m) (beginning m step_limit) port
  pub within : length port.log ≤ step_limit
  pub legal : IsLegalWithRaces m port
