-- When two runs are one.
use Rattle.std.specs.Prelude.{◌≡◌, List, [], ◌∷◌}
use Rattle.word_port.specs.declared.Step.{Step}
use Rattle.word_port.specs.Limits.{Progress}
use Rattle.word_port.specs.Runs.{Runs}
use Rattle.call_machine.specs.declared.Machine.{Machine}
use Rattle.call_machine.specs.Result.{Outcome}
use Rattle.call_machine.specs.Reported.{IsLegalWithRaces, beginning, first_thread, step_limit}

-- two logs have the same answers as far as both go
abbrev pub HaveSameAnswers : List Step → List Step → Type 0
HaveSameAnswers (s ∷ log) (u ∷ other) = (s.answer ≡ u.answer) × HaveSameAnswers log other
HaveSameAnswers _ _ = Unit {0}

-- a run of a machine's first thread, legal on the machine's words with its races, has this outcome and this log
pub record IsWholeRun (m : Machine) (outcome : Outcome) (log : List Step) : Type 0 where
  pub after : Progress
  pub run : Runs (first_thread m) (beginning m step_limit) after outcome
  pub legal : IsLegalWithRaces m after.port
  pub log_is : log ≡ after.port.log
