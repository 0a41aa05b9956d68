-- Parts of a log, by their places.
use Rattle.std.specs.Prelude.{ℕ, ◌≡◌, List, ◌++◌, length}
use Rattle.word_port.specs.declared.Step.{Step}

-- these steps stand in the log, one right after another, from this place on
pub record StandAt (log : List Step) (place : ℕ) (steps : List Step) : Type 0 where
  pub before : List Step
  pub later : List Step
  pub log_is : log ≡ before ++ (steps ++ later)
  pub place_is : place ≡ length before
