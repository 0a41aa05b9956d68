-- Logs whose steps stand in one order.
use Rattle.std.specs.Prelude.{ℕ, List}
use Rattle.word_port.specs.declared.Step.{Step}
use Rattle.word_port.specs.History.{IsLegal, history_of, IsShuffleOf}

-- the logs are sequentially consistent from these words: there is one legal history that is a shuffle of them, so it has each of their steps once, each log's in its order, and no other steps
pub record HaveOneHistory (initial : List ℕ) (logs : List (List Step)) : Type 0 where
  pub history : List Step
  pub legal : IsLegal initial (history_of history)
  pub shuffled : IsShuffleOf logs history
