-- What the result of a call tells of its run, where waiting looks are counted down.
use Rattle.std.specs.Prelude.{ℕ, Result, Ok, Err}
use Rattle.word_port.specs.declared.RunFull.{RunFull}
use Rattle.word_port.specs.Port.{PortState}
use Rattle.word_port.specs.Interaction.{Interaction}
use Rattle.word_port.specs.Limits.{Progress, progress}
use Rattle.word_port.specs.Runs.{Reaches, Runs, StopsAt}

-- the run stopped at this limit, and its events so far led to this moment
pub record StopsWith {A : Type 0} (full : RunFull) (t : Interaction A) (before after : Progress) : Type 0 where
  pub stops : StopsAt full t before after.port
  pub rest : Interaction A
  pub reaches : Reaches t before after rest

-- from a port and so many waiting looks left to others: a whole run with the value that the result stands for, or one that stopped
abbrev pub IsOutcomeOf : {A B : Type 0} → (B → A) → Interaction A → PortState → ℕ → PortState → ℕ → Result B RunFull → Type 0
IsOutcomeOf value t old before new after (Ok x) = (records : ℕ) → Runs t (progress old records before) (progress new records after) (value x)
IsOutcomeOf value t old before new after (Err full) = (records : ℕ) → StopsWith full t (progress old records before) (progress new records after)
