-- What a write of a text does to a sink.
use Rattle.std.specs.Prelude.{ℕ, ◌≡◌, ◌≢◌, List, [], ◌++◌, take, Option, option_map, Result, Ok, Err}
use Rattle.sgx_base.specs.Counts.{Rose}
use Rattle.sgx_base.specs.declared.sink.SinkFault.{SinkFault}
use Rattle.sgx_base.specs.declared.sink.SinkFault.TheVariants.{Failed, Memory}

-- what a sink shows of itself: all that was written, where it tells it, and how often a write failed
pub record SinkState : Type 0 where
  pub written : Option (List ℕ)
  pub faults : ℕ

-- the sink grew by exactly this text, where it tells what was written
abbrev pub GrewBy : List ℕ → SinkState → SinkState → Type 0
GrewBy text before after = after.written ≡ option_map (λ written. written ++ text) before.written

-- it grew by the first bytes of the text
abbrev pub GrewByPart : List ℕ → SinkState → SinkState → Type 0
GrewByPart text before after = (n : ℕ) × GrewBy (take n text) before after

-- the count of failed writes rose
abbrev pub SinkFailed : SinkState → SinkState → Type 0
SinkFailed before after = Rose before.faults after.faults

-- what the answer to one write of this text tells: all of it is written, or its first bytes, where the write failed or
-- memory ran out
abbrev pub IsTextWrite : List ℕ → Result (Unit {0}) SinkFault → SinkState → SinkState → Type 0
IsTextWrite text (Ok done) before after = GrewBy text before after
IsTextWrite text (Err Failed) before after = GrewByPart text before after × SinkFailed before after
IsTextWrite text (Err Memory) before after = GrewByPart text before after

-- the text was written whole, and an empty one by no write, so that the sink is as it was
pub record Wrote (text : List ℕ) (before after : SinkState) : Type 0 where
  pub grew : GrewBy text before after
  pub by_none : text ≡ [] → after ≡ before

-- of a text that is not empty the first bytes were written
pub record WrotePart (text : List ℕ) (before after : SinkState) : Type 0 where
  pub some : text ≢ []
  pub grew : GrewByPart text before after
