use Rattle.std.proofs.Common.{ℕ, ◌≡◌, ◌+◌, ◌-◌, ◌<◌, ◌≤◌, All, length, take, drop, slice_index}
use Rattle.word_port.specs.History.{words_in_the_end, race_writes}
use Rattle.word_port.proofs.plain_words.make_races.Given as goal

abbrev pub invariant-loop-made : goal.invariant-loop-made
invariant-loop-made l = record {
  words : l.words ≡ words_in_the_end l.fn.words (race_writes (take l.made l.races) (l.accesses + 1));
  before : All (λ r. r.at ≤ l.accesses + 1) (take l.made l.races);
  after : All (λ r. l.accesses + 1 ≤ r.at) (drop l.made l.races);
  bytes : (k : ℕ) → slice_index l.fn.words k < 256 → slice_index l.words k < 256;
}

abbrev pub decreases-loop-made : goal.decreases-loop-made
decreases-loop-made l = length l.races - l.made
