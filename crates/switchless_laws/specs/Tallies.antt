-- How often words that pass a test were served and taken.
use Rattle.std.specs.Prelude.{ℕ, ◌+◌, ◌==◌, Bool, ◌&&◌, if◌then◌else◌, List, [], ◌∷◌}
use Rattle.word_port.specs.declared.Step.{Step}
use Rattle.switchless.specs.Slots.{is_done}
use Rattle.switchless.specs.Counts.{is_swap_by_pool}

-- 1 where it is so
abbrev pub one_if : Bool → ℕ
one_if b = if b then 1 else 0

-- whether a worker leaves a word that passes the test in the slot
abbrev pub is_finish : (ℕ → Bool) → ℕ → Step → Bool
is_finish test slot s = is_swap_by_pool s.side s.kind && (s.index == slot && (is_done s.first && test s.first))

-- whether a caller finds a word that passes the test in the slot, and empties it
abbrev pub is_collect : (ℕ → Bool) → ℕ → Step → Bool
is_collect test slot s = is_swap_by_pool s.side s.kind && (s.index == slot && (s.first == 0 && test s.answer))

-- how many of the steps are of a kind
abbrev pub tally : (Step → Bool) → List Step → ℕ
tally kind [] = 0
tally kind (s ∷ log) = one_if (kind s) + tally kind log

-- how often such words were served in the slot
abbrev pub served_at : (ℕ → Bool) → ℕ → List Step → ℕ
served_at test slot log = tally (is_finish test slot) log

-- how often such words were taken from the slot
abbrev pub taken_at : (ℕ → Bool) → ℕ → List Step → ℕ
taken_at test slot log = tally (is_collect test slot) log

-- 1 where the word is done and passes the test
abbrev pub done_in : (ℕ → Bool) → ℕ → ℕ
done_in test word = one_if (is_done word && test word)
