-- What the answers in a legal history tell of the writes in it.
use Rattle.std.specs.Prelude.{ℕ, ◌≡◌, ◌≢◌, ◌==◌, ◌&&◌, Bool, true, false, List, ◌∷◌, ◌++◌, All, Some, slice_get}
use Rattle.word_port.specs.declared.Step.{Step}
use Rattle.word_port.specs.declared.Kind.{Kind}
use Rattle.word_port.specs.declared.Kind.TheVariants.{Load, Swap, Add, Cas}
use Rattle.word_port.specs.History.{IsLegal, history_of, word_after, IsShuffleOf}

-- whether a step that found this word writes it: a compare and exchange only where it wins
abbrev pub does_write : Kind → ℕ → ℕ → Bool
does_write Load first found = false
does_write Swap first found = true
does_write Add first found = true
does_write Cas first found = found == first

-- whether the step is a write of this word
abbrev pub is_write_of : ℕ → Step → Bool
is_write_of index s = (s.index == index) && does_write s.kind s.first s.answer

-- the word that a step leaves
abbrev pub left_by : Step → ℕ
left_by s = word_after s.kind s.first s.second s.answer

-- the last write of this word among the steps leaves n
pub record IsLastWrite (index n : ℕ) (steps : List Step) : Type 0 where
  pub before : List Step
  pub write : Step
  pub after : List Step
  pub split : steps ≡ before ++ write ∷ after
  pub writes : is_write_of index write ≡ true
  pub leaves : left_by write ≡ n
  pub last : All (λ s. is_write_of index s ≡ false) after

-- in the history the step stands after the write, and its answer is what that write or a later one left
pub record Answers (history : List Step) (write s : Step) : Type 0 where
  pub before : List Step
  pub since : List Step
  pub after : List Step
  pub split : history ≡ before ++ write ∷ (since ++ s ∷ after)
  pub last : IsLastWrite s.index s.answer (write ∷ since)

-- each log sees its own writes: a step on a word that its own log has written before answers that write or a later one
abbrev pub OwnWritesAreSeen : Type 0
OwnWritesAreSeen = (initial : List ℕ) (logs : List (List Step)) (history : List Step) (seat : ℕ) (early late rest : List Step) (write s : Step)
    → IsLegal initial (history_of history) → IsShuffleOf logs history → slice_get logs seat ≡ Some (early ++ write ∷ (late ++ s ∷ rest)) → is_write_of s.index write ≡ true
    → Answers history write s

-- the step is a compare and exchange of this word that found what it looked for
pub record WinsFrom (n : ℕ) (s : Step) : Type 0 where
  pub kind : s.kind ≡ Cas
  pub first : s.first ≡ n
  pub answer : s.answer ≡ n

-- between two compare and exchanges of 0 on one word that both win, where the first one leaves another word, there is a write of that word, and the last one leaves 0
abbrev pub WordIsFreedBetween : Type 0
WordIsFreedBetween = (initial : List ℕ) (before between after : List Step) (one two : Step)
    → IsLegal initial (history_of (before ++ one ∷ (between ++ two ∷ after))) → WinsFrom 0 one → WinsFrom 0 two → one.index ≡ two.index → one.second ≢ 0
    → IsLastWrite one.index 0 between
