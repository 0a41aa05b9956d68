-- The steps by which a call passes through a slot.
use Rattle.std.specs.Prelude.{ℕ, ◌+◌, ◌≡◌, ◌≢◌, IsTrue, List, ◌∷◌, ◌++◌, All, Contains}
use Rattle.word_port.specs.declared.Step.{Step}
use Rattle.word_port.specs.declared.Side.TheVariants.{Pool}
use Rattle.word_port.specs.Requests.{step_of, swap_of, cas_of}
use Rattle.switchless.specs.Slots.{is_offered, done_word}

-- a caller offers a word in a free slot
abbrev pub offering : ℕ → ℕ → Step
offering slot word = step_of (cas_of Pool slot 0 word) 0

-- a worker accepts the word that it finds
abbrev pub acceptance : ℕ → ℕ → Step
acceptance slot word = step_of (cas_of Pool slot word (word + 1)) word

-- a worker leaves a word in the slot, and finds another
abbrev pub leaving : ℕ → ℕ → ℕ → Step
leaving slot word found = step_of (swap_of Pool slot word) found

-- a caller empties the slot, and finds a word
abbrev pub collecting : ℕ → ℕ → Step
collecting slot found = step_of (swap_of Pool slot 0) found

-- so far a participant has accepted this offered word at the slot, and made no step there since
pub record HasAccepted (slot word : ℕ) (past : List Step) : Type 0 where
  pub offered : IsTrue (is_offered word)
  pub before : List Step
  pub since : List Step
  pub parted : past ≡ before ++ acceptance slot word ∷ since
  pub elsewhere : All (λ s. s.index ≢ slot) since

-- the word is that of a call which the participant accepted, with a status
pub record IsServedWord (slot word : ℕ) (past : List Step) : Type 0 where
  pub accepted : ℕ
  pub status : ℕ
  pub is_done : word ≡ done_word accepted status
  pub has_accepted : HasAccepted slot accepted past

-- one of the steps left this word in the slot
pub record WasLeft (slot word : ℕ) (steps : List Step) : Type 0 where
  pub found : ℕ
  pub left : Contains steps (leaving slot word found)
