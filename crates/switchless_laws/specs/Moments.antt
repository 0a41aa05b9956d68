-- Participants at the slots of a pool, and what a moment of their history is.
use Rattle.std.specs.Prelude.{ℕ, ◌≡◌, ◌+◌, ◌<◌, ◌≤◌, List, [], ◌++◌, slice_get, slice_index_or, Some, IsPermutation}
use Rattle.word_port.specs.declared.Step.{Step}
use Rattle.word_port.specs.History.{IsLegal, IsShuffleOf, history_of, words_in_the_end}
use Rattle.switchless.specs.declared.Pool.{Pool as Slots}
use Rattle.switchless.specs.Counts.{taken_in, served_in}
use Rattle.switchless_laws.specs.Held.{held_in}
use Rattle.switchless_laws.specs.Phases.{Phase, idle, holds, seen, serves, KeepsSlot, IsSettled}

-- the number is that of one of the pool's slots
abbrev pub IsSlotOf : Slots → ℕ → Type 0
IsSlotOf pool slot = (pool.from ≤ slot) × (slot < pool.from + pool.slots)

-- the participant keeps to the rules of each of the pool's slots
abbrev pub KeepsSlots : Slots → List Step → Type 0
KeepsSlots pool log = (slot : ℕ) → IsSlotOf pool slot → (last : Phase) × KeepsSlot slot log last

-- no word of the participant's stands at the slot
abbrev pub HoldsNothing : Phase → Type 0
HoldsNothing idle = Unit {0}
HoldsNothing (holds w) = ⊥
HoldsNothing (seen w) = ⊥
HoldsNothing (serves w) = Unit {0}

-- it does so, and in the end no word of its own stands in a slot: the roles of the caller have ended
abbrev pub LeavesSlots : Slots → List Step → Type 0
LeavesSlots pool log = (slot : ℕ) → IsSlotOf pool slot → (last : Phase) × HoldsNothing last × KeepsSlot slot log last

-- each slot of the pool is 0
abbrev pub AreFree : Slots → List ℕ → Type 0
AreFree pool words = (slot : ℕ) → IsSlotOf pool slot → slice_get words slot ≡ Some 0

-- at a moment, with these steps before it and after, the slot is settled: each participant is in a phase to which its own steps so far
-- led it, and the steps that are left of it lead it on
pub record IsSettledMoment (slot : ℕ) (words : List ℕ) (participants : List (List Step)) (before after : List Step) : Type 0 where
  pub word : ℕ
  pub found : slice_get (words_in_the_end words (history_of before)) slot ≡ Some word
  pub phases : ℕ → Phase
  pub settled : IsSettled word phases
  pub past : ℕ → List Step
  pub left : List (List Step)
  pub parted : (k : ℕ) → slice_index_or participants k [] ≡ past k ++ slice_index_or left k []
  pub shuffled : IsShuffleOf left after
  pub led : (k : ℕ) → KeepsSlot slot (past k) (phases k)

-- the steps of these participants in one order, which is legal from words in which each slot of the pool is free
pub record IsHistory (pool : Slots) (words : List ℕ) (participants : List (List Step)) (whole : List Step) : Type 0 where
  pub are_free : AreFree pool words
  pub shuffled : IsShuffleOf participants whole
  pub legal : IsLegal words (history_of whole)

-- after these steps each call was served as often as it was taken, and once more for each slot that holds it as done
abbrev pub IsCounted : Slots → List ℕ → List Step → Type 0
IsCounted pool words before = IsPermutation (served_in pool before) (taken_in pool before ++ held_in pool (words_in_the_end words (history_of before)))
