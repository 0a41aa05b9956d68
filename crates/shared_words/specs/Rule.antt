-- What the table keeps: some legal history of all steps leads to the words, and each seat knows its part of it.
use Rattle.std.specs.Prelude.{ℕ, ◌≡◌, ◌<◌, List, [], ◌∷◌, ◌++◌, map, length, All, true, false, ◌+◌, ◌-◌, if◌then◌else◌}
use mathlib.Core.Option.{some}
use lib.ListN.{get_elem?}
use Rattle.atomic_table.specs.Table.{Me}
use Rattle.word_port.specs.declared.Step.{Step}
use Rattle.word_port.specs.declared.Side.{Side}
use Rattle.word_port.specs.declared.Kind.{Kind}
use Rattle.word_port.specs.Requests.{Request, step_of}
use Rattle.word_port.specs.History.{IsLegal, history_of, words_in_the_end, IsShuffleOf}
use Rattle.word_port.specs.Plain.{HasBytes, IsByteStep}
use Rattle.shared_words.specs.declared.rule.View.{View}

-- the ended logs, which the first view has
abbrev pub ended_in : List View → List (List Step)
ended_in [] = []
ended_in (v ∷ vs) = v.ended

-- all logs that the views have
abbrev pub logs_of : List View → List (List Step)
logs_of views = map (λ v. v.own) views ++ ended_in views

-- a spent view has no log, and every other knows how many host bytes there are
abbrev pub IsView : ℕ → View → Type 0
IsView host v = (v.spent ≡ true → v.own ≡ []) × (v.spent ≡ false → v.host ≡ host)

-- how many views are not spent
abbrev pub live_in : List View → ℕ
live_in [] = 0
live_in (v ∷ vs) = (if v.spent then 0 else 1) + live_in vs

-- the first view has the number of the others that are not spent
abbrev pub DuesAre : List View → Type 0
DuesAre [] = Unit {0}
DuesAre (v ∷ vs) = v.due ≡ live_in vs

-- some legal history leads to the words; it is a shuffle of all logs that the views have, and touches host bytes by loads and by swaps of bytes alone
pub record IsKept (initial : List ℕ) (host : ℕ) (words : List ℕ) (views : List View) : Type 0 where
  pub history : List Step
  pub legal : IsLegal initial (history_of history)
  pub ends : words_in_the_end initial (history_of history) ≡ words
  pub shuffled : IsShuffleOf (logs_of views) history
  pub steps : All (IsByteStep (length initial) host) history
  pub count : length words ≡ length initial
  pub bytes : HasBytes host words
  pub each : (id : ℕ) (v : View) → get_elem? views id ≡ some v → IsView host v
  pub dues : DuesAre views

-- the keeper's view at the start
abbrev pub first_view : ℕ → View
first_view host = record { own = []; ended = []; host = host; due = 0; spent = false }

-- the view after a step of its seat
abbrev pub with_step : View → Step → View
with_step v s = record v { own = v.own ++ s ∷ [] }

-- a step that is asked for
abbrev pub request : Side → Kind → ℕ → ℕ → ℕ → Request
request side kind index first second = record { side = side; kind = kind; index = index; first = first; second = second }

-- the seat's own log gains the step with the word that was found, which is a byte where the word is a host byte
pub record IsStep {S : Type 0} (q : Request) (before : Me S View) (found : ℕ) (after : Me S View) : Type 0 where
  pub view : after.0 ≡ with_step before.0 (step_of q found)
  pub byte : q.index < before.0.host → found < 256
  pub slots : after.1 ≡ before.1

-- the keeper's view after a split
abbrev pub one_more_due : View → View
one_more_due v = record v { due = v.due + 1 }

-- the view of a new seat
abbrev pub newcomer : View → View
newcomer v = record { own = []; ended = []; host = v.host; due = 0; spent = false }

-- the keeper's view after a join
abbrev pub with_ended : View → View → View
with_ended v w = record v { ended = v.ended ++ w.own ∷ []; due = v.due - 1 }

-- what is left of the view of a seat that has been joined
abbrev pub spent_view : View
spent_view = record { own = []; ended = []; host = 0; due = 0; spent = true }
