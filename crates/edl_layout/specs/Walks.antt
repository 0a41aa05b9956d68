-- Walks from a type over the types that it holds by value.
use Rattle.std.specs.Prelude.{◌≡◌, ◌<◌, ◌⊎◌, ℕ, ◌+◌, Bool, true, false, not, List, [], slice_get, length, Some}
use Rattle.edl_grammar.specs.declared.Gathered.{Gathered}
use Rattle.edl_grammar.specs.declared.Declared.{Declared}
use Rattle.edl_grammar.specs.Files.{TypeIn, types_of}
use Rattle.edl_layout.specs.declared.ForeignTypes.{ForeignTypes}
use Rattle.edl_layout.specs.declared.cycles.Walk.{Walk}
use Rattle.edl_layout.specs.Meaning.{Holds, HoldsItself, members_of}
use Rattle.edl_layout.specs.Targets.{IsNumber}
use Rattle.edl_layout.specs.Sizes.{Has, count_of, holds_of}

-- the type of this number is reached
abbrev pub IsMarked : List Bool → ℕ → Type 0
IsMarked reached k = slice_get reached k ≡ Some true

-- the types that are not reached, and those from which the walk has still to go on
abbrev pub to_do : Walk → ℕ
to_do w = count_of not w.reached + length w.work

module _ (g : Gathered) (foreign : ForeignTypes) where
  pub record IsReached (reached : List Bool) (t : TypeIn) : Type 0 where
    pub number : ℕ
    pub first : IsNumber (types_of g) t number
    pub mark : IsMarked reached number

  -- all that these members hold is reached
  abbrev pub AreReached : List Bool → List Declared → Type 0
  AreReached reached ms = (m : Declared) (t : TypeIn) → Has ms m → holds_of g foreign m.written ≡ Some t → IsReached reached t

  -- one of the members holds the type of this number
  pub record IsHeldBy (ms : List Declared) (k : ℕ) : Type 0 where
    pub member : Declared
    pub type : TypeIn
    pub among : Has ms member
    pub held : holds_of g foreign member.written ≡ Some type
    pub first : IsNumber (types_of g) type k

  -- the walk has gone to all that these members hold
  pub record HasGone (ms : List Declared) (old new : Walk) : Type 0 where
    pub count : length new.reached ≡ length old.reached
    pub grows : (k : ℕ) → IsMarked old.reached k → IsMarked new.reached k
    pub rest : to_do new ≡ to_do old
    pub all : AreReached new.reached ms
    pub only : (k : ℕ) → IsMarked new.reached k → IsMarked old.reached k ⊎ (Has new.work k × IsHeldBy ms k)
    pub kept : (k : ℕ) → Has old.work k → Has new.work k
    pub more : (k : ℕ) → Has new.work k → Has old.work k ⊎ IsMarked new.reached k

  -- a walk leads from the members to the type
  pub record IsFrom (ms : List Declared) (t : TypeIn) : Type 0 where
    pub member : Declared
    pub type : TypeIn
    pub steps : ℕ
    pub among : Has ms member
    pub held : holds_of g foreign member.written ≡ Some type
    pub way : Holds g foreign steps type t

  pub record IsWalk (ms : List Declared) (w : Walk) : Type 0 where
    pub count : length w.reached ≡ length (types_of g)
    pub sound : (k : ℕ) (t : TypeIn) → slice_get (types_of g) k ≡ Some t → IsMarked w.reached k → IsFrom ms t
    pub marked : (k : ℕ) → Has w.work k → IsMarked w.reached k
    pub closed : (k : ℕ) (t : TypeIn) → slice_get (types_of g) k ≡ Some t → IsMarked w.reached k → Has w.work k ⊎ AreReached w.reached (members_of t.decl)
    pub start : AreReached w.reached ms

  -- the walk from the type of a number has nowhere left to go
  pub record HasWalked (number : ℕ) (w : Walk) : Type 0 where
    pub walk : (t : TypeIn) → slice_get (types_of g) number ≡ Some t → IsWalk (members_of t.decl) w
    pub done : w.work ≡ []

  -- what is told of whether the type of a number holds itself, where none before it that is the same does
  abbrev pub IsItself : ℕ → Bool → Type 0
  IsItself number true = (t : TypeIn) → slice_get (types_of g) number ≡ Some t → HoldsItself g foreign t
  IsItself number false = (t : TypeIn) → slice_get (types_of g) number ≡ Some t → HoldsItself g foreign t → (k : ℕ) × (k < number) × (slice_get (types_of g) k ≡ Some t)
