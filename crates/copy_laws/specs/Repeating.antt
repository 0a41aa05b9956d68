-- Two ECALLs of one function at one address, on words that have the same arguments.
use Rattle.std.specs.Prelude.{ℕ, ◌≡◌, true, List, [], ◌∷◌, length, Option, Some, slice_get}
use Rattle.edl_interface.specs.declared.Function.{Function}
use Rattle.edl_interface.specs.declared.Param.{Param}
use Rattle.edl_interface.specs.Parameters.{marshalled, is_in, address_in}
use Rattle.edl_interface.specs.Lengths.{copied_length}
use Rattle.call_machine.specs.declared.Machine.{Machine}
use Rattle.call_laws.specs.Within.{IsWordIn}
use Rattle.call_laws.specs.Undisturbed.{AreAt, with_answer}

-- the words of the addresses from this one on, so many, are the same in both
abbrev pub AreAlikeAt : List ℕ → List ℕ → ℕ → ℕ → Type 0
AreAlikeAt words others address count = (index : ℕ) → IsWordIn address count index → slice_get words index ≡ slice_get others index

-- so are those of each `in` parameter, where the frame says that it lies
abbrev pub HaveSameRanges : List ℕ → List ℕ → Function → List ℕ → List Param → Type 0
HaveSameRanges words others f frame [] = Unit {0}
HaveSameRanges words others f frame (p ∷ params) =
    (is_in p.class ≡ true → AreAlikeAt words others (address_in frame p) (copied_length f frame p)) × HaveSameRanges words others f frame params

-- both have the same bytes in the frame at this address and in the `in` ranges, whatever else they have
pub record HaveSameArguments (f : Function) (address : ℕ) (words others : List ℕ) : Type 0 where
  pub frames : AreAlikeAt words others address f.frame_size
  pub ranges : (frame : List ℕ) → length frame ≡ f.frame_size → AreAt words address frame → HaveSameRanges words others f frame (marshalled f)

-- a function of this ordinal is called with the same arguments
abbrev pub AreSameCalls : Machine → ℕ → ℕ → List ℕ → List ℕ → Type 0
AreSameCalls m ordinal address words others = (f : Function) → slice_get m.interface.ecalls ordinal ≡ Some f → HaveSameArguments f address words others

-- one answer was written to both words: one value, and one block for each `out` parameter
pub record IsSameAnswer (m : Machine) (ordinal address : ℕ) (words others after later : List ℕ) : Type 0 where
  pub function : Function
  pub found : slice_get m.interface.ecalls ordinal ≡ Some function
  pub frame : List ℕ
  pub value : ℕ
  pub blocks : List (Option (List ℕ))
  pub first_is : after ≡ with_answer function address frame value blocks words
  pub second_is : later ≡ with_answer function address frame value blocks others
