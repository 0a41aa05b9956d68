-- What a line says, and what an edit does to the fault of a text.
use Rattle.std.specs.Prelude.{ℕ, ◌+◌, ◌≡◌, ◌==◌, Bool, false, nat_le, List, [], ◌∷◌, ◌++◌, Some, Result, Ok, Err, if◌then◌else◌}
use Rattle.std.specs.Str.{bytes_eq}
use Rattle.call_script.specs.declared.Script.{Script}
use Rattle.call_script.specs.Spelling.{Word, lines, words, means_nothing}
use Rattle.call_script.specs.Settings.{Setting}
use Rattle.call_script.specs.Line.{Set}
use Rattle.call_script.specs.Block.{Scope, line_in}
use Rattle.call_script.specs.Faults.{Fault}

-- the words of a line, none where it means nothing
abbrev pub said : List ℕ → List Word
said line = if means_nothing (words line) then [] else words line

-- wherever the line stands, it gives this number to a setting
pub record GivesSetting (line : List ℕ) (which : Setting) (number : Word) : Type 0 where
  pub speaks : means_nothing (words line) ≡ false
  pub form : (scope : Scope) → line_in scope (words line) ≡ Some (Set which number)

-- two texts that are alike but for two settings, one behind the other, which have changed places
pub record ChangePlaces (before : List (List ℕ)) (x y : List ℕ) (behind : List (List ℕ)) (bytes swapped : List ℕ) : Type 0 where
  pub first : Setting
  pub number : Word
  pub one : GivesSetting x first number
  pub second : Setting
  pub other : Word
  pub two : GivesSetting y second other
  pub differ : bytes_eq first.word second.word ≡ false
  pub here : lines bytes ≡ before ++ x ∷ y ∷ behind
  pub there : lines swapped ≡ before ++ y ∷ x ∷ behind

-- the number of a line, where one more was put in behind the first so many; 0 is no line, and stays
abbrev pub moved_line : ℕ → ℕ → ℕ
moved_line k n = if nat_le n k then n else n + 1

-- what a text is then: the same script, or refused with the same code at the same line
abbrev pub moved : ℕ → Result Script Fault → Result Script Fault
moved k (Ok s) = Ok s
moved k (Err fault) = Err (record { line = moved_line k fault.line; code = fault.code })

-- the number of a line, where this one and the next change places
abbrev pub exchanged_line : ℕ → ℕ → ℕ
exchanged_line first n = if n == first then first + 1 else (if n == first + 1 then first else n)

-- what a text is then, where its fault goes with the line
abbrev pub exchanged : ℕ → Result Script Fault → Result Script Fault
exchanged first (Ok s) = Ok s
exchanged first (Err fault) = Err (record { line = exchanged_line first fault.line; code = fault.code })

abbrev pub is_refused_at : ℕ → Result Script Fault → Bool
is_refused_at n (Ok s) = false
is_refused_at n (Err fault) = fault.line == n
