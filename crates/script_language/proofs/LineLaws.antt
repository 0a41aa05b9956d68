-- Which lines have faults, and which lines say nothing.
use Rattle.std.proofs.Common.{arith, ℕ, ◌≡◌, ◌+◌, ◌≤◌, Bool, true, false, List, [], ◌∷◌, ◌++◌, length, Option, Some, None, refl, sym, ◌∙◌, ap}
use Rattle.std.specs.Prelude.{map, option_map, find, if◌then◌else◌}
use Rattle.edl_interface.specs.declared.Interface.{Interface}
use Rattle.call_script.specs.Spelling.{Word, NumberedLine, numbered_from, numbered_lines, means_nothing, words, lines}
use Rattle.call_script.specs.Parser.{or_else}
use Rattle.call_script.specs.Block.{Block, PlacedLine, placed, placed_from, placed_lines, open_after}
use Rattle.call_script.specs.Standing.{Standing, standings_from, lines_of}
use Rattle.call_script.specs.Faults.{Fault, Row, rows_of, fault_of, fault_at, is_left_open, line_fault, stack_fault, stacks_do_not_fit, script_fault}
use Rattle.call_script.specs.Meaning.{script_value}
use Rattle.call_script.specs.Reading.{script_of, unless_fault}
use Rattle.script_laws.specs.FirstFault.{first_of}
use Rattle.script_laws.proofs.FirstFault.{first_of-cons}
use Rattle.script_language.specs.Said.{said}

-- ---- the line of a fault

-- no line has a number above this
AreUpTo : ℕ → List NumberedLine → Type 0
AreUpTo most [] = Unit {0}
AreUpTo most (l ∷ ls) = (l.number ≤ most) × AreUpTo most ls

numbered-up-to : (n most : ℕ) (ls : List (List ℕ)) → n + length ls ≤ most + 1 → AreUpTo most (numbered_from n ls)
unfolding AreUpTo
numbered-up-to n most [] h = tt
numbered-up-to n most (l ∷ ls) h = go (means_nothing (words l)) refl (numbered-up-to (n + 1) most ls (omega arith))
  where
    go : (t : Bool) → means_nothing (words l) ≡ t → AreUpTo most (numbered_from (n + 1) ls)
        → AreUpTo most (numbered_from n (l ∷ ls))
    go true e k = rw e k
    go false e k = rw e (omega arith, k)

pub fault-number : (n : ℕ) (o : Option Row) (fault : Fault) → option_map (fault_of n) o ≡ Some fault → fault.line ≡ n
fault-number n None fault e = absurd cc
fault-number n (Some r) fault e = sym (ap (λ o. elim o as (λ v. ℕ) [ None ↦ n | Some f ↦ f.line ]) e)

module _ (i : Interface) (racing : Bool) where
  first-up-to : (most : ℕ) (before : List PlacedLine) (around : List Block) (ls : List NumberedLine) → AreUpTo most ls
      → (fault : Fault) → first_of (fault_at i racing) (standings_from before (placed_from around ls)) ≡ Some fault
      → fault.line ≤ most
  unfolding AreUpTo
  first-up-to most before around [] h fault e = absurd cc
  first-up-to most before around (l ∷ ls) h fault e =
      go (fault_at i racing here) refl (sym (first_of-cons (fault_at i racing) here rest) ∙ e)
      (λ k. first-up-to most (before ++ line ∷ []) (open_after line) ls h.1 fault k)
    where
      line : PlacedLine
      line = placed around l

      here : Standing
      here = record { before = before; here = line; behind = placed_from (open_after line) ls }

      rest : List Standing
      rest = standings_from (before ++ line ∷ []) (placed_from (open_after line) ls)

      go : (o : Option Fault) → fault_at i racing here ≡ o
          → or_else (fault_at i racing here) (first_of (fault_at i racing) rest) ≡ Some fault
          → (first_of (fault_at i racing) rest ≡ Some fault → fault.line ≤ most) → fault.line ≤ most
      go None k j later = later (ap (λ o. or_else o (first_of (fault_at i racing) rest)) (sym k) ∙ j)
      go (Some f) k j later =
          let same : fault_at i racing here ≡ Some fault = k ∙ ap (λ o. or_else o (first_of (fault_at i racing) rest)) (sym k) ∙ j in
          let number : fault.line ≡ l.number =
          fault-number l.number (find (λ r. r.broken) (rows_of i racing (is_left_open here) here line.line)) fault same in
          omega arith

  line-up-to : (bytes : List ℕ) (fault : Fault) → line_fault i racing (placed_lines bytes) ≡ Some fault
      → fault.line ≤ length (lines bytes)
  unfolding placed_lines
  line-up-to bytes fault e =
      first-up-to (length (lines bytes)) [] [] (numbered_lines bytes)
      (numbered-up-to 1 (length (lines bytes)) (lines bytes) (omega arith)) fault e

  pub stack-up-to : (script : List PlacedLine) (most : ℕ) (fault : Fault) → stack_fault racing script ≡ Some fault
      → fault.line ≤ most
  stack-up-to script most fault e = go (stacks_do_not_fit racing (lines_of script)) e
    where
      go : (t : Bool) → (if t then Some (record { line = 0; code = 17 }) else None) ≡ Some fault → fault.line ≤ most
      go true k = let none : 0 ≡ fault.line = ap (λ o. elim o as (λ v. ℕ) [ None ↦ 0 | Some f ↦ f.line ]) k in omega arith
      go false k = absurd cc

  pub fault-exists : (bytes : List ℕ) (fault : Fault) → script_fault i racing (placed_lines bytes) ≡ Some fault
      → fault.line ≤ length (lines bytes)
  fault-exists bytes fault e = go (line_fault i racing (placed_lines bytes)) refl
    where
      go : (o : Option Fault) → line_fault i racing (placed_lines bytes) ≡ o → fault.line ≤ length (lines bytes)
      go None k =
          stack-up-to (placed_lines bytes) (length (lines bytes)) fault
          (ap (λ o. or_else o (stack_fault racing (placed_lines bytes))) (sym k) ∙ e)
      go (Some f) k =
          line-up-to bytes fault
          (k ∙ ap (λ o. or_else o (stack_fault racing (placed_lines bytes))) (sym k) ∙ e)

-- ---- lines that say nothing

-- the lines that say something, counted from this on
numbered_words : ℕ → List (List Word) → List NumberedLine
numbered_words n [] = []
numbered_words n ([] ∷ ls) = numbered_words (n + 1) ls
numbered_words n ((w ∷ ws) ∷ ls) = record { number = n; words = w ∷ ws } ∷ numbered_words (n + 1) ls

numbered-said : (n : ℕ) (ls : List (List ℕ)) → numbered_from n ls ≡ numbered_words n (map said ls)
unfolding numbered_words
numbered-said n [] = refl
numbered-said n (l ∷ ls) = go (words l) (numbered-said (n + 1) ls)
  where
    spoken : List Word → List Word
    spoken ws = if means_nothing ws then [] else ws

    by : (ws : List Word) (t : Bool) → means_nothing ws ≡ t
        → numbered_from (n + 1) ls ≡ numbered_words (n + 1) (map said ls)
        → (if t then numbered_from (n + 1) ls else record { number = n; words = ws } ∷ numbered_from (n + 1) ls)
        ≡ numbered_words n ((if t then [] else ws) ∷ map said ls)
    by ws true e k = k
    by [] false e k = absurd cc
    by (w ∷ ws) false e k = ap (λ rest. record { number = n; words = w ∷ ws } ∷ rest) k

    go : (ws : List Word) → numbered_from (n + 1) ls ≡ numbered_words (n + 1) (map said ls)
        → (if means_nothing ws then numbered_from (n + 1) ls
        else record { number = n; words = ws } ∷ numbered_from (n + 1) ls)
        ≡ numbered_words n ((if means_nothing ws then [] else ws) ∷ map said ls)
    go ws k = by ws (means_nothing ws) refl k

pub same-script : (i : Interface) (racing : Bool) (bytes other : List ℕ)
    → map said (lines bytes) ≡ map said (lines other) → script_of i racing bytes ≡ script_of i racing other
unfolding script_of placed_lines
same-script i racing bytes other e =
    ap (λ ls. unless_fault (script_fault i racing (placed_from [] ls)) (script_value i racing (placed_from [] ls)))
    (numbered-said 1 (lines bytes) ∙ ap (numbered_words 1) e ∙ sym (numbered-said 1 (lines other)))
