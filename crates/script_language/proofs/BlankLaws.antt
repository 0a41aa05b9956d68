-- A script with one more line that means nothing.
use Rattle.std.proofs.Common.{arith, ℕ, ◌≡◌, ◌+◌, ◌≤◌, ◌<◌, Bool, true, false, leb-true, leb-false, List, [], ◌∷◌, ◌++◌, length, Option, Some, None, refl, sym, ◌∙◌, ap}
use Rattle.std.specs.Prelude.{Result, nat_le, map, option_map, if◌then◌else◌}
use Rattle.std.proofs.lemmas.Bool.{le-leb, lt-leb}
use Rattle.edl_interface.specs.declared.Interface.{Interface}
use Rattle.call_script.specs.declared.Script.{Script}
use Rattle.call_script.specs.Spelling.{NumberedLine, numbered_from, means_nothing, words, lines}
use Rattle.call_script.specs.Block.{PlacedLine, placed_from, placed_lines}
use Rattle.call_script.specs.Faults.{Fault, script_fault}
use Rattle.call_script.specs.Meaning.{script_value}
use Rattle.call_script.specs.Reading.{script_of, unless_fault}
use Rattle.script_language.specs.Said.{moved_line, moved}
use Rattle.script_language.proofs.RenumberLaws.{in_other, line_other, placed-other, value-other}
use Rattle.script_language.proofs.RenumberedFault.{fault_other, script-fault-other}

moved-below : (k n : ℕ) → n ≤ k → moved_line k n ≡ n
moved-below k n h = rw (le-leb n k h) refl

moved-above : (k n : ℕ) → k < n → moved_line k n ≡ n + 1
moved-above k n h = rw (lt-leb n k h) refl

moved-none : (k : ℕ) → moved_line k 0 ≡ 0
moved-none k = moved-below k 0 (omega arith)

moved-only : (k a b : ℕ) → moved_line k a ≡ moved_line k b → a ≡ b
moved-only k a b e = go (nat_le a k) (nat_le b k) refl refl e
  where
    go : (t u : Bool) → nat_le a k ≡ t → nat_le b k ≡ u → (if t then a else a + 1) ≡ (if u then b else b + 1) → a ≡ b
    go true true h j e = e
    go false false h j e = omega arith
    go true false h j e =
        let below : a ≤ k = leb-true a k h in
        let above : k < b = leb-false b k j in
        omega arith
    go false true h j e =
        let above : k < a = leb-false a k h in
        let below : b ≤ k = leb-true b k j in
        omega arith

module _ (k : ℕ) where
  other : NumberedLine → NumberedLine
  other = in_other (moved_line k) (moved-only k) (moved-none k)

  numbered-above : (n : ℕ) (ls : List (List ℕ)) → k < n → numbered_from (n + 1) ls ≡ map other (numbered_from n ls)
  unfolding other
  numbered-above n [] h = refl
  numbered-above n (l ∷ ls) h =
      go (means_nothing (words l)) (numbered-above (n + 1) ls (omega arith))
    where
      go : (t : Bool) → numbered_from (n + 1 + 1) ls ≡ map other (numbered_from (n + 1) ls)
          → (if t then numbered_from (n + 1 + 1) ls else record { number = n + 1; words = words l } ∷ numbered_from (n + 1 + 1) ls)
          ≡ map other (if t then numbered_from (n + 1) ls else record { number = n; words = words l } ∷ numbered_from (n + 1) ls)
      go true rest = rest
      go false rest =
          let here : n + 1 ≡ moved_line k n = sym (moved-above k n h) in
          λ j. record { number = here j; words = words l } ∷ rest j

  numbered-inserted : (n : ℕ) (before : List (List ℕ)) (x : List ℕ) (behind : List (List ℕ)) → n + length before ≡ k + 1
      → means_nothing (words x) ≡ true
      → numbered_from n (before ++ x ∷ behind) ≡ map other (numbered_from n (before ++ behind))
  unfolding other
  numbered-inserted n [] x behind e silent = rw silent (numbered-above n behind (omega arith))
  numbered-inserted n (l ∷ before) x behind e silent =
      go (means_nothing (words l)) (numbered-inserted (n + 1) before x behind (omega arith) silent)
    where
      go : (t : Bool)
          → numbered_from (n + 1) (before ++ x ∷ behind) ≡ map other (numbered_from (n + 1) (before ++ behind))
          → (if t then numbered_from (n + 1) (before ++ x ∷ behind)
          else record { number = n; words = words l } ∷ numbered_from (n + 1) (before ++ x ∷ behind))
          ≡ map other (if t then numbered_from (n + 1) (before ++ behind)
          else record { number = n; words = words l } ∷ numbered_from (n + 1) (before ++ behind))
      go true rest = rest
      go false rest =
          let here : n ≡ moved_line k n = sym (moved-below k n (omega arith)) in
          λ j. record { number = here j; words = words l } ∷ rest j

module _ (before : List (List ℕ)) (x : List ℕ) (behind : List (List ℕ)) (silent : means_nothing (words x) ≡ true) where
  abbrev k : ℕ
  k = length before

  placed-inserted : placed_from [] (numbered_from 1 (before ++ x ∷ behind))
      ≡ map (line_other (moved_line k) (moved-only k) (moved-none k)) (placed_from [] (numbered_from 1 (before ++ behind)))
  unfolding other
  placed-inserted =
      ap (placed_from []) (numbered-inserted k 1 before x behind (omega arith) silent)
      ∙ placed-other (moved_line k) (moved-only k) (moved-none k) [] (numbered_from 1 (before ++ behind))

  module _ (i : Interface) (racing : Bool) where
    abbrev pub read : List PlacedLine → Result Script Fault
    read ps = unless_fault (script_fault i racing ps) (script_value i racing ps)

    pub read-inserted : read (placed_from [] (numbered_from 1 (before ++ x ∷ behind)))
        ≡ moved k (read (placed_from [] (numbered_from 1 (before ++ behind))))
    read-inserted =
        let fault = script-fault-other (moved_line k) (moved-only k) (moved-none k) i racing lines in
        let value = value-other (moved_line k) (moved-only k) (moved-none k) i racing lines in
        ap read placed-inserted
        ∙ (λ j. unless_fault (fault j) (value j)) ∙ go (script_fault i racing lines) (script_value i racing lines)
      where
        lines : List PlacedLine
        lines = placed_from [] (numbered_from 1 (before ++ behind))

        go : (o : Option Fault) (s : Script)
            → unless_fault (option_map (fault_other (moved_line k) (moved-only k) (moved-none k)) o) s
            ≡ moved k (unless_fault o s)
        go None s = refl
        go (Some fault) s = refl

pub moved-script : (i : Interface) (racing : Bool) (before : List (List ℕ)) (x : List ℕ) (behind : List (List ℕ))
    (bytes longer : List ℕ) → means_nothing (words x) ≡ true → lines bytes ≡ before ++ behind
    → lines longer ≡ before ++ x ∷ behind
    → script_of i racing longer ≡ moved (length before) (script_of i racing bytes)
unfolding script_of placed_lines
moved-script i racing before x behind bytes longer silent e k =
    ap (λ ls. unless_fault (script_fault i racing (placed_from [] (numbered_from 1 ls)))
    (script_value i racing (placed_from [] (numbered_from 1 ls)))) k
    ∙ read-inserted before x behind silent i racing
    ∙ sym (ap (λ ls. moved (length before) (unless_fault (script_fault i racing (placed_from [] (numbered_from 1 ls)))
    (script_value i racing (placed_from [] (numbered_from 1 ls))))) e)
