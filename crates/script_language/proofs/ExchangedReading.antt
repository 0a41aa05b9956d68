-- What a script with two settings, one behind the other, is when they are exchanged.
use Rattle.std.proofs.Common.{arith, ℕ, ◌≡◌, ◌+◌, ◌≤◌, ◌<◌, Bool, true, false, List, [], ◌∷◌, ◌++◌, Option, sym, ◌∙◌, ap}
use Rattle.std.specs.Prelude.{Result, option_map, if◌then◌else◌}
use Rattle.std.specs.Str.{bytes_eq}
use Rattle.edl_interface.specs.declared.Interface.{Interface}
use Rattle.call_script.specs.declared.Script.{Script}
use Rattle.call_script.specs.Spelling.{Word}
use Rattle.call_script.specs.Parser.{or_else}
use Rattle.call_script.specs.Settings.{Setting}
use Rattle.call_script.specs.Block.{Block, PlacedLine}
use Rattle.call_script.specs.Standing.{standings_from, lines_of}
use Rattle.call_script.specs.Faults.{Fault, Row, fault_of, fault_at, stack_fault, script_fault}
use Rattle.call_script.specs.Meaning.{script_value}
use Rattle.call_script.specs.Reading.{unless_fault}
use Rattle.script_laws.specs.FirstFault.{first_of}
use Rattle.script_language.specs.Said.{exchanged, is_refused_at}
use Rattle.script_language.proofs.LineLaws.{stack-up-to}
use Rattle.script_language.proofs.FirstLines.{AreOfKind, first_in, first-splits, rest-exchanged, first-kind, rest-kind}
use Rattle.script_language.proofs.ExchangedLines.{setting_at, all-alike, behind-alike}
use Rattle.script_language.proofs.ExchangedFault.{setting_row, stack-alike, one-setting, two-settings, one-alike, two-alike, or-moved, or-moved-one}
use Rattle.script_language.proofs.ExchangedResult.{IsApart, IsElsewhere, either-elsewhere, first_fault, fault-kept, fault-taken}

abbrev pub reading : Interface → Bool → List PlacedLine → Result Script Fault
reading i racing ps = unless_fault (script_fault i racing ps) (script_value i racing ps)

module _ (i : Interface) (racing : Bool) (f g : Setting) (v w : Word) (differ : bytes_eq f.word g.word ≡ false)
    (other : bytes_eq g.word f.word ≡ false) (before : List PlacedLine) (around : List Block) (n : ℕ)
    (behind : List PlacedLine) where
  abbrev pub ahead : List PlacedLine
  ahead = before ++ setting_at n around f v ∷ setting_at (n + 1) around g w ∷ behind

  abbrev pub swapped : List PlacedLine
  swapped = before ++ setting_at n around g w ∷ setting_at (n + 1) around f v ∷ behind

  -- without the first of the two
  abbrev pub lone : List PlacedLine
  lone = before ++ setting_at n around g w ∷ behind

  abbrev first : List PlacedLine → Option Fault
  first = first_in i racing [] before

  abbrev found : List PlacedLine → Option Fault
  found done = first_of (fault_at i racing) (standings_from done behind)

  abbrev one : Option Row
  one = setting_row (lines_of before) f v

  abbrev two : Option Row
  two = setting_row (lines_of before) g w

  -- before the two
  abbrev start : Option Fault
  start = first (setting_at n around f v ∷ setting_at (n + 1) around g w ∷ behind)

  -- behind the two, and of the stacks
  abbrev rest : Option Fault
  rest =
      or_else (found (before ++ setting_at n around f v ∷ setting_at (n + 1) around g w ∷ []))
      (stack_fault racing ahead)

  abbrev lone-rest : Option Fault
  lone-rest = or_else (found (before ++ setting_at n around g w ∷ [])) (stack_fault racing lone)

  ahead-is : script_fault i racing ahead ≡ first_fault n start one two rest
  ahead-is =
      let lines =
      first-splits i racing [] before (setting_at n around f v ∷ setting_at (n + 1) around g w ∷ behind)
      ∙ ap (or_else start) (two-settings i racing before around n f g v w behind other) in
      (λ j. or_else (lines j) (stack_fault racing ahead))
      ∙ or-moved start (option_map (fault_of n) one) (option_map (fault_of (n + 1)) two)
      (found (before ++ setting_at n around f v ∷ setting_at (n + 1) around g w ∷ [])) (stack_fault racing ahead)

  same-start : first (setting_at n around g w ∷ setting_at (n + 1) around f v ∷ behind) ≡ start
  same-start =
      rest-exchanged i racing [] before _ _ (two-alike around g f w v n (n + 1) behind)
      ∙ rest-exchanged i racing [] before _ _ (one-alike around f g v w (n + 1) (n + 1) behind)
      ∙ sym (rest-exchanged i racing [] before _ _ (two-alike around f g v w n (n + 1) behind))

  swapped-is : script_fault i racing swapped ≡ first_fault n start two one rest
  swapped-is =
      let found_same = sym (behind-alike f g v w differ before around n (n + 1) i racing [] behind) in
      let stack_same = sym (stack-alike racing ahead swapped (all-alike f g v w differ before around n (n + 1) behind)) in
      let lines =
      first-splits i racing [] before (setting_at n around g w ∷ setting_at (n + 1) around f v ∷ behind)
      ∙ (λ j. or_else (same-start j) (two-settings i racing before around n g f w v behind differ j)) in
      (λ j. or_else (lines j) (stack_fault racing swapped))
      ∙ or-moved start (option_map (fault_of n) two) (option_map (fault_of (n + 1)) one)
      (found (before ++ setting_at n around g w ∷ setting_at (n + 1) around f v ∷ [])) (stack_fault racing swapped)
      ∙ (λ j. first_fault n start two one (or_else (found_same j) (stack_same j)))

  lone-start : first (setting_at n around g w ∷ behind) ≡ start
  lone-start =
      rest-exchanged i racing [] before _ _ (one-alike around g g w w n (n + 1) behind)
      ∙ sym (rest-exchanged i racing [] before _ _ (two-alike around f g v w n (n + 1) behind))

  lone-is : script_fault i racing lone ≡ or_else start (or_else (option_map (fault_of n) two) lone-rest)
  lone-is =
      let lines =
      first-splits i racing [] before (setting_at n around g w ∷ behind)
      ∙ (λ j. or_else (lone-start j) (one-setting i racing before around n g w behind j)) in
      (λ j. or_else (lines j) (stack_fault racing lone))
      ∙ or-moved-one start (option_map (fault_of n) two) (found (before ++ setting_at n around g w ∷ []))
      (stack_fault racing lone)

  -- ---- what a text is

  module _ (positive : 0 < n) (numbers : AreOfKind (IsApart n) before) (later : AreOfKind (IsApart n) behind) where
    stack-elsewhere : (ps : List PlacedLine) → IsElsewhere n (stack_fault racing ps)
    stack-elsewhere ps fault e =
        let none : fault.line ≤ 0 = stack-up-to i racing ps 0 fault e in
        (λ k. absurd (omega arith), λ k. absurd (omega arith))

    start-elsewhere : IsElsewhere n start
    start-elsewhere =
        first-kind i racing (IsApart n) [] before (setting_at n around f v ∷ setting_at (n + 1) around g w ∷ behind) numbers

    behind-elsewhere : (done ps : List PlacedLine) → IsElsewhere n (or_else (found done) (stack_fault racing ps))
    behind-elsewhere done ps =
        either-elsewhere n (found done) (stack_fault racing ps) (rest-kind i racing (IsApart n) done behind later)
        (stack-elsewhere ps)

    module _ (value : script_value i racing swapped ≡ script_value i racing ahead) where
      ahead-reads : reading i racing ahead
          ≡ unless_fault (first_fault n start one two rest) (script_value i racing ahead)
      ahead-reads = ap (λ o. unless_fault o (script_value i racing ahead)) ahead-is

      swapped-reads : reading i racing swapped
          ≡ unless_fault (first_fault n start two one rest) (script_value i racing ahead)
      swapped-reads = λ j. unless_fault (swapped-is j) (value j)

      lone-reads : reading i racing lone
          ≡ unless_fault (or_else start (or_else (option_map (fault_of n) two) lone-rest)) (script_value i racing lone)
      lone-reads = ap (λ o. unless_fault o (script_value i racing lone)) lone-is

      pub reading-kept : is_refused_at n (reading i racing ahead) ≡ false
          → reading i racing swapped ≡ exchanged n (reading i racing ahead)
      reading-kept e =
          swapped-reads
          ∙ fault-kept n start rest one two (script_value i racing ahead) start-elsewhere (behind-elsewhere _ ahead)
          (sym (ap (is_refused_at n) ahead-reads) ∙ e)
          ∙ sym (ap (exchanged n) ahead-reads)

      pub reading-taken : is_refused_at n (reading i racing ahead) ≡ true
          → reading i racing swapped
          ≡ (if is_refused_at n (reading i racing lone) then reading i racing lone
          else exchanged n (reading i racing ahead))
      reading-taken e =
          swapped-reads
          ∙ fault-taken n start rest lone-rest one two (script_value i racing ahead) (script_value i racing lone)
          start-elsewhere (behind-elsewhere _ ahead) (behind-elsewhere _ lone)
          (sym (ap (is_refused_at n) ahead-reads) ∙ e)
          ∙ sym (λ j. if is_refused_at n (lone-reads j) then lone-reads j else exchanged n (ahead-reads j))
