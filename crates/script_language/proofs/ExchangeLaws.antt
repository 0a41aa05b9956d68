-- Two settings, one behind the other, exchanged in a script.
use Rattle.std.proofs.Common.{arith, ℕ, ◌≡◌, ◌+◌, ◌<◌, Bool, true, false, leb-false, List, [], ◌∷◌, ◌++◌, length, refl, sym, ◌∙◌, ap, append_assoc}
use Rattle.std.specs.Prelude.{Result, Ok, Err, ◌==◌, nat_le, fold, flat_map, if◌then◌else◌}
use Rattle.std.specs.Str.{bytes_eq}
use Rattle.std.proofs.lemmas.List.{length-append}
use Rattle.std.proofs.lemmas.List.Sums.{fold-append}
use Rattle.std.proofs.lemmas.List.Elements.{filter_map-append}
use Rattle.std.proofs.lemmas.Grind.{flat_map-append}
use Rattle.std.proofs.lemmas.Slice.Eq.{bytes_eq-Decides}
use Rattle.edl_interface.specs.declared.Interface.{Interface}
use Rattle.call_script.specs.declared.Script.{Script}
use Rattle.call_script.specs.Spelling.{Word, numbered_from, words, lines}
use Rattle.call_script.specs.Settings.{Setting}
use Rattle.call_script.specs.Line.{Line, Set}
use Rattle.call_script.specs.Block.{Block, PlacedLine, placed_from, placed_lines}
use Rattle.call_script.specs.Standing.{lines_of, setting_in}
use Rattle.call_script.specs.Faults.{Fault}
use Rattle.call_script.specs.Meaning.{host_behind, cells_behind, races_in, script_value}
use Rattle.call_script.specs.Reading.{script_of}
use Rattle.script_laws.proofs.FirstFault.{end_of, not_number}
use Rattle.script_blocks.specs.Blocks.{kept as kept_line, block_lines}
use Rattle.script_blocks.specs.declared.thread.Kind.TheVariants.{Thread, Racer}
use Rattle.script_blocks.specs.Acts.{block_acts, opened_acts}
use Rattle.script_blocks.specs.Slots.{handlers_of}
use Rattle.script_blocks.specs.Bodies.{bodies_of}
use Rattle.script_language.specs.Said.{GivesSetting, ChangePlaces, moved, exchanged, is_refused_at}
use Rattle.script_language.proofs.ValueLaws.{value-alike}
use Rattle.script_language.proofs.BlankLaws.{read-inserted}
use Rattle.script_language.proofs.FirstLines.{AreOfKind}
use Rattle.script_language.proofs.PlacedText.{text-splits, numbers-run}
use Rattle.script_language.proofs.ExchangedLines.{setting_at, lines-append, all-alike}
use Rattle.script_language.proofs.ExchangedResult.{IsApart}
use Rattle.script_language.proofs.ExchangedReading.{reading, ahead, swapped as changed, reading-kept, reading-taken}

-- ---- the value

module _ (f g : Setting) (v w : Word) (differ : bytes_eq f.word g.word ≡ false) (before behind : List PlacedLine)
    (around : List Block) (n m : ℕ) where
  xs : List PlacedLine
  xs = before ++ setting_at n around f v ∷ setting_at m around g w ∷ behind

  ys : List PlacedLine
  ys = before ++ setting_at n around g w ∷ setting_at m around f v ∷ behind

  x-lines : lines_of xs ≡ lines_of before ++ Set f v ∷ Set g w ∷ lines_of behind
  unfolding xs
  x-lines = lines-append before (setting_at n around f v ∷ setting_at m around g w ∷ behind)

  y-lines : lines_of ys ≡ lines_of before ++ Set g w ∷ Set f v ∷ lines_of behind
  unfolding ys
  y-lines = lines-append before (setting_at n around g w ∷ setting_at m around f v ∷ behind)

  same-blocks : block_lines xs ≡ block_lines ys
  unfolding block_lines xs ys
  same-blocks =
      filter_map-append kept_line before (setting_at n around f v ∷ setting_at m around g w ∷ behind)
      ∙ sym (filter_map-append kept_line before (setting_at n around g w ∷ setting_at m around f v ∷ behind))

  same-settings : (which : Setting) → setting_in (lines_of xs) which ≡ setting_in (lines_of ys) which
  unfolding xs ys
  same-settings = (all-alike f g v w differ before around n m behind).numbers

  same-fold : (step : List ℕ → Line → List ℕ) → ((s : Setting) (x : Word) (b : List ℕ) → step b (Set s x) ≡ b)
      → (start : List ℕ) → fold step start (lines_of xs) ≡ fold step start (lines_of ys)
  same-fold step still start =
      ap (fold step start) x-lines
      ∙ fold-append step start (lines_of before) (Set f v ∷ Set g w ∷ lines_of behind)
      ∙ ap (λ b. fold step (step b (Set g w)) (lines_of behind)) (still f v (fold step start (lines_of before)))
      ∙ ap (λ b. fold step b (lines_of behind)) (still g w (fold step start (lines_of before)))
      ∙ sym (ap (λ b. fold step b (lines_of behind)) (still f v (fold step start (lines_of before))))
      ∙ sym (ap (λ b. fold step (step b (Set f v)) (lines_of behind)) (still g w (fold step start (lines_of before))))
      ∙ sym (fold-append step start (lines_of before) (Set g w ∷ Set f v ∷ lines_of behind))
      ∙ sym (ap (fold step start) y-lines)

  same-races : flat_map races_in (lines_of xs) ≡ flat_map races_in (lines_of ys)
  same-races =
      ap (flat_map races_in) x-lines
      ∙ flat_map-append races_in (lines_of before) (Set f v ∷ Set g w ∷ lines_of behind)
      ∙ sym (flat_map-append races_in (lines_of before) (Set g w ∷ Set f v ∷ lines_of behind))
      ∙ sym (ap (flat_map races_in) y-lines)

  same-value : (i : Interface) (racing : Bool) → script_value i racing xs ≡ script_value i racing ys
  same-value i racing =
      value-alike i racing xs ys same-settings (same-fold host_behind (λ s x b. refl))
      (same-fold cells_behind (λ s x b. refl)) same-races (ap (bodies_of i) same-blocks)
      (ap (handlers_of i) same-blocks) (ap (λ ls. block_acts i ls 0) same-blocks)
      (ap (λ ls. opened_acts i ls Thread ls) same-blocks) (ap (λ ls. opened_acts i ls Racer ls) same-blocks)

-- ---- the text

differ-back : (a b : Word) → bytes_eq a b ≡ false → bytes_eq b a ≡ false
differ-back a b h = go (bytes_eq b a) refl
  where
    go : (t : Bool) → bytes_eq b a ≡ t → t ≡ false
    go true e =
        let same : b ≡ a = (bytes_eq-Decides b a).0 e in
        let turned : bytes_eq b a ≡ bytes_eq a b = λ j. bytes_eq (same j) (sym same j) in
        absurd cc
    go false e = refl

placed-setting : (n : ℕ) (around : List Block) (line : List ℕ) (s : Setting) (z : Word) (rest : List (List ℕ))
    → GivesSetting line s z
    → placed_from around (numbered_from n (line ∷ rest))
    ≡ setting_at n around s z ∷ placed_from around (numbered_from (n + 1) rest)
placed-setting n around line s z rest gives = rw (gives.speaks, gives.form _) refl

-- a text whose lines are placed so
reading-of : (i : Interface) (racing : Bool) (bytes : List ℕ) (ls : List (List ℕ)) (ps : List PlacedLine)
    → lines bytes ≡ ls → placed_from [] (numbered_from 1 ls) ≡ ps → script_of i racing bytes ≡ reading i racing ps
unfolding script_of placed_lines
reading-of i racing bytes ls ps e k =
    ap (λ ls. reading i racing (placed_from [] (numbered_from 1 ls))) e ∙ ap (reading i racing) k

module _ (before behind : List (List ℕ)) where
  abbrev at : ℕ
  at = length before + 1

  abbrev start : List PlacedLine
  start = placed_from [] (numbered_from 1 before)

  abbrev around : List Block
  around = end_of [] (numbered_from 1 before)

  abbrev rest : List PlacedLine
  rest = placed_from around (numbered_from (at + 1 + 1) behind)

  text-from : (ls : List (List ℕ))
      → placed_from [] (numbered_from 1 (before ++ ls)) ≡ start ++ placed_from around (numbered_from at ls)
  text-from ls =
      text-splits [] 1 before ls
      ∙ ap (λ m. start ++ placed_from around (numbered_from m ls)) (omega arith)

  text-two : (x y : List ℕ) (f g : Setting) (v w : Word) → GivesSetting x f v → GivesSetting y g w
      → placed_from [] (numbered_from 1 (before ++ x ∷ y ∷ behind))
      ≡ start ++ setting_at at around f v ∷ setting_at (at + 1) around g w ∷ rest
  text-two x y f g v w first second =
      text-from (x ∷ y ∷ behind)
      ∙ ap (λ ls. start ++ ls) (placed-setting at around x f v (y ∷ behind) first
      ∙ ap (λ ls. setting_at at around f v ∷ ls) (placed-setting (at + 1) around y g w behind second))

  -- one of them, and a blank line in place of the other
  text-one : (y : List ℕ) (g : Setting) (w : Word) → GivesSetting y g w
      → placed_from [] (numbered_from 1 (before ++ y ∷ [] ∷ behind)) ≡ start ++ setting_at at around g w ∷ rest
  unfolding words
  text-one y g w second =
      text-from (y ∷ [] ∷ behind) ∙ ap (λ ls. start ++ ls) (placed-setting at around y g w ([] ∷ behind) second)

  start-apart : AreOfKind (IsApart at) start
  start-apart =
      numbers-run (IsApart at) [] 1 before (λ m h k. (λ e. absurd (omega arith), λ e. absurd (omega arith)))

  rest-apart : AreOfKind (IsApart at) rest
  rest-apart =
      numbers-run (IsApart at) around (at + 1 + 1) behind
      (λ m h k. (λ e. absurd (omega arith), λ e. absurd (omega arith)))

  module _ (i : Interface) (racing : Bool) where
    -- without the blank line
    read-one : (y : List ℕ) (g : Setting) (w : Word) (without : List ℕ) → GivesSetting y g w
        → lines without ≡ before ++ y ∷ behind
        → reading i racing (start ++ setting_at at around g w ∷ rest) ≡ moved at (script_of i racing without)
    unfolding words
    read-one y g w without second e =
        sym (ap (λ ls. reading i racing (placed_from [] (numbered_from 1 ls))) (append_assoc before (y ∷ []) ([] ∷ behind))
        ∙ ap (reading i racing) (text-one y g w second))
        ∙ read-inserted (before ++ y ∷ []) [] behind refl i racing
        ∙ (λ j. moved (count j) (lone j))
      where
        count : length (before ++ y ∷ []) ≡ at
        count = length-append before (y ∷ []) ∙ omega arith

        lone : reading i racing (placed_from [] (numbered_from 1 ((before ++ y ∷ []) ++ behind)))
            ≡ script_of i racing without
        lone = sym (reading-of i racing without (before ++ y ∷ behind)
            (placed_from [] (numbered_from 1 ((before ++ y ∷ []) ++ behind))) e
            (sym (ap (λ ls. placed_from [] (numbered_from 1 ls)) (append_assoc before (y ∷ []) behind))))

-- a fault at the line behind which a line was put in has not moved
moved-taken : (n : ℕ) (r other : Result Script Fault)
    → (if is_refused_at n (moved n r) then moved n r else other) ≡ (if is_refused_at n r then r else other)
moved-taken n (Ok s) other = refl
moved-taken n (Err fault) other = go (nat_le fault.line n) refl
  where
    go : (t : Bool) → nat_le fault.line n ≡ t
        → (if (if t then fault.line else fault.line + 1) == n
        then Err (record { line = if t then fault.line else fault.line + 1; code = fault.code }) else other)
        ≡ (if fault.line == n then Err fault else other)
    go true e = refl
    go false e =
        let above : n < fault.line = leb-false fault.line n e in
        rw (
          not_number fault.line n (λ k. absurd (omega arith)),
          not_number (fault.line + 1) n (λ k. absurd (omega arith)),
        ) refl

module _ (i : Interface) (racing : Bool) (before : List (List ℕ)) (x y : List ℕ) (behind : List (List ℕ))
    (bytes swapped : List ℕ) (h : ChangePlaces before x y behind bytes swapped) where
  other-words : bytes_eq h.second.word h.first.word ≡ false
  other-words = differ-back h.first.word h.second.word h.differ

  bytes-are : script_of i racing bytes
      ≡ reading i racing (ahead i racing h.first h.second h.number h.other h.differ other-words (start before behind)
      (around before behind) (at before behind) (rest before behind))
  bytes-are =
      reading-of i racing bytes (before ++ x ∷ y ∷ behind) _ h.here
      (text-two before behind x y h.first h.second h.number h.other h.one h.two)

  swapped-are : script_of i racing swapped
      ≡ reading i racing (changed i racing h.first h.second h.number h.other h.differ other-words (start before behind)
      (around before behind) (at before behind) (rest before behind))
  swapped-are =
      reading-of i racing swapped (before ++ y ∷ x ∷ behind) _ h.there
      (text-two before behind y x h.second h.first h.other h.number h.two h.one)

  value : script_value i racing (changed i racing h.first h.second h.number h.other h.differ other-words
      (start before behind) (around before behind) (at before behind) (rest before behind))
      ≡ script_value i racing (ahead i racing h.first h.second h.number h.other h.differ other-words
      (start before behind) (around before behind) (at before behind) (rest before behind))
  unfolding xs ys
  value =
      sym (same-value h.first h.second h.number h.other h.differ (start before behind) (rest before behind)
      (around before behind) (at before behind) (at before behind + 1) i racing)

  pub kept : is_refused_at (length before + 1) (script_of i racing bytes) ≡ false
      → script_of i racing swapped ≡ exchanged (length before + 1) (script_of i racing bytes)
  kept e =
      swapped-are
      ∙ reading-kept i racing h.first h.second h.number h.other h.differ other-words (start before behind)
      (around before behind) (at before behind) (rest before behind) (omega arith) (start-apart before behind)
      (rest-apart before behind) value (sym (ap (is_refused_at (at before behind)) bytes-are) ∙ e)
      ∙ sym (ap (exchanged (at before behind)) bytes-are)

  pub taken : (without : List ℕ) → lines without ≡ before ++ y ∷ behind
      → is_refused_at (length before + 1) (script_of i racing bytes) ≡ true
      → script_of i racing swapped
      ≡ (if is_refused_at (length before + 1) (script_of i racing without) then script_of i racing without
      else exchanged (length before + 1) (script_of i racing bytes))
  taken without k e =
      let lone = read-one before behind i racing y h.second h.other without h.two k in
      swapped-are
      ∙ reading-taken i racing h.first h.second h.number h.other h.differ other-words (start before behind)
      (around before behind) (at before behind) (rest before behind) (omega arith) (start-apart before behind)
      (rest-apart before behind) value (sym (ap (is_refused_at (at before behind)) bytes-are) ∙ e)
      ∙ (λ j. if is_refused_at (at before behind) (lone j) then lone j
      else exchanged (at before behind) (sym bytes-are j))
      ∙ moved-taken (at before behind) (script_of i racing without)
      (exchanged (at before behind) (script_of i racing bytes))
