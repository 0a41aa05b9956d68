-- The numbers of a script without a fault fit.
use Rattle.std.proofs.Common.{arith, ◌≡◌, ◌≤◌, ◌+◌, ◌-◌, ◌^◌, ℕ, suc, Bool, true, false, List, [], ◌∷◌, ◌++◌, length, Option, Some, None, refl, ap, length-append}
use Rattle.std.specs.Prelude.{◌==◌, filter, filter_map, count_by, if◌then◌else◌}
use Rattle.std.specs.List.{AllByRecursion, cons_option}
use Rattle.std.proofs.lemmas.List.Sums.{length-filter, count_by-le-length}
use Rattle.sgx_base.specs.Stores.{max_file_size}
use Rattle.edl_interface.specs.declared.Interface.{Interface}
use Rattle.call_script.specs.Spelling.{NumberedLine, numbered_lines, numbered_from, lines, words, means_nothing, is_wide, is_out_of, is_place_out}
use Rattle.call_script.specs.Settings.{cells}
use Rattle.call_script.specs.Line.{Line, Call, Raw, Poke, Peek, Repeat, Status, Do, Temp}
use Rattle.call_script.specs.Block.{Block, PlacedLine, placed, placed_from, placed_lines, open_after, home}
use Rattle.call_script.specs.Standing.{Standing, standings, lines_of, setting_in, setting_before, beside, is_action}
use Rattle.call_script.specs.Sound.{AreSoundSettings}
use Rattle.call_script.specs.Meaning.{settings}
use Rattle.script_words.proofs.LineLaws.{few_lines}
use Rattle.script_values.proofs.ActionLaws.{cells_below, skips_within}
use Rattle.script_laws.proofs.FineLines.{IsFine}
use Rattle.script_laws.proofs.FineForms.{IsFineAs, along}
use Rattle.script_blocks.specs.Blocks.{kept_by, kept, is_of_block, block_lines}
use Rattle.script_blocks.specs.Acts.{IsFitting, Fits}
use Rattle.script_value.proofs.RangeLaws.{in-range, neither}

-- ---- how many lines

module _ {A B : Type 0} (f : A → Option B) where
  few-given : (xs : List A) → length (filter_map f xs) ≤ length xs
  few-given [] = omega arith
  few-given (x ∷ xs) = go (f x) (few-given xs)
    where
      go : (o : Option B) → length (filter_map f xs) ≤ length xs
          → length (cons_option o (filter_map f xs)) ≤ length (x ∷ xs)
      go None h = omega (arith, h)
      go (Some y) h = omega (arith, h)

few-numbered : (n : ℕ) (ls : List (List ℕ)) → length (numbered_from n ls) ≤ length ls
few-numbered n [] = omega arith
few-numbered n (l ∷ ls) = go (means_nothing (words l)) (few-numbered (n + 1) ls)
  where
    go : (t : Bool) → length (numbered_from (n + 1) ls) ≤ length ls → length (if t then numbered_from (n + 1) ls else record { number = n; words = words l } ∷ numbered_from (n + 1) ls)
        ≤ length (l ∷ ls)
    go true h = omega (arith, h)
    go false h = omega (arith, h)

as-many-placed : (around : List Block) (ls : List NumberedLine) → length (placed_from around ls) ≡ length ls
as-many-placed around [] = refl
as-many-placed around (l ∷ ls) = ap suc (as-many-placed (open_after (placed around l)) ls)

few-placed : (bytes : List ℕ) → length (placed_lines bytes) ≤ length bytes
unfolding placed_lines
few-placed bytes =
    let a = as-many-placed [] (numbered_lines bytes) in
    let b = few-numbered 1 (lines bytes) in
    let c = few_lines bytes in omega (arith, a, b, c)

pub few-block-lines : (bytes : List ℕ) → length bytes ≤ max_file_size
    → length (block_lines (placed_lines bytes)) ≤ max_file_size
unfolding block_lines
few-block-lines bytes h =
    let a = few-given kept (placed_lines bytes) in let b = few-placed bytes in omega (arith, a, b, h)

-- ---- line by line

module _ (i : Interface) (racing : Bool) (bytes : List ℕ) (short : length bytes ≤ max_file_size) where
  abbrev script : List PlacedLine
  script = placed_lines bytes

  few-behind : (s : Standing) → s.before ++ s.here ∷ s.behind ≡ script
      → count_by is_action (beside s s.behind) ≤ 2 ^ 32 - 1
  few-behind s whole =
      let a = count_by-le-length is_action (beside s s.behind) in
      let b = few-given (λ l. l.line) (filter (λ l. home l == home s.here) s.behind) in
      let c = length-filter (λ l. home l == home s.here) s.behind in
      let d = count_by-le-length (λ l. home l == home s.here) s.behind in
      let e : length (s.before ++ s.here ∷ s.behind) ≡ length script = ap length whole in
      let f = length-append s.before (s.here ∷ s.behind) in
      let g = few-placed bytes in omega (arith, a, b, c, d, e, f, g, short)

  module _ (sound : AreSoundSettings racing (settings i racing script)) where
    fitting : (s : Standing) (line : Line) → IsFineAs i racing script s line → IsFitting line
    fitting s (Call name args) fine = fine.rules.1.0
    fitting s (Raw ordinal address) fine =
        let most = in-range 0 4294967295 ordinal
        (neither (is_out_of 0 4294967295 ordinal) (is_wide address) fine.rules.1.0).0 in omega (arith, most)
    fitting s (Poke place hex) fine = fine.rules.1.0
    fitting s (Peek place count) fine =
        let both = neither (is_place_out place) (is_out_of 1 4096 count) fine.rules.1.0 in
        let most = in-range 1 4096 count both.1 in (both.0, omega (arith, most))
    fitting s (Repeat times) fine = let most = in-range 1 10000 times fine.rules.1.0 in omega (arith, most)
    fitting s (Status status) fine = let most = in-range 0 0xffff status fine.rules.1.0 in omega (arith, most)
    fitting s (Temp name size) fine = fine.rules.1.0
    fitting s (Do phrase) fine =
        let known : setting_before s cells ≡ setting_in (lines_of script) cells = fine.settled refl cells in
        let most : setting_in (lines_of script) cells ≤ 64 = sound.cells.upto in (
          cells_below (setting_before s cells) (2 ^ 32) (omega (arith, known, most)) phrase.parts
              fine.rules.1.1.1.1.1.1.1.1.1.0,
          skips_within (count_by is_action (beside s s.behind)) (2 ^ 32 - 1) (few-behind s fine.whole) phrase.parts
              fine.rules.1.1.1.1.1.1.1.1.0,
        )
    fitting s line fine = tt

    pub all-fitting : AllByRecursion (IsFine i racing script) (standings script)
        → AllByRecursion IsFitting (lines_of script)
    all-fitting fine = along i racing script IsFitting fitting [] script fine

-- the lines of blocks are lines of the script
pub fits-in-blocks : (script : List PlacedLine) → AllByRecursion IsFitting (lines_of script)
    → AllByRecursion Fits (block_lines script)
unfolding block_lines
fits-in-blocks [] h = tt
fits-in-blocks (l ∷ ls) h = go l.line refl h (fits-in-blocks ls)
  where
    on : (t : Bool) (line : Line) → IsFitting line → AllByRecursion Fits (filter_map kept ls)
        → AllByRecursion Fits (cons_option (if t then Some (record { number = l.number; home = home l; line = line })
        else None) (filter_map kept ls))
    on true line h rest = (h, rest)
    on false line h rest = rest

    go : (o : Option Line) → l.line ≡ o → AllByRecursion IsFitting (lines_of (l ∷ ls))
        → (AllByRecursion IsFitting (lines_of ls) → AllByRecursion Fits (filter_map kept ls))
        → AllByRecursion Fits (cons_option (kept_by l.number (home l) o) (filter_map kept ls))
    go None e h rest = rest (rw e at h)
    go (Some line) e h rest = let g = rw e at h in on (is_of_block line) line g.0 (rest g.1)
