-- The lines of a script that open a block or are done in one, and those of one block.
use Rattle.std.specs.Prelude.{ℕ, ◌≡◌, Bool, ◌||◌, ◌==◌, if◌then◌else◌, nat_lt, List, [], ◌∷◌, filter, filter_map, Option, Some, None}
use Rattle.call_script.specs.Line.{Line}
use Rattle.call_script.specs.Block.{PlacedLine, opens, home}
use Rattle.call_script.specs.Standing.{is_act, is_action}
use Rattle.script_lines.specs.Lines.{line_of}
use Rattle.script_blocks.specs.declared.lines.BlockLine.{BlockLine}

-- a line, and the number of the line that opens the innermost block around it, 0 where it is in none
pub record HomeLine : Type 0 where
  pub number : ℕ
  pub home : ℕ
  pub line : Line

abbrev pub home_line : BlockLine → HomeLine
home_line l = record { number = l.number; home = l.home; line = line_of l.line }

-- opens a block, or is done in one
abbrev pub is_of_block : Line → Bool
is_of_block line = opens line || is_act line || is_action line

-- a line of this number with this home, if it is of blocks
abbrev pub kept_by : (number home : ℕ) → Option Line → Option HomeLine
kept_by n around None = None
kept_by n around (Some line) =
    if is_of_block line then Some (record { number = n; home = around; line = line }) else None

abbrev pub kept : PlacedLine → Option HomeLine
kept l = kept_by l.number (home l) l.line

-- the lines of blocks
unfoldable pub block_lines : List PlacedLine → List HomeLine
block_lines script = filter_map kept script

-- ---- one block

-- the lines whose innermost block the line of this number opens
unfoldable pub in_block : ℕ → List HomeLine → List HomeLine
in_block n ls = filter (λ l. l.home == n) ls

-- those before the first line that stands outside of the block
unfoldable pub inside : ℕ → List HomeLine → List HomeLine
inside n [] = []
inside n (l ∷ ls) = if nat_lt l.home n then [] else (if l.home == n then l ∷ inside n ls else inside n ls)

-- the lines of each block stand behind the line that opens it, up to the first line outside of it
unfoldable pub AreInPlace : List HomeLine → List HomeLine → Type 0
AreInPlace all [] = Unit {0}
AreInPlace all (l ∷ ls) = (in_block l.number all ≡ inside l.number ls) × AreInPlace all ls
