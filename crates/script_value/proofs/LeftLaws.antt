-- What is left of a script, line by line.
use Rattle.std.proofs.Common.{arith, ℕ, ◌≡◌, ◌<◌, List, [], ◌∷◌, length, Option, Some, None, ap, ◌∙◌}
use Rattle.call_script.specs.Spelling.{numbered_lines}
use Rattle.call_script.specs.Line.{Line}
use Rattle.call_script.specs.Block.{placed_from, placed_lines}
use Rattle.call_script.specs.Standing.{lines_of}
use Rattle.script_lines.specs.declared.places.PlacedLines.{PlacedLines}
use Rattle.script_lines.specs.Nesting.{open_blocks}
use Rattle.script_lines.specs.Places.{IsTaken, placed_left}
use Rattle.script_value.specs.Left.{left, formed_lines}

-- all of them
pub all_left : (p : PlacedLines) (bytes : List ℕ) → open_blocks p.blocks ≡ [] → p.lines ≡ numbered_lines bytes
    → left p ≡ formed_lines bytes
unfolding left formed_lines placed_lines
all_left p bytes e f =
    ap (λ around. lines_of (placed_from around p.lines)) e ∙ ap (λ ls. lines_of (placed_from [] ls)) f

pub none_left : (p : PlacedLines) → p.lines ≡ [] → left p ≡ []
unfolding left
none_left p e = ap (λ ls. lines_of (placed_from (open_blocks p.blocks) ls)) e

module _ (old new : PlacedLines) (n : ℕ) where
  pub formed : (line : Line) → IsTaken old new n (Some line) → left old ≡ line ∷ left new
  unfolding left
  formed line t = ap lines_of t.first

  pub formless : IsTaken old new n None → left old ≡ left new
  unfolding left
  formless t = ap lines_of t.first

  pub fewer : (o : Option Line) → IsTaken old new n o → length (placed_left new) < length (placed_left old)
  fewer o t = let e = ap length t.first in omega arith
