-- What is left of a script.
use Rattle.std.specs.Prelude.{◌≡◌, ℕ, List, ◌∷◌, Option}
use Rattle.call_script.specs.Line.{Line}
use Rattle.call_script.specs.Block.{PlacedLine, placed_from, open_behind}
use Rattle.script_lines.specs.declared.places.PlacedLines.{PlacedLines}
use Rattle.script_lines.specs.Nesting.{open_blocks}

abbrev pub placed_left : PlacedLines → List PlacedLine
placed_left p = placed_from (open_blocks p.blocks) p.lines

-- the line of this number was taken, which is this in its place
pub record IsTaken (old new : PlacedLines) (number : ℕ) (line : Option Line) : Type 0 where
  pub first : placed_from (open_blocks old.blocks) old.lines
      ≡ record { number = number; blocks = open_blocks old.blocks; line = line }
      ∷ placed_from (open_blocks new.blocks) new.lines
  pub blocks : open_blocks new.blocks ≡ open_behind number line (open_blocks old.blocks)
