-- What is left of a script.
use Rattle.std.specs.Prelude.{ℕ, List}
use Rattle.call_script.specs.Line.{Line}
use Rattle.call_script.specs.Block.{placed_lines}
use Rattle.call_script.specs.Standing.{lines_of}
use Rattle.script_lines.specs.declared.places.PlacedLines.{PlacedLines}
use Rattle.script_lines.specs.Places.{placed_left}

-- the lines that have a form, of those that are left
unfoldable pub left : PlacedLines → List Line
left p = lines_of (placed_left p)

-- the lines of a script that have a form
unfoldable pub formed_lines : List ℕ → List Line
formed_lines bytes = lines_of (placed_lines bytes)
