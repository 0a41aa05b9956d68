use Rattle.std.proofs.Common.{◌≡◌, ◌++◌, length, map}
use Rattle.call_script.specs.Block.{placed_lines}
use Rattle.script_blocks.specs.Blocks.{home_line, block_lines}
use Rattle.script_lines.specs.Places.{placed_left}
use Rattle.script_blocks.proofs.lines.block_lines.Given as goal

abbrev pub invariant-loop-placed : goal.invariant-loop-placed
invariant-loop-placed l =
    map home_line l.lines ++ block_lines (placed_left l.left) ≡ block_lines (placed_lines l.bytes)

abbrev pub decreases-loop-placed : goal.decreases-loop-placed
decreases-loop-placed l = length (placed_left l.left)
