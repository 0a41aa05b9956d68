use Rattle.std.proofs.Common.{◌≡◌, [], length}
use Rattle.call_script.specs.Spelling.{numbered_lines}
use Rattle.script_lines.specs.Nesting.{open_blocks, open_after_all}
use Rattle.script_lines.proofs.places.left_outermost.Given as goal

abbrev pub invariant-loop-line : goal.invariant-loop-line
invariant-loop-line l =
    open_after_all (open_blocks l.blocks) l.lines ≡ open_after_all [] (numbered_lines l.bytes)

abbrev pub decreases-loop-line : goal.decreases-loop-line
decreases-loop-line l = length l.lines
