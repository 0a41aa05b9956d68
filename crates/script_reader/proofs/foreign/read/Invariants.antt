use Rattle.std.proofs.Common.{◌≡◌, [], length}
use Rattle.call_script.specs.Spelling.{numbered_lines}
use Rattle.script_reader.specs.Foreign.{types_behind}
use Rattle.script_reader.proofs.foreign.read.Given as goal

abbrev pub invariant-loop-line : goal.invariant-loop-line
invariant-loop-line l = types_behind l.types l.lines ≡ types_behind [] (numbered_lines l.bytes)

abbrev pub decreases-loop-line : goal.decreases-loop-line
decreases-loop-line l = length l.lines
