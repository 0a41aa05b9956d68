use Rattle.std.proofs.Common.{◌≡◌, length}
use Rattle.std.specs.Prelude.{fold}
use Rattle.call_script.specs.Meaning.{zeros, host_behind, cells_behind}
use Rattle.script_value.specs.Left.{left, formed_lines}
use Rattle.script_value.proofs.words.written_memory.Given as goal

abbrev pub invariant-loop-line : goal.invariant-loop-line
invariant-loop-line l = record {
  host : fold host_behind l.host (left l.lines) ≡ fold host_behind (zeros l.fn.settings.host) (formed_lines l.bytes);
  cells : fold cells_behind l.cells (left l.lines) ≡ fold cells_behind (zeros l.fn.settings.cells) (formed_lines l.bytes);
}

abbrev pub decreases-loop-line : goal.decreases-loop-line
decreases-loop-line l = length (left l.lines)
