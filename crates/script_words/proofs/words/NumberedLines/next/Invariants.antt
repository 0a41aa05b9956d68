use Rattle.std.proofs.Common.{◌≡◌, ◌+◌, ◌≤◌, length}
use Rattle.sgx_base.specs.Stores.{max_file_size}
use Rattle.call_script.specs.Spelling.{numbered_from}
use Rattle.script_words.proofs.words.NumberedLines.next.Given as goal

abbrev pub invariant-loop-line : goal.invariant-loop-line
invariant-loop-line l = record {
  same : numbered_from l.self-inside.number l.self-inside.lines ≡ numbered_from l.initial.self-inside.number
      l.initial.self-inside.lines;
  room : l.self-inside.number + length l.self-inside.lines ≤ max_file_size + 1;
}

abbrev pub decreases-loop-line : goal.decreases-loop-line
decreases-loop-line l = length l.self-inside.lines
