use Rattle.std.proofs.Common.{false, length, ◌-◌, ◌≡◌, ◌+◌, ◌≤◌, drop}
use Rattle.edl_lexer.specs.Lexing as lexing
use Rattle.edl_lexer.proofs.Turns.{with_front}
use Rattle.edl_lexer.proofs.lex.Given as goal

abbrev pub invariant-loop-at : goal.invariant-loop-at
invariant-loop-at l = record {
  rest : with_front l.tokens.items (lexing.tokens_from l.file (65536 - length l.tokens.items) 0 l.after_number l.at (drop l.at.offset l.bytes)) ≡ lexing.tokens_from l.file 65536 (lexing.mark_len l.bytes) false lexing.opening l.bytes;
  room : length l.tokens.items ≤ 65536;
  offset : l.at.offset ≤ length l.bytes;
  line : l.at.line ≤ l.at.offset + 1;
  column : l.at.column ≤ l.at.offset + 1;
}

abbrev pub decreases-loop-at : goal.decreases-loop-at
decreases-loop-at l = length l.bytes - l.at.offset
