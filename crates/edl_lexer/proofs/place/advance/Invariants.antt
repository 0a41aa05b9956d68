use Rattle.std.proofs.Common.{length, ◌-◌, ◌≡◌, ◌+◌, ◌<◌, ◌^◌, drop}
use Rattle.edl_lexer.specs.Lexing as lexing
use Rattle.edl_lexer.proofs.place.advance.Given as goal

abbrev pub invariant-loop-b : goal.invariant-loop-b
invariant-loop-b l = record {
  rest : lexing.after l.at (drop l.b-index l.bytes) ≡ lexing.after l.fn.from l.bytes;
  offset : l.at.offset + (length l.bytes - l.b-index) < 2 ^ 32;
  line : l.at.line + (length l.bytes - l.b-index) < 2 ^ 32;
  column : l.at.column + (length l.bytes - l.b-index) < 2 ^ 32;
}
