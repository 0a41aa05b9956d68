use Rattle.std.proofs.Common.{◌≡◌, ◌+◌, ◌-◌, ◌<◌, ◌^◌, length, drop}
use Rattle.edl_lexer.specs.Lexing as lexing
use Rattle.edl_parser.proofs.places.fault_at_end.Given as goal

abbrev pub invariant-loop-byte : goal.invariant-loop-byte
invariant-loop-byte l = record {
  rest : lexing.after (record { offset = l.byte-index; line = l.at.line; column = l.at.column }) (drop l.byte-index l.bytes) ≡ lexing.after lexing.opening l.bytes;
  line : l.at.line + (length l.bytes - l.byte-index) < 2 ^ 32;
  column : l.at.column + (length l.bytes - l.byte-index) < 2 ^ 32;
}
