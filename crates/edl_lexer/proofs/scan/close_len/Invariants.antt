use Rattle.std.proofs.Common.{length, ◌-◌, ◌≡◌, ◌+◌, ◌≤◌, drop}
use Rattle.std.specs.Prelude.{option_map}
use Rattle.edl_lexer.specs.Lexemes as lexemes
use Rattle.edl_lexer.proofs.scan.close_len.Given as goal

abbrev pub invariant-loop-at : goal.invariant-loop-at
invariant-loop-at l = record { within : l.at ≤ length l.bytes; rest : option_map (λ n. l.at + n) (lexemes.close_len (drop l.at l.bytes)) ≡ lexemes.close_len l.bytes }

abbrev pub decreases-loop-at : goal.decreases-loop-at
decreases-loop-at l = length l.bytes - l.at
