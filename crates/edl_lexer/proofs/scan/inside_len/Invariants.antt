use Rattle.std.proofs.Common.{length, ◌-◌, ◌≡◌, ◌+◌, ◌≤◌, drop}
use Rattle.std.specs.List.{prefix_len}
use Rattle.edl_lexer.specs.Lexemes as lexemes
use Rattle.edl_lexer.proofs.scan.inside_len.Given as goal

abbrev pub invariant-loop-len : goal.invariant-loop-len
invariant-loop-len l = record { within : l.len ≤ length l.bytes; rest : l.len + prefix_len lexemes.is_inside_text (drop l.len l.bytes) ≡ prefix_len lexemes.is_inside_text l.bytes }

abbrev pub decreases-loop-len : goal.decreases-loop-len
decreases-loop-len l = length l.bytes - l.len
