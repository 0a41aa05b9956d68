use Rattle.std.proofs.Common.{◌≡◌, length}
use Rattle.edl_grammar.specs.Parser as parse
use Rattle.edl_parser.proofs.cursor.Cursor.enum_values.Given as goal

abbrev pub invariant-loop-alloc : goal.invariant-loop-alloc
invariant-loop-alloc l = parse.with_front l.values (parse.enum_values l.self) ≡ parse.enum_values l.initial.self

abbrev pub decreases-loop-alloc : goal.decreases-loop-alloc
decreases-loop-alloc l = length l.self
