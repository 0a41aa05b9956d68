use Rattle.std.proofs.Common.{◌≡◌, length}
use Rattle.edl_grammar.specs.Parser as parse
use Rattle.edl_parser.proofs.cursor.Cursor.dims.Given as goal

abbrev pub invariant-loop-self : goal.invariant-loop-self
invariant-loop-self l = parse.with_front l.dims (parse.many (parse.is_mark "[") parse.dim l.self) ≡ parse.many (parse.is_mark "[") parse.dim l.initial.self

abbrev pub decreases-loop-self : goal.decreases-loop-self
decreases-loop-self l = length l.self
