use Rattle.std.proofs.Common.{◌≡◌, length}
use Rattle.edl_grammar.specs.Parser as parse
use Rattle.edl_parser.proofs.cursor.Cursor.more_params.Given as goal

abbrev pub invariant-loop-alloc : goal.invariant-loop-alloc
invariant-loop-alloc l = parse.with_front l.params (parse.many (parse.is_mark ",") (parse.after_comma parse.param) l.self) ≡ parse.more parse.param l.fn.first l.initial.self

abbrev pub decreases-loop-alloc : goal.decreases-loop-alloc
decreases-loop-alloc l = length l.self
