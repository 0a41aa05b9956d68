use Rattle.std.proofs.Common.{◌≡◌, length}
use Rattle.edl_grammar.specs.Parser as parse
use Rattle.edl_parser.proofs.Loops.{with_file}
use Rattle.edl_parser.proofs.cursor.Cursor.items.Given as goal

abbrev pub invariant-loop-alloc : goal.invariant-loop-alloc
invariant-loop-alloc l =
    with_file l.file (parse.many parse.begins_item parse.item l.self)
    ≡ with_file l.initial.file (parse.many parse.begins_item parse.item l.initial.self)

abbrev pub decreases-loop-alloc : goal.decreases-loop-alloc
decreases-loop-alloc l = length l.self
