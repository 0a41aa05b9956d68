use Rattle.std.proofs.Common.{◌≡◌, length}
use Rattle.edl_grammar.specs.Parser as parse
use Rattle.edl_parser.proofs.cursor.Cursor.member_list.Given as goal

abbrev pub invariant-loop-alloc : goal.invariant-loop-alloc
invariant-loop-alloc l = parse.with_front l.members (parse.many parse.begins_type parse.member l.self) ≡ parse.many parse.begins_type parse.member l.initial.self

abbrev pub decreases-loop-alloc : goal.decreases-loop-alloc
decreases-loop-alloc l = length l.self
