use Rattle.std.proofs.Common.{sym, ◌∙◌}
use Rattle.edl_grammar.specs.Parser as parse
use Rattle.edl_grammar.proofs.Many.{turn_front}
use Rattle.edl_grammar.proofs.Shrinking.{member_shrinks}
use Rattle.edl_parser.proofs.cursor.Cursor.member_list.Goals as goal

pub loop-alloc-preserved : goal.loop-alloc-preserved
loop-alloc-preserved c =
    rw c.in_ok-push.ensures.ok
    (turn_front parse.begins_type parse.member member_shrinks c.loop-alloc.members c.loop-alloc.self c.member.new.self c.in_ok-member.member _ (sym c.sees_type.ensures ∙ c.loop-alloc-test.true) c.in_ok-member.ensures c.loop-alloc.invariant)

pub loop-alloc-smaller : goal.loop-alloc-smaller
loop-alloc-smaller c = member_shrinks c.loop-alloc.self c.member.new.self c.in_ok-member.member c.in_ok-member.ensures
