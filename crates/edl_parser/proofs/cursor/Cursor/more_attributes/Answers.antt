use Rattle.std.proofs.Common.{sym, ◌∙◌}
use Rattle.edl_grammar.specs.Parser as parse
use Rattle.edl_grammar.proofs.Many.{turn_front}
use Rattle.edl_grammar.proofs.Shrinking.{attribute_shrinks}
use Rattle.edl_parser.proofs.cursor.Cursor.more_attributes.Goals as goal

pub loop-alloc-preserved : goal.loop-alloc-preserved
loop-alloc-preserved c =
    rw c.in_ok-push-2.ensures.ok
    (turn_front (parse.is_mark ",") (parse.after_comma parse.attribute) attribute_shrinks c.loop-alloc.attributes c.loop-alloc.self c.next_attribute.new.self c.in_ok-next.next _ (sym c.sees_mark.ensures ∙ c.loop-alloc-test.true) c.in_ok-next.ensures c.loop-alloc.invariant)

pub loop-alloc-smaller : goal.loop-alloc-smaller
loop-alloc-smaller c = attribute_shrinks c.loop-alloc.self c.next_attribute.new.self c.in_ok-next.next c.in_ok-next.ensures
