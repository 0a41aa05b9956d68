use Rattle.std.proofs.Common.{sym, ◌∙◌}
use Rattle.edl_grammar.specs.Parser as parse
use Rattle.edl_parser.proofs.Loops.{item_turn, item_shorter}
use Rattle.edl_grammar.proofs.Shrinking.{item_shrinks}
use Rattle.edl_parser.proofs.cursor.Cursor.items.Goals as goal

pub loop-alloc-preserved : goal.loop-alloc-preserved
loop-alloc-preserved c =
    item_turn parse.begins_item parse.item item_shrinks c.loop-alloc.file c.item.new.file c.loop-alloc.self c.item.new.self _
    (sym c.sees_item.ensures ∙ c.loop-alloc-test.true) c.in_ok-item.ensures c.loop-alloc.invariant

pub loop-alloc-smaller : goal.loop-alloc-smaller
loop-alloc-smaller c = item_shorter parse.begins_item parse.item item_shrinks c.loop-alloc.file c.item.new.file c.loop-alloc.self c.item.new.self c.in_ok-item.ensures
