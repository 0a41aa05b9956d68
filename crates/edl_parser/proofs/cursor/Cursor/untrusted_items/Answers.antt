use Rattle.std.proofs.Common.{sym, ◌∙◌}
use Rattle.edl_grammar.specs.Parser as parse
use Rattle.edl_parser.proofs.Loops.{item_turn, item_shorter}
use Rattle.edl_grammar.proofs.Shrinking.{untrusted_shrinks}
use Rattle.edl_parser.proofs.cursor.Cursor.untrusted_items.Goals as goal

pub loop-alloc-preserved : goal.loop-alloc-preserved
loop-alloc-preserved c =
    item_turn parse.begins_untrusted parse.untrusted_item untrusted_shrinks c.loop-alloc.file c.untrusted_item.new.file c.loop-alloc.self c.untrusted_item.new.self _
    (sym c.sees_untrusted_item.ensures ∙ c.loop-alloc-test.true) c.in_ok-untrusted_item.ensures c.loop-alloc.invariant

pub loop-alloc-smaller : goal.loop-alloc-smaller
loop-alloc-smaller c = item_shorter parse.begins_untrusted parse.untrusted_item untrusted_shrinks c.loop-alloc.file c.untrusted_item.new.file c.loop-alloc.self c.untrusted_item.new.self c.in_ok-untrusted_item.ensures
