use Rattle.std.proofs.Common.{◌≡◌, true, sym, ◌∙◌, arith}
use Rattle.edl_grammar.specs.Parser as parse
use Rattle.edl_grammar.proofs.Values.{values_shrink, values_turn_front}
use Rattle.edl_parser.proofs.cursor.Cursor.enum_values.Goals as goal

pub loop-alloc-smaller : goal.loop-alloc-smaller
loop-alloc-smaller c = values_shrink c.loop-alloc.self c.enum_value.new.self c.take_mark.new.self c.in_ok-value.value c.in_ok-take_mark.field-0 c.in_ok-value.ensures c.in_ok-take_mark.ensures

pub loop-alloc-preserved : goal.loop-alloc-preserved
loop-alloc-preserved c =
    let t : parse.sees parse.is_name c.loop-alloc.self ≡ true = sym c.sees_name.ensures ∙ c.loop-alloc-test.true in
    let u : parse.sees (parse.is_mark ",") c.enum_value.new.self ≡ true = first_of (cc, grind arith) in
    rw c.in_ok-push.ensures.ok
    (values_turn_front c.loop-alloc.values c.in_ok-value.value c.loop-alloc.self c.enum_value.new.self (parse.enum_values c.args.self.now) t c.in_ok-value.ensures c.loop-alloc.invariant c.take_mark.new.self c.in_ok-take_mark.field-0 u c.in_ok-take_mark.ensures)
