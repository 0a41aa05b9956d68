use Rattle.std.proofs.Common.{◌∙◌, sym, ap}
use Rattle.edl_grammar.specs.declared.EnumValue.{EnumValue}
use Rattle.broken_rules.specs.Breaches.{first_breach}
use Rattle.attr_terms.specs.Rules as rules
use Rattle.broken_rules.proofs.Firsts.{first_found, first_more, first_none, breach-flat_map}
use Rattle.broken_rules.proofs.type_rules.values_breach.Goals as goal

pub returns-then-is_some : goal.returns-then-is_some
returns-then-is_some c = λ list h.
    first_found (λ (v : EnumValue). first_breach (rules.value_rows list v)) c.args.values.now c.loop-v.v-index c.v-item.result c.value_breach-breach.result c.loop-v-test.true (c.loop-v.invariant list h)
    (c.value_breach-breach.ensures list h ∙ ap (λ (v : EnumValue). first_breach (rules.value_rows list v)) c.v-item.is) (sym c.if-is_some.ensures)
    ∙ sym (breach-flat_map (rules.value_rows list) c.args.values.now)

pub loop-v-preserved : goal.loop-v-preserved
loop-v-preserved c = λ list h.
    first_more (λ (v : EnumValue). first_breach (rules.value_rows list v)) c.args.values.now c.loop-v.v-index c.v-item.result c.value_breach-breach.result c.loop-v-test.true (c.loop-v.invariant list h)
    (c.value_breach-breach.ensures list h ∙ ap (λ (v : EnumValue). first_breach (rules.value_rows list v)) c.v-item.is) (sym c.if-is_some.ensures)

pub returns : goal.returns
returns c = λ list h.
    first_none (λ (v : EnumValue). first_breach (rules.value_rows list v)) c.args.values.now c.loop-v.v-index c.loop-v-test.false (c.loop-v.invariant list h)
    ∙ sym (breach-flat_map (rules.value_rows list) c.args.values.now)
