use Rattle.std.proofs.Common.{◌∙◌, ap}
use Rattle.attr_terms.specs.Rules as rules
use Rattle.broken_rules.proofs.NameLaws.{names_step}
use Rattle.broken_rules.proofs.names.Names.add_values.Goals as goal

pub loop-v-preserved : goal.loop-v-preserved
loop-v-preserved c = λ list h.
    names_step rules.value_name c.args.values.now c.loop-v.v-index c.v-item.result c.loop-v.self c.add.new.self list _ c.loop-v-test.true
    (ap (λ n. rules.at c.v-item.result.token n) c.bytes.ensures ∙ ap rules.value_name c.v-item.is) c.in_ok-add.ensures (c.loop-v.invariant list h)
