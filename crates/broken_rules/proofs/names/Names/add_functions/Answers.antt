use Rattle.std.proofs.Common.{◌∙◌, ap}
use Rattle.attr_terms.specs.Rules as rules
use Rattle.broken_rules.proofs.NameLaws.{names_step}
use Rattle.broken_rules.proofs.names.Names.add_functions.Goals as goal

pub loop-f-preserved : goal.loop-f-preserved
loop-f-preserved c = λ list h.
    names_step rules.function_name c.args.functions.now c.loop-f.f-index c.f-item.result c.loop-f.self c.add.new.self list _ c.loop-f-test.true
    (ap (λ n. rules.at c.f-item.result.token n) c.bytes.ensures ∙ ap rules.function_name c.f-item.is) c.in_ok-add.ensures (c.loop-f.invariant list h)
