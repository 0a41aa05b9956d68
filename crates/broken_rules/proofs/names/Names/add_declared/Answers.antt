use Rattle.std.proofs.Common.{◌∙◌, ap}
use Rattle.attr_terms.specs.Rules as rules
use Rattle.broken_rules.proofs.NameLaws.{names_step}
use Rattle.broken_rules.proofs.names.Names.add_declared.Goals as goal

pub loop-d-preserved : goal.loop-d-preserved
loop-d-preserved c = λ list h.
    names_step rules.declared_name c.args.declared.now c.loop-d.d-index c.d-item.result c.loop-d.self c.add.new.self list _ c.loop-d-test.true
    (ap (λ n. rules.at c.d-item.result.token n) c.bytes.ensures ∙ ap rules.declared_name c.d-item.is) c.in_ok-add.ensures (c.loop-d.invariant list h)
