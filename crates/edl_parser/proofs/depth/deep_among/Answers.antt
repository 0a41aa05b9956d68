use Rattle.std.proofs.Common.{sym, ◌∙◌, ap, [], ◌∷◌, take}
use Rattle.edl_grammar.specs.declared.Declared.{Declared}
use Rattle.edl_grammar.specs.Sentence.{least, deep_among}
use Rattle.edl_parser.specs.Depth.{earlier}
use Rattle.edl_parser.proofs.Deep.{deep_take}
use Rattle.edl_parser.proofs.depth.deep_among.Goals as goal

pub loop-d-preserved : goal.loop-d-preserved
loop-d-preserved c =
    c.earlier_of-first.ensures
    ∙ ap (λ o. earlier o c.deep_in_declared.result) c.loop-d.invariant
    ∙ ap (λ o. earlier (least (deep_among (take c.loop-d.d-index c.args.declared.now))) o) (c.deep_in_declared.ensures ∙ ap (λ (d : Declared). least (deep_among (d ∷ []))) c.d-item.is)
    ∙ sym (deep_take c.args.declared.now c.loop-d.d-index c.d-item.result c.loop-d-test.true)
