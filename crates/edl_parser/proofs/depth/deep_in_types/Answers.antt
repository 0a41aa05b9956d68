use Rattle.std.proofs.Common.{sym, ◌∙◌, ap, take}
use Rattle.std.specs.List.{flat_map}
use Rattle.edl_grammar.specs.declared.TypeDecl.{TypeDecl}
use Rattle.edl_grammar.specs.Sentence.{least, deep_in_type}
use Rattle.edl_parser.specs.Depth.{earlier}
use Rattle.edl_parser.proofs.Deep.{least_take}
use Rattle.edl_parser.proofs.depth.deep_in_types.Goals as goal

pub loop-d-preserved : goal.loop-d-preserved
loop-d-preserved c =
    c.earlier_of-first.ensures
    ∙ ap (λ o. earlier o c.deep_in_type.result) c.loop-d.invariant
    ∙ ap (λ o. earlier (least (flat_map deep_in_type (take c.loop-d.d-index c.args.decls.now))) o) (c.deep_in_type.ensures ∙ ap (λ (d : TypeDecl). least (deep_in_type d)) c.d-item.is)
    ∙ sym (least_take deep_in_type c.args.decls.now c.loop-d.d-index c.d-item.result c.loop-d-test.true)
