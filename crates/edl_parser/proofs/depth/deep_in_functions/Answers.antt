use Rattle.std.proofs.Common.{sym, ◌∙◌, ap, take}
use Rattle.std.specs.List.{flat_map}
use Rattle.edl_grammar.specs.declared.FuncDecl.{FuncDecl}
use Rattle.edl_grammar.specs.Sentence.{least, deep_in_function}
use Rattle.edl_parser.specs.Depth.{earlier}
use Rattle.edl_parser.proofs.Deep.{least_take}
use Rattle.edl_parser.proofs.depth.deep_in_functions.Goals as goal

pub loop-f-preserved : goal.loop-f-preserved
loop-f-preserved c =
    c.earlier_of-first.ensures
    ∙ ap (λ o. earlier o c.deep_in_function.result) c.loop-f.invariant
    ∙ ap (λ o. earlier (least (flat_map deep_in_function (take c.loop-f.f-index c.args.functions.now))) o) (c.deep_in_function.ensures ∙ ap (λ (d : FuncDecl). least (deep_in_function d)) c.f-item.is)
    ∙ sym (least_take deep_in_function c.args.functions.now c.loop-f.f-index c.f-item.result c.loop-f-test.true)
