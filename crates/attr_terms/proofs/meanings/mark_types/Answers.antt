use Rattle.std.proofs.Common.{◌∙◌, sym, ap, take}
use Rattle.std.specs.Prelude.{fold}
use Rattle.std.proofs.lemmas.List.Sums.{fold_more}
use Rattle.attr_terms.specs.Kinds as kinds
use Rattle.attr_terms.proofs.meanings.mark_types.Goals as goal

pub loop-decl-preserved : goal.loop-decl-preserved
loop-decl-preserved c = λ q.
    c.in_ok-mark_type.ensures q
    ∙ ap (λ k. kinds.with_decl q k c.decl-item.result) (c.loop-decl.invariant q)
    ∙ ap (λ d. kinds.with_decl q (fold (kinds.with_decl q) (kinds.told c.args.table.now q) (take c.loop-decl.decl-index c.args.decls.now)) d) c.decl-item.is
    ∙ sym (fold_more (kinds.with_decl q) (kinds.told c.args.table.now q) c.args.decls.now c.loop-decl.decl-index c.decl-item.result c.loop-decl-test.true)
