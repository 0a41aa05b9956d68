use Rattle.std.proofs.Common.{◌++◌, ◌∷◌, [], ◌∙◌, sym, ap, arith, List}
use Rattle.std.proofs.lemmas.List.FromFn.{map-range_with_len_more}
use Rattle.edl_grammar.specs.declared.Pick.{Pick}
use Rattle.edl_imports.proofs.offers.picks.Goals as goal

pub loop-index-preserved : goal.loop-index-preserved
loop-index-preserved c =
    let more = map-range_with_len_more {X = Pick} (λ index. record { file = c.args.file; index = index }) 0 c.loop-index.index c.loop-index.index (omega arith) in
    c.in_ok-push.ensures.ok ∙ ap (λ (ps : List Pick). ps ++ record { file = c.args.file; index = c.loop-index.index } ∷ []) c.loop-index.invariant ∙ sym more
