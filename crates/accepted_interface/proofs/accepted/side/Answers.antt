use Rattle.std.proofs.Common.{◌≡◌, ◌<◌, map, get_or, sym, ap, ◌∙◌, subst}
use Rattle.std.proofs.Math.ListN.{get_or-map}
use Rattle.std.proofs.lemmas.List.{length-map}
use Rattle.accepted_interface.specs.Fitting.{FunctionFits}
use Rattle.attr_terms.specs.Sizing.{files_of, table_of}
use Rattle.attr_terms.specs.Taken.{function_in}
use Rattle.accepted_interface.proofs.accepted.side.Goals as goal

pub function-requires-clause-fits : goal.function-requires-clause-fits
function-requires-clause-fits c =
    let at : get_or (map function_in c.args.taken.now) c.loop-f.f-index (function_in c.f-item.result) ≡ function_in c.f-item.result =
    get_or-map function_in c.args.taken.now c.loop-f.f-index c.f-item.result ∙ ap function_in (sym c.f-item.is) in
    subst (FunctionFits (files_of c.args.sizes.now) (table_of c.args.sizes.now)) at
    (c.requires.fits c.loop-f.f-index (function_in c.f-item.result) (subst (λ n. c.loop-f.f-index < n) (sym (length-map c.args.taken.now function_in)) c.loop-f-test.true))
