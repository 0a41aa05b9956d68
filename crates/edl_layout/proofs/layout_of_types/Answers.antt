use Rattle.std.proofs.lemmas.Result.{err_from_is_err_and}
use Rattle.edl_layout.proofs.layout_of_types.Goals as goal

pub returns-in_err-check_functions-clause-fault : goal.returns-in_err-check_functions-clause-fault
returns-in_err-check_functions-clause-fault c =
    let p = err_from_is_err_and c.from_residual.result c.from_residual.ensures.1 in
    rw (p.1, p.2) (λ stated. c.in_err-check_functions.ensures.err)

pub returns-in_err-layouts-clause-fault : goal.returns-in_err-layouts-clause-fault
returns-in_err-layouts-clause-fault c =
    let p = err_from_is_err_and c.from_residual-in_err-layouts.result c.from_residual-in_err-layouts.ensures.1 in
    rw p.1 (λ stated. absurd (stated p.2))
