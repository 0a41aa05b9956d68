use Rattle.std.proofs.lemmas.Result.{err_from_is_err_and}
use Rattle.edl_layout.proofs.types.clean_sizes.Goals as goal

pub returns-in_err-check_types-clause-fault : goal.returns-in_err-check_types-clause-fault
returns-in_err-check_types-clause-fault c =
    let p = err_from_is_err_and c.from_residual-in_err-check_types.result c.from_residual-in_err-check_types.ensures.1 in
    rw (p.1, p.2) c.in_err-check_types.ensures.fault
