use Rattle.std.proofs.lemmas.Result.{err_from_is_err_and}
use Rattle.switchless.proofs.StepLaws.{accept_made, accept_full}
use Rattle.switchless.proofs.worker.accept.Goals as goal

pub returns-in_err-found-clause-full : goal.returns-in_err-found-clause-full
returns-in_err-found-clause-full g c =
    let p = err_from_is_err_and c.from_residual.result c.from_residual.ensures.1 in
    rw (p.1, p.2)
    (c.in_err-found.ensures.full.0, accept_full c.args.task.now.slot c.args.task.now.ordinal c.args.task.now.frame c.word-offered.result c.word-accepted.result _ _ c.word-offered.ensures c.word-accepted.ensures c.in_err-found.ensures.full.1)

pub returns-clause-ok : goal.returns-clause-ok
returns-clause-ok g c =
    accept_made c.args.task.now.slot c.args.task.now.ordinal c.args.task.now.frame c.word-offered.result c.word-accepted.result c.in_ok-found.found _ _ c.word-offered.ensures c.word-accepted.ensures c.in_ok-found.ensures.ok
