use Rattle.std.proofs.lemmas.Result.{err_from_is_err_and}
use Rattle.switchless.proofs.StepLaws.{finish_made, finish_full}
use Rattle.switchless.proofs.worker.finish.Goals as goal

pub returns-in_err-swap-clause-full : goal.returns-in_err-swap-clause-full
returns-in_err-swap-clause-full g c =
    let p = err_from_is_err_and c.from_residual.result c.from_residual.ensures.1 in
    rw (p.1, p.2)
    (c.in_err-swap.ensures.full.0, finish_full c.args.task.slot c.args.task.ordinal c.args.task.frame c.args.status.0 c.word-done.result _ _ c.word-done.ensures c.in_err-swap.ensures.full.1)

pub returns-clause-ok : goal.returns-clause-ok
returns-clause-ok g c = finish_made c.args.task.slot c.args.task.ordinal c.args.task.frame c.args.status.0 c.word-done.result _ _ _ c.word-done.ensures c.in_ok-swap.ensures.ok
