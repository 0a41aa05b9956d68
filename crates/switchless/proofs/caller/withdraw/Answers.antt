use Rattle.std.proofs.lemmas.Result.{err_from_is_err_and}
use Rattle.switchless.specs.Tasks.{task_word}
use Rattle.switchless.proofs.StepLaws.{withdraw_made, withdraw_full}
use Rattle.switchless.proofs.caller.withdraw.Goals as goal

pub returns-in_err-found-clause-full : goal.returns-in_err-found-clause-full
returns-in_err-found-clause-full g c =
    let p = err_from_is_err_and c.from_residual.result c.from_residual.ensures.1 in
    rw (p.1, p.2) (c.in_err-found.ensures.full.0, withdraw_full c.args.task.now.slot (task_word c.args.task.now) c.word-offered.result _ _ c.word-offered.ensures c.in_err-found.ensures.full.1)

pub returns-clause-ok : goal.returns-clause-ok
returns-clause-ok g c = withdraw_made c.args.task.now.slot (task_word c.args.task.now) c.word-offered.result c.in_ok-found.found _ _ c.word-offered.ensures c.in_ok-found.ensures.ok
