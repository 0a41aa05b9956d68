use Rattle.std.proofs.lemmas.Result.{err_from_is_err_and}
use Rattle.switchless.proofs.OutcomeLaws.{answer_made, answer_full}
use Rattle.switchless.proofs.caller.take_answer.Goals as goal

pub returns-in_err-status : goal.returns-in_err-status
returns-in_err-status g c =
    let p = err_from_is_err_and c.from_residual.result c.from_residual.ensures.1 in
    rw (p.1, p.2) (answer_full c.args.task.now.slot _ _ _ c.args.waits c.in_err-status.ensures.full.0 c.in_err-status.ensures.full.1)

pub returns : goal.returns
returns g c = answer_made c.args.task.now.slot _ _ _ c.args.waits c.in_ok-status.ensures.ok
