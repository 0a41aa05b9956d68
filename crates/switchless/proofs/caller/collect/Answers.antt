use Rattle.std.proofs.lemmas.Result.{err_from_is_err_and}
use Rattle.switchless.proofs.StepLaws.{collect_made, collect_full}
use Rattle.switchless.proofs.caller.collect.Goals as goal

pub returns-in_err-word-clause-full : goal.returns-in_err-word-clause-full
returns-in_err-word-clause-full g c =
    let p = err_from_is_err_and c.from_residual.result c.from_residual.ensures.1 in
    rw (p.1, p.2) (c.in_err-word.ensures.full.0, collect_full c.args.task.slot _ _ c.in_err-word.ensures.full.1)

pub returns-clause-ok : goal.returns-clause-ok
returns-clause-ok g c = collect_made c.args.task.slot c.in_ok-word.word c.status_of.result.0 _ _ c.status_of.ensures c.in_ok-word.ensures.ok
