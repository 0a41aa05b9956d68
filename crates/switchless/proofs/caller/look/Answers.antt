use Rattle.std.proofs.Common.{sym, ◌∙◌}
use Rattle.std.proofs.lemmas.Result.{err_from_is_err_and}
use Rattle.switchless.proofs.StepLaws.{look_made, look_full, look_seen}
use Rattle.switchless.proofs.caller.look.Goals as goal

pub returns-in_err-word-clause-full : goal.returns-in_err-word-clause-full
returns-in_err-word-clause-full g c =
    let p = err_from_is_err_and c.from_residual.result c.from_residual.ensures.1 in
    rw (p.1, p.2) (c.in_err-word.ensures.full.0, look_full c.args.task.now.slot _ _ c.in_err-word.ensures.full.1)

pub returns-clause-ok : goal.returns-clause-ok
returns-clause-ok g c = look_made c.args.task.now.slot c.in_ok-word.word c.is_done.result _ _ c.is_done.ensures c.in_ok-word.ensures.ok

pub returns-clause-seen : goal.returns-clause-seen
returns-clause-seen g c = λ e. look_seen c.args.task.now.slot c.in_ok-word.word _ _ c.in_ok-word.ensures.ok (sym c.is_done.ensures ∙ e)
