use Rattle.std.proofs.Common.{rules, ◌<◌, ◌^◌, None, Ok}
use Rattle.std.proofs.lemmas.Result.{err_from_is_err_and}
use Rattle.switchless.specs.declared.Sent.TheVariants.{Fallback}
use Rattle.switchless.specs.Slots.{offered_word}
use Rattle.switchless.specs.Tasks.{sent_as}
use Rattle.switchless.proofs.OutcomeLaws.{outcome_ret, called, called_full, called_on}
use Rattle.switchless.proofs.caller.call_switchless.Goals as goal

pub returns-in_err-task : goal.returns-in_err-task
returns-in_err-task g c =
    let p = err_from_is_err_and c.from_residual.result c.from_residual.ensures.1 in
    rw (p.1, p.2) (called_full c.args.pool.now (offered_word c.args.ordinal c.args.frame) _ _ _ c.args.waits.now c.in_err-task.ensures.full.0 c.in_err-task.ensures.full.1)

pub returns-in_default : goal.returns-in_default
returns-in_default g c =
    called c.args.pool.now (offered_word c.args.ordinal c.args.frame) None _ _ _ c.args.waits.now c.args.waits.now (Ok Fallback) (rw c.in_default.is at c.in_ok-task.ensures.ok)
    (outcome_ret sent_as Fallback (g.P.WordPort.state c.offer.new.port) c.args.waits.now)

pub returns : goal.returns
returns g c =
    let offered = rw c.in-Some.is at c.in_ok-task.ensures.ok in
    let small : c.args.waits.now < 2 ^ 32 = search rules in
    called_on c.args.pool.now c.args.ordinal c.args.frame c.in-Some.task _ _ _ c.args.waits.now c.await_answer.new.waits c.await_answer.result offered.0 offered.1 offered.2 small c.await_answer.ensures
