use Rattle.std.proofs.Common.{true, false}
use Rattle.std.proofs.lemmas.Result.{err_from_is_err_and}
use Rattle.switchless.specs.Tasks.{task_word, sent_as}
use Rattle.switchless.specs.Caller.{looks, after_looks}
use Rattle.switchless.proofs.OutcomeLaws.{outcome_then, first_full}
use Rattle.switchless.proofs.caller.await_answer.Goals as goal

pub returns-in_err-look_often : goal.returns-in_err-look_often
returns-in_err-look_often g c = λ most big.
    let p = err_from_is_err_and c.from_residual.result c.from_residual.ensures.1 in
    rw (p.1, p.2)
    (first_full sent_as (looks c.args.task.now.slot c.args.retries) (after_looks most c.args.task.now.slot (task_word c.args.task.now)) _ _ _ c.args.waits.now c.in_err-look_often.ensures.full.0 c.in_err-look_often.ensures.full.1)

pub returns-then-branch : goal.returns-then-branch
returns-then-branch g c = λ most big.
    outcome_then sent_as (looks c.args.task.now.slot c.args.retries) (after_looks most c.args.task.now.slot (task_word c.args.task.now)) c.in_ok-look_often.field-0 true _ _ _ c.args.waits.now _ _ c.in_ok-look_often.ensures.ok c.if-branch.true c.take_answer.ensures

pub returns : goal.returns
returns g c = λ most big.
    outcome_then sent_as (looks c.args.task.now.slot c.args.retries) (after_looks most c.args.task.now.slot (task_word c.args.task.now)) c.in_ok-look_often.field-0 false _ _ _ c.args.waits.now _ _ c.in_ok-look_often.ensures.ok c.if-branch.false (c.withdraw_or_wait.ensures most big)
