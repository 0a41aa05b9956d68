use Rattle.std.proofs.Common.{true, false, Ok, Err}
use Rattle.std.proofs.lemmas.Result.{err_from_is_err_and}
use Rattle.switchless.specs.declared.Sent.TheVariants.{Fallback}
use Rattle.switchless.specs.Tasks.{task_word, sent_as}
use Rattle.switchless.specs.Caller.{withdraw, waiting_looks, collected_status, unless_withdrawn}
use Rattle.switchless.proofs.OutcomeLaws.{outcome_ret, outcome_then, outcome_after, outcome_stopped, first_full}
use Rattle.switchless.proofs.caller.withdraw_or_wait.Goals as goal

pub returns-in_err-withdraw : goal.returns-in_err-withdraw
returns-in_err-withdraw g c = λ most big.
    let p = err_from_is_err_and c.from_residual.result c.from_residual.ensures.1 in
    rw (p.1, p.2) (first_full sent_as (withdraw c.args.task.now.slot (task_word c.args.task.now)) (unless_withdrawn most c.args.task.now.slot) _ _ _ c.args.waits.now c.in_err-withdraw.ensures.full.0 c.in_err-withdraw.ensures.full.1)

pub returns-then-branch : goal.returns-then-branch
returns-then-branch g c = λ most big.
    outcome_then sent_as (withdraw c.args.task.now.slot (task_word c.args.task.now)) (unless_withdrawn most c.args.task.now.slot) c.in_ok-withdraw.field-0 true _ _ (g.P.WordPort.state c.withdraw.new.port) c.args.waits.now c.args.waits.now (Ok Fallback) c.in_ok-withdraw.ensures.ok c.if-branch.true
    (outcome_ret sent_as Fallback (g.P.WordPort.state c.withdraw.new.port) c.args.waits.now)

pub returns-in_err-wait_until_done : goal.returns-in_err-wait_until_done
returns-in_err-wait_until_done g c = λ most big.
    let p = err_from_is_err_and c.from_residual-in_err-wait_until_done.result c.from_residual-in_err-wait_until_done.ensures.1 in
    rw (p.1, p.2)
    (outcome_then sent_as (withdraw c.args.task.now.slot (task_word c.args.task.now)) (unless_withdrawn most c.args.task.now.slot) c.in_ok-withdraw.field-0 false _ _ (g.P.WordPort.state c.wait_until_done.new.port) c.args.waits.now c.wait_until_done.new.waits (Err c.in_err-wait_until_done.field-0.0) c.in_ok-withdraw.ensures.ok c.if-branch.false
    (outcome_stopped sent_as (waiting_looks c.args.task.now.slot most) (λ done. collected_status c.args.task.now.slot) _ _ _ _ _ (c.in_err-wait_until_done.ensures.outcome most big)))

pub returns : goal.returns
returns g c = λ most big.
    outcome_then sent_as (withdraw c.args.task.now.slot (task_word c.args.task.now)) (unless_withdrawn most c.args.task.now.slot) c.in_ok-withdraw.field-0 false _ _ _ c.args.waits.now _ _ c.in_ok-withdraw.ensures.ok c.if-branch.false
    (outcome_after sent_as (waiting_looks c.args.task.now.slot most) (λ done. collected_status c.args.task.now.slot) tt _ _ _ _ _ _ _ (c.in_ok-wait_until_done.ensures.outcome most big) c.take_answer.ensures)
