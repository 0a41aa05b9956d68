use Rattle.std.proofs.Common.{rules, ◌≡◌, ◌<◌, ◌≤◌, arith}
use Rattle.std.proofs.lemmas.Result.{err_from_is_err_and}
use Rattle.word_port.specs.Interaction.{ret}
use Rattle.switchless.specs.Caller.{look}
use Rattle.switchless.proofs.StepLaws.{past_host_on}
use Rattle.switchless.proofs.WaitLaws.{waiting_more, waiting_seen}
use Rattle.switchless.proofs.OutcomeLaws.{waited_out, waited_full}
use Rattle.switchless.proofs.caller.wait_until_done.Goals as goal

pub returns-in_err-done-clause-outcome : goal.returns-in_err-done-clause-outcome
returns-in_err-done-clause-outcome g c =
    let p = err_from_is_err_and c.from_residual.result c.from_residual.ensures.1 in
    let some : 0 < c.loop-waits.waits = search rules in
    rw (p.1, p.2) (waited_full c.args.task.now.slot _ _ c.args.waits.now _ _ c.loop-waits.waits c.in_err-done.ensures.full.0 c.loop-waits.invariant.0 some c.in_err-done.ensures.full.1)

pub returns-then-done-clause-outcome : goal.returns-then-done-clause-outcome
returns-then-done-clause-outcome g c =
    let some : 0 < c.loop-waits.waits = search rules in
    waiting_seen c.args.task.now.slot _ c.args.waits.now _ _ c.loop-waits.waits c.in_ok-done.done c.loop-waits.invariant.0 some c.in_ok-done.ensures.ok c.if-done.true

pub loop-waits-preserved : goal.loop-waits-preserved
loop-waits-preserved g c =
    let some : 0 < c.loop-waits.waits = search rules in
    let low : c.loop-waits.waits ≤ c.args.waits.now = c.loop-waits.invariant.1 in (
      waiting_more c.args.task.now.slot _ c.args.waits.now _ _ c.loop-waits.waits c.in_ok-done.done c.loop-waits.invariant.0 some low c.in_ok-done.ensures.ok c.if-done.false,
      omega (arith, low),
      past_host_on (look c.args.task.now.slot) (ret c.in_ok-done.done) c.args.task.now.slot _ _ c.in_ok-done.ensures.ok c.loop-waits.invariant.2,
    )

pub returns-clause-outcome : goal.returns-clause-outcome
returns-clause-outcome g c =
    let none : c.loop-waits.waits ≡ 0 = search rules in
    waited_out c.args.task.now.slot _ c.args.waits.now _ c.loop-waits.waits c.loop-waits.invariant.0 none
