use Rattle.std.proofs.Common.{◌≡◌, arith}
use Rattle.std.proofs.lemmas.Result.{err_from_is_err_and}
use Rattle.word_port.specs.Interaction.{ret}
use Rattle.switchless.specs.Caller.{look}
use Rattle.switchless.proofs.StepLaws.{past_host_on}
use Rattle.switchless.proofs.LoopLaws.{looks_more, looks_seen, looks_none, looks_full}
use Rattle.switchless.proofs.caller.look_often.Goals as goal

pub returns-in_err-look-clause-full : goal.returns-in_err-look-clause-full
returns-in_err-look-clause-full g c =
    let p = err_from_is_err_and c.from_residual.result c.from_residual.ensures.1 in
    rw (p.1, p.2) (c.in_err-look.ensures.full.0, looks_full c.args.task.now.slot c.args.retries c.loop.counter _ _ _ c.loop.invariant.0 c.loop-test.true c.in_err-look.ensures.full.1)

pub returns-then-branch-clause-ok : goal.returns-then-branch-clause-ok
returns-then-branch-clause-ok g c = looks_seen c.args.task.now.slot c.args.retries c.loop.counter c.in_ok-look.field-0 _ _ _ c.loop.invariant.0 c.loop-test.true c.in_ok-look.ensures.ok c.if-branch.true

pub loop-preserved : goal.loop-preserved
loop-preserved g c = (
  looks_more c.args.task.now.slot c.args.retries c.loop.counter c.in_ok-look.field-0 _ _ _ c.loop.invariant.0 c.loop-test.true c.in_ok-look.ensures.ok c.if-branch.false,
  past_host_on (look c.args.task.now.slot) (ret c.in_ok-look.field-0) c.args.task.now.slot _ _ c.in_ok-look.ensures.ok c.loop.invariant.1,
)

pub returns-clause-ok : goal.returns-clause-ok
returns-clause-ok g c =
    let e : c.loop.counter ≡ c.args.retries = omega (arith, c.loop-test.false, c.loop.auto.counter-end) in
    looks_none c.args.task.now.slot c.args.retries c.loop.counter _ _ c.loop.invariant.0 e
