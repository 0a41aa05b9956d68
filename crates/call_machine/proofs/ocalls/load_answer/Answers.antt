use Rattle.std.proofs.Common.{List, length, ap}
use Rattle.std.proofs.lemmas.Result.{err_from_is_err_and}
use Rattle.word_port.specs.declared.Step.{Step}
use Rattle.enclave_memory.specs.Arguments.{arguments_in}
use Rattle.call_machine.specs.OcallPhases.{frame_address}
use Rattle.call_machine.proofs.OcallAnswers.{not_success, success, no_answer, answer_cut, whole_answer}
use Rattle.call_machine.proofs.ocalls.load_answer.Goals as goal

pub returns-then-status-ne0-clause-ok : goal.returns-then-status-ne0-clause-ok
returns-then-status-ne0-clause-ok g c passed are =
    no_answer c.args.function.now passed (frame_address c.args.frame) c.args.status (g.P.WordPort.state c.args.port.now) c.args.arena.now
    (not_success c.args.status c.if-status-ne0.true)

pub returns-in_err-value-clause-full : goal.returns-in_err-value-clause-full
returns-in_err-value-clause-full g c passed made left waits are =
    let p = err_from_is_err_and c.from_residual.result c.from_residual.ensures.1 in
    let cut = c.in_err-value.ensures.full passed are in
    rw (p.1, p.2, cut.0)
    (answer_cut c.args.function.now (arguments_in c.args.arena.now passed) (frame_address c.args.frame) c.args.status made (success c.args.status c.if-status-ne0.false) _ _ left waits cut.1)

pub returns-clause-ok : goal.returns-clause-ok
returns-clause-ok g c passed are =
    whole_answer c.args.function.now passed (frame_address c.args.frame) c.args.status _ _ c.args.arena.now _ (length c.log.result.now) c.in_ok-value.value
    (success c.args.status c.if-status-ne0.false) (ap (λ (l : List Step). length l) c.log.ensures.log) (c.in_ok-value.ensures.ok passed are)
