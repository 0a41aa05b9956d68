use Rattle.std.proofs.Common.{◌≡◌, ap, sym, subst}
use Rattle.std.proofs.lemmas.Result.{err_from_is_err_and}
use Rattle.enclave_memory.specs.Arguments.{ArePassed}
use Rattle.call_machine.specs.Tcs.{TcsState}
use Rattle.call_machine.proofs.ocalls.finish_ocall.Goals as goal

pub returns-in_err-answer-clause-full : goal.returns-in_err-answer-clause-full
returns-in_err-answer-clause-full g c passed made are =
    let p = err_from_is_err_and c.from_residual.result c.from_residual.ensures.1 in
    let arena : c.args.tcs.now.arena ≡ c.tcs.inside.arena = ap (λ (t : TcsState). t.arena) (sym c.tcs.view_is) in
    rw (p.1, p.2, arena) (c.in_err-answer.ensures.full passed made _ _ (subst (λ a. ArePassed a c.args.args.now.items passed) arena are))
