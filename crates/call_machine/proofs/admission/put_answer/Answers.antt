use Rattle.std.proofs.Common.{◌≡◌, Ok, sym, subst}
use Rattle.std.proofs.lemmas.Result.{err_from_is_err_and}
use Rattle.sgx_base.specs.Rows.{first_row, unless_refused}
use Rattle.call_machine.specs.Refusal.{field_rows}
use Rattle.call_machine.proofs.CopiesIn.{leads_host}
use Rattle.call_machine.proofs.CopiesBack.{answer_put, answer_full_first, answer_full_later, on_ok}
use Rattle.call_machine.proofs.Maps.{err_maps}
use Rattle.call_machine.proofs.admission.put_answer.Goals as goal

pub put_params-requires-clause-allowed : goal.put_params-requires-clause-allowed
put_params-requires-clause-allowed g c =
    subst (λ h. unless_refused (first_row (field_rows h c.args.function.now c.args.fields.now)) ≡ Ok tt) (sym (leads_host _ _ _ _ c.in_ok-put_return.ensures.ok)) c.requires.allowed

pub returns-in_err-put_return-clause-full : goal.returns-in_err-put_return-clause-full
returns-in_err-put_return-clause-full g c = λ bytes have are.
    let p = err_from_is_err_and c.from_residual.result c.from_residual.ensures.1 in
    rw (p.1, p.2) (c.in_err-put_return.ensures.full.0, answer_full_first c.args.function.now c.args.address c.args.value c.args.fields.now bytes _ _ c.in_err-put_return.ensures.full.1)

pub returns-clause-ok : goal.returns-clause-ok
returns-clause-ok g c = λ bytes have are.
    on_ok c.put_params.result _ _ (λ made. answer_put c.args.function.now c.args.address c.args.value c.args.fields.now bytes _ _ _ c.in_ok-put_return.ensures.ok made) (c.put_params.ensures.ok bytes have are)

pub returns-clause-full : goal.returns-clause-full
returns-clause-full g c = λ bytes have are.
    err_maps c.put_params.result _ _
    (λ full p. (p.0, answer_full_later c.args.function.now c.args.address c.args.value c.args.fields.now bytes _ _ _ c.in_ok-put_return.ensures.ok p.1)) (c.put_params.ensures.full bytes have are)
