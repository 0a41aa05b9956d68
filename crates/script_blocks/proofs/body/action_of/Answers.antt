use Rattle.std.proofs.Common.{◌∙◌, ap}
use Rattle.std.specs.Prelude.{map}
use Rattle.script_blocks.proofs.BodyLaws.{its_temporary, its_ocall}
use Rattle.script_blocks.proofs.body.action_of.Goals as goal

pub returns-in-Temp : goal.returns-in-Temp
returns-in-Temp c =
    rw c.in-Temp.is
    (its_temporary c.args.interface.now c.args.names.now c.in-Temp.name.now c.in-Temp.size.now c.temporary.result
    c.temporary.ensures)

pub returns-in_ok-action-in-Ocall : goal.returns-in_ok-action-in-Ocall
returns-in_ok-action-in-Ocall c =
    rw c.in-Ocall.is
    (its_ocall c.args.interface.now c.args.names.now c.in-Ocall.returned.now c.in-Ocall.status.now c.in-Ocall.name.now
    c.in-Ocall.args _ _ c.in_ok-action-in-Ocall.action c.ocalls.ensures
    (ap (map (λ w. w.now)) c.as_slice.ensures ∙ c.in_ok-args-in-Ocall.ensures) c.in_ok-action-in-Ocall.ensures)
