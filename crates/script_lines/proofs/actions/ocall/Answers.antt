use Rattle.std.proofs.Common.{sym, ◌∙◌, ap}
use Rattle.std.specs.Prelude.{option_map}
use Rattle.call_script.specs.Line.{Ocall}
use Rattle.script_lines.proofs.ActionLaws.{ocall_row}
use Rattle.script_lines.proofs.actions.ocall.Goals as goal

pub returns-in-Some : goal.returns-in-Some
returns-in-Some c =
    ap (option_map (Ocall c.in_ok-returned.returned.now c.in_ok-status.status.now c.in_ok-name.name.now))
    c.in-Some.ensures
    ∙ sym (ocall_row _ _ _ c.in_ok-returned.ensures _ _ c.in_ok-status.ensures _ _ c.in_ok-name.ensures)

pub returns-in-None : goal.returns-in-None
returns-in-None c =
    ap (option_map (Ocall c.in_ok-returned.returned.now c.in_ok-status.status.now c.in_ok-name.name.now))
    c.in-None.ensures
    ∙ sym (ocall_row _ _ _ c.in_ok-returned.ensures _ _ c.in_ok-status.ensures _ _ c.in_ok-name.ensures)
