use Rattle.std.proofs.Common.{sym, ◌∙◌, ap}
use Rattle.std.specs.Prelude.{option_map}
use Rattle.call_script.specs.Line.{Call}
use Rattle.script_lines.proofs.ActLaws.{call_row}
use Rattle.script_lines.proofs.acts.call.Goals as goal

pub returns-in-Some : goal.returns-in-Some
returns-in-Some c =
    ap (option_map (Call c.in_ok-name.name.now)) c.in-Some.ensures ∙ sym (call_row _ _ _ c.in_ok-name.ensures)

pub returns-in-None : goal.returns-in-None
returns-in-None c =
    ap (option_map (Call c.in_ok-name.name.now)) c.in-None.ensures ∙ sym (call_row _ _ _ c.in_ok-name.ensures)
