use Rattle.std.proofs.Common.{◌∙◌, ap}
use Rattle.call_script.specs.Standing.{setting_in}
use Rattle.script_lines.specs.Lines.{setting_of, line_of}
use Rattle.script_value.specs.Left.{left}
use Rattle.script_value.specs.Initial.{front}
use Rattle.script_value.proofs.SettingLaws.{found}
use Rattle.script_value.proofs.settings.number_of_setting.Goals as goal

pub loop-line-init : goal.loop-line-init
loop-line-init c =
    ap (λ ls. setting_in (front ls) (setting_of c.args.setting)) c.all_lines-lines.ensures
    ∙ c.requires.first (setting_of c.args.setting)

pub returns-in-Some : goal.returns-in-Some
returns-in-Some c =
    found (setting_of c.args.setting) (left c.loop-line.lines) (line_of c.in-Ok-Some.line) (left c.next_formed.new.placed)
    (rw c.in-Ok-Some.field-0-is at c.in-Ok-Some.ensures) c.in-Some.number c.in-Some.ensures
    ∙ c.loop-line.invariant
