use Rattle.std.proofs.Common.{◌≡◌, length}
use Rattle.call_script.specs.Standing.{setting_in}
use Rattle.script_lines.specs.Lines.{setting_of}
use Rattle.script_value.specs.Left.{left, formed_lines}
use Rattle.script_value.specs.Initial.{front}
use Rattle.script_value.proofs.settings.number_of_setting.Given as goal

abbrev pub invariant-loop-line : goal.invariant-loop-line
invariant-loop-line l = setting_in (front (left l.lines)) (setting_of l.setting) ≡ setting_in (formed_lines l.bytes) (setting_of l.setting)

abbrev pub decreases-loop-line : goal.decreases-loop-line
decreases-loop-line l = length (left l.lines)
