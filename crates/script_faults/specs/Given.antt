-- The settings that lines give.
use Rattle.std.specs.Prelude.{ℕ, ◌≡◌, if◌then◌else◌, List, filter_map, Option, Some, None, option_and_then}
use Rattle.std.specs.Str.{bytes_eq}
use Rattle.call_script.specs.Settings as row
use Rattle.call_script.specs.Line.{Line}
use Rattle.call_script.specs.Standing.{set_to}
use Rattle.script_lines.specs.Lines.{setting_of}
use Rattle.script_faults.specs.declared.given.GivenSetting.{GivenSetting}
use Rattle.script_faults.specs.declared.given.GivenSettings.{GivenSettings}

-- the number that is given to a setting
abbrev pub number_given : row.Setting → GivenSetting → Option ℕ
number_given s g = if bytes_eq s.word (setting_of g.setting).word then Some g.number else None

-- this is what a line gives
abbrev pub Gives : Line → Option GivenSetting → Type 0
Gives l o = (s : row.Setting) → set_to s l ≡ option_and_then (number_given s) o

-- these are the settings that the lines give
unfoldable pub AreGiven : List Line → GivenSettings → Type 0
AreGiven ls g = (s : row.Setting) → filter_map (set_to s) ls ≡ filter_map (number_given s) g.given
