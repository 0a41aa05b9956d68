-- What a script begins with, by its lines.
use Rattle.std.specs.Prelude.{ℕ, ◌≡◌, ◌<◌, ◌-◌, ◌^◌, ◌*◌, Bool, List, [], ◌∷◌, ◌++◌, fold, take_while, if◌then◌else◌}
use Rattle.call_script.specs.declared.Settings.{Settings}
use Rattle.call_script.specs.Settings as row
use Rattle.call_script.specs.Line.{Line}
use Rattle.call_script.specs.Standing.{is_setting, setting_in}
use Rattle.word_port.specs.declared.Race.{Race}
use Rattle.edl_interface.specs.declared.Interface.{Interface}
use Rattle.call_script.specs.Block.{placed_lines}
use Rattle.call_script.specs.Meaning as meaning
use Rattle.call_script.specs.Meaning.{zeros, host_behind, cells_behind}

-- host bytes, cells, the slots of both pools, the stop word
unfoldable pub words_of : Bool → Settings → List Line → List ℕ
words_of racing settings lines =
    fold host_behind (zeros settings.host) lines ++ fold cells_behind (zeros settings.cells) lines
    ++ zeros (if racing then 2 * settings.slots else 0) ++ 0 ∷ []

-- the settings of a script, for whatever interface
abbrev pub AreSettings : Bool → List ℕ → Settings → Type 0
AreSettings racing bytes s = (i : Interface) → s ≡ meaning.settings i racing (placed_lines bytes)

-- the settings at the front of lines
abbrev pub front : List Line → List Line
front lines = take_while is_setting lines

-- the settings at the front of a script are all that it has
abbrev pub AreInFront : List Line → Type 0
AreInFront lines = (s : row.Setting) → setting_in (front lines) s ≡ setting_in lines s

-- a race whose numbers fit, and another at the index behind it
abbrev pub IsSmallRace : Race → Type 0
IsSmallRace r = (r.at < 2 ^ 32) × (r.index < 2 ^ 32 - 1)
