-- Settings, by their first word.
use Rattle.std.proofs.Common.{◌≡◌, false, List, ◌∷◌, None, ◌∙◌, refl}
use Rattle.std.specs.Prelude.{option_map, codes}
use Rattle.std.specs.Str.{bytes_eq}
use Rattle.call_script.specs.Spelling.{Word}
use Rattle.call_script.specs.Settings as settings
use Rattle.call_script.specs.Line.{Set}
use Rattle.script_lines.specs.declared.line.Setting.{Setting}
use Rattle.script_lines.specs.declared.line.Setting.TheVariants as setting
use Rattle.script_lines.specs.declared.shapes.Shape.TheVariants.{Number}
use Rattle.script_lines.specs.Lines.{setting_of}
use Rattle.script_lines.specs.Shapes.{one}
use Rattle.script_lines.specs.Tables.{setting_line}
use Rattle.script_lines.proofs.RowLaws.{or-none, one-is}

pub setting_row : (s : Setting) (ws : List Word)
    → setting_line ((setting_of s).word ∷ ws) ≡ option_map (Set (setting_of s)) (one Number ws)
unfolding setting_line
setting_row setting.Host ws = or-none _ ∙ one-is (Set settings.host) Number ws
setting_row setting.Stack ws = or-none _ ∙ one-is (Set settings.stack) Number ws
setting_row setting.Arena ws = or-none _ ∙ one-is (Set settings.arena) Number ws
setting_row setting.Cells ws = or-none _ ∙ one-is (Set settings.cells) Number ws
setting_row setting.Retries ws = or-none _ ∙ one-is (Set settings.retries) Number ws
setting_row setting.TrustedWorkers ws = or-none _ ∙ one-is (Set settings.tworkers) Number ws
setting_row setting.UntrustedWorkers ws = or-none _ ∙ one-is (Set settings.uworkers) Number ws
setting_row setting.Slots ws = or-none _ ∙ one-is (Set settings.slots) Number ws

-- no row begins with the word
pub no_setting : (w : Word) (ws : List Word) → bytes_eq (codes "host") w ≡ false → bytes_eq (codes "stack") w ≡ false
    → bytes_eq (codes "arena") w ≡ false → bytes_eq (codes "cells") w ≡ false → bytes_eq (codes "retries") w ≡ false
    → bytes_eq (codes "tworkers") w ≡ false → bytes_eq (codes "uworkers") w ≡ false
    → bytes_eq (codes "slots") w ≡ false → setting_line (w ∷ ws) ≡ None
unfolding setting_line
no_setting w ws a b c d e f g h = rw (a, b, c, d, e, f, g, h) refl
