-- What the tables of lines read.
use Rattle.std.specs.Prelude.{List, map, take, drop, Option}
use Rattle.call_script.specs.Spelling.{Word}
use Rattle.call_script.specs.Parser.{Parser, first_to_read}
use Rattle.call_script.specs.Line.{Line, settings, declarations, acts, racer_acts, actions, body_lines, doing}
use Rattle.call_script.specs.Block.{Scope, own_forms}

unfoldable pub setting_line : List Word → Option Line
setting_line ws = first_to_read settings ws

unfoldable pub declaration : List Word → Option Line
declaration ws = first_to_read declarations ws

unfoldable pub act : List Word → Option Line
act ws = first_to_read acts ws

unfoldable pub racer_act : List Word → Option Line
racer_act ws = first_to_read racer_acts ws

-- ---- in bodies

abbrev pub action_lines : List (Parser Line)
action_lines = map doing actions

-- on a register and a value
unfoldable pub calculation : List Word → Option Line
calculation ws = first_to_read (take 7 action_lines) ws

-- on a block
unfoldable pub on_block : List Word → Option Line
on_block ws = first_to_read (take 6 (drop 7 action_lines)) ws

-- on a cell
unfoldable pub on_cell : List Word → Option Line
on_cell ws = first_to_read (take 4 (drop 13 action_lines)) ws

-- what goes on elsewhere, or ends
unfoldable pub jump : List Word → Option Line
jump ws = first_to_read (drop 17 action_lines) ws

unfoldable pub action_line : List Word → Option Line
action_line ws = first_to_read action_lines ws

unfoldable pub body_line : List Word → Option Line
body_line ws = first_to_read body_lines ws

-- ---- in a scope

unfoldable pub own_line : Scope → List Word → Option Line
own_line scope ws = first_to_read (own_forms scope) ws
