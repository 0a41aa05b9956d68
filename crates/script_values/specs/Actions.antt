-- The rules of an action's words.
use Rattle.std.specs.Prelude.{Bool}
use Rattle.call_script.specs.Spelling.{Word}
use Rattle.call_script.specs.Line.{Role}
use Rattle.call_script.specs.Parts.{is_no_name, is_wide_number, is_unknown_name, is_no_cell, is_skip_past}
use Rattle.script_values.specs.declared.actions.WordRule.{WordRule}
use Rattle.script_values.specs.declared.actions.WordRule.TheVariants.{NoName, WideNumber, UnknownName, NoCell, SkipPast}

-- whether a word in a role breaks the rule
abbrev pub is_broken : WordRule → Role → Word → Bool
is_broken NoName = is_no_name
is_broken WideNumber = is_wide_number
is_broken (UnknownName names) = is_unknown_name names.now
is_broken (NoCell cells) = is_no_cell cells
is_broken (SkipPast left) = is_skip_past left
