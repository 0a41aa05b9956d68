use Rattle.std.proofs.Common.{◌≡◌, length}
use Rattle.std.specs.List.{list_any}
use Rattle.call_script.specs.Spelling.{is_wide}
use Rattle.script_rules.proofs.call_words.has_wide_number.Given as goal

abbrev pub invariant-loop-word : goal.invariant-loop-word
invariant-loop-word l = list_any is_wide l.args ≡ list_any is_wide l.initial.args

abbrev pub decreases-loop-word : goal.decreases-loop-word
decreases-loop-word l = length l.args
