use Rattle.std.proofs.Common.{◌≡◌, length}
use Rattle.std.specs.List.{list_any}
use Rattle.call_script.specs.Arguments.{is_place_argument_out}
use Rattle.script_rules.proofs.call_words.has_place_out.Given as goal

abbrev pub invariant-loop-word : goal.invariant-loop-word
invariant-loop-word l = list_any is_place_argument_out l.args ≡ list_any is_place_argument_out l.initial.args

abbrev pub decreases-loop-word : goal.decreases-loop-word
decreases-loop-word l = length l.args
