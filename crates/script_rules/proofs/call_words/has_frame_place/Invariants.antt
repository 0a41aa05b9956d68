use Rattle.std.proofs.Common.{◌≡◌, length}
use Rattle.std.specs.List.{list_any}
use Rattle.call_script.specs.Arguments.{is_frame_argument}
use Rattle.script_rules.proofs.call_words.has_frame_place.Given as goal

abbrev pub invariant-loop-word : goal.invariant-loop-word
invariant-loop-word l = list_any is_frame_argument l.args ≡ list_any is_frame_argument l.initial.args

abbrev pub decreases-loop-word : goal.decreases-loop-word
decreases-loop-word l = length l.args
