use Rattle.std.proofs.Common.{◌≡◌, length}
use Rattle.script_lines.specs.Arguments.{behind_some}
use Rattle.script_lines.proofs.arguments.pass_some.Given as goal

abbrev pub invariant-loop-argument : goal.invariant-loop-argument
invariant-loop-argument l = behind_some l.words ≡ behind_some l.initial.words

abbrev pub decreases-loop-argument : goal.decreases-loop-argument
decreases-loop-argument l = length l.words
