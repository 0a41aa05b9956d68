use Rattle.std.proofs.Common.{◌≡◌, ◌++◌, length}
use Rattle.std.specs.Prelude.{map}
use Rattle.script_blocks.proofs.acts.argument_words.Given as goal

abbrev pub invariant-loop-word : goal.invariant-loop-word
invariant-loop-word l = map (λ w. w.now) l.words ++ l.left ≡ l.args

abbrev pub decreases-loop-word : goal.decreases-loop-word
decreases-loop-word l = length l.left
