use Rattle.std.proofs.Common.{◌∙◌}
use Rattle.call_script.specs.Meaning.{zeros}
use Rattle.script_value.proofs.words.zeros.Goals as goal

pub returns : goal.returns
unfolding zeros
returns c = c.from_vec.ensures ∙ c.in_ok-vec.ensures.items_if_clones_equal (λ y e. e)
