use Rattle.script_faults.proofs.AroundLaws.{no_repeats, repeats_step}
use Rattle.script_faults.proofs.around.+repeats_left.Goals as goal

pub returns-in_default : goal.returns-in_default
returns-in_default t c = no_repeats _ _ c.in_default.len_below

pub returns : goal.returns
returns t c =
    repeats_step _ _ _ _ _ _ c.in-len1-up.len_at_least c.repeats_left.ensures c.is_repeat.ensures c.less.ensures
