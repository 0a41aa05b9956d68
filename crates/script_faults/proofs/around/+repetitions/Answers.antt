use Rattle.script_faults.proofs.AroundLaws.{no_product, product_step}
use Rattle.script_faults.proofs.around.+repetitions.Goals as goal

pub returns-in_default : goal.returns-in_default
returns-in_default t c = no_product _ c.in_default.len_below

pub returns : goal.returns
returns t c =
    product_step _ _ _ _ _ c.in-len1-up.len_at_least c.repetitions.ensures c.times_of.ensures c.saturating_mul.ensures
