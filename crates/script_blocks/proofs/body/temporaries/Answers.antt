use Rattle.script_blocks.proofs.LineLaws.{stops, ends}
use Rattle.script_blocks.proofs.BodyLaws.{names_step, names_end}
use Rattle.script_blocks.proofs.body.temporaries.Goals as goal

pub returns-then-here-home : goal.returns-then-here-home
returns-then-here-home c =
    names_end c.args.home _ _ _
    (stops c.loop-left.left.now c.here-item.result c.in-len1-up.len_at_least c.here-item.is c.args.home
    c.if-here-home.true)
    c.loop-left.invariant

pub loop-left-preserved : goal.loop-left-preserved
loop-left-preserved c =
    names_step c.args.home c.loop-left.left.now c.here-item.result c.in-len1-up.len_at_least c.here-item.is
    c.if-here-home.false _ _ _ c.in_ok-push_own_name.ensures c.loop-left.invariant

pub returns : goal.returns
returns c =
    names_end c.args.home _ _ _ (ends c.args.home c.loop-left.left.now c.in_default.len_below) c.loop-left.invariant
