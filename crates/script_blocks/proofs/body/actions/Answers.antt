use Rattle.script_blocks.specs.Acts.{Fits}
use Rattle.script_blocks.proofs.LineLaws.{stops, ends, first_holds}
use Rattle.script_blocks.proofs.BodyLaws.{actions_step, actions_end}
use Rattle.script_blocks.proofs.body.actions.Goals as goal

pub returns-then-here-home : goal.returns-then-here-home
returns-then-here-home c =
    actions_end c.args.interface.now c.args.names.now c.args.home _ _ _
    (stops c.loop-left.left.now c.here-item.result c.in-len1-up.len_at_least c.here-item.is c.args.home
    c.if-here-home.true)
    c.loop-left.invariant.rest

pub push_own_action-requires-clause-fits : goal.push_own_action-requires-clause-fits
push_own_action-requires-clause-fits c =
    (first_holds c.loop-left.left.now c.here-item.result c.in-len1-up.len_at_least c.here-item.is Fits
    c.loop-left.invariant.fits).0

pub loop-left-preserved : goal.loop-left-preserved
loop-left-preserved c = record {
  rest =
      actions_step c.args.home c.loop-left.left.now c.here-item.result c.in-len1-up.len_at_least c.here-item.is
      c.if-here-home.false c.args.interface.now c.args.names.now _ _ _ c.in_ok-push_own_action.ensures
      c.loop-left.invariant.rest;
  fits =
      (first_holds c.loop-left.left.now c.here-item.result c.in-len1-up.len_at_least c.here-item.is Fits
      c.loop-left.invariant.fits).1;
}

pub returns : goal.returns
returns c =
    actions_end c.args.interface.now c.args.names.now c.args.home _ _ _
    (ends c.args.home c.loop-left.left.now c.in_default.len_below) c.loop-left.invariant.rest
