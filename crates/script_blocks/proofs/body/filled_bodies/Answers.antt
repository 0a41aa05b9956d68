use Rattle.script_blocks.specs.Acts.{Fits, lines_of}
use Rattle.script_blocks.proofs.LineLaws.{none_left, first_holds, first_placed}
use Rattle.script_blocks.proofs.BodyLaws.{bodies_step, bodies_end, few_behind}
use Rattle.script_blocks.proofs.body.filled_bodies.Goals as goal

pub fill_body-requires-clause-fits : goal.fill_body-requires-clause-fits
fill_body-requires-clause-fits c =
    (first_holds c.loop-left.left.now c.here-item.result c.in-len1-up.len_at_least c.here-item.is Fits
    c.loop-left.invariant.fits).1

pub fill_body-requires-clause-few : goal.fill_body-requires-clause-few
fill_body-requires-clause-few c =
    few_behind c.loop-left.left.now c.here-item.result c.in-len1-up.len_at_least c.here-item.is _
    c.loop-left.invariant.few

pub fill_body-requires-clause-whole : goal.fill_body-requires-clause-whole
fill_body-requires-clause-whole c =
    (first_placed c.loop-left.left.now c.here-item.result c.in-len1-up.len_at_least c.here-item.is
    (lines_of c.args.source.now) c.loop-left.invariant.placed).0

pub loop-left-preserved : goal.loop-left-preserved
loop-left-preserved c = record {
  rest =
      bodies_step c.args.source.now.interface.now (lines_of c.args.source.now) c.loop-left.left.now
      c.here-item.result c.in-len1-up.len_at_least c.here-item.is _ _ _ c.in_ok-fill_body.ensures
      c.loop-left.invariant.rest;
  fits =
      (first_holds c.loop-left.left.now c.here-item.result c.in-len1-up.len_at_least c.here-item.is Fits
      c.loop-left.invariant.fits).1;
  placed =
      (first_placed c.loop-left.left.now c.here-item.result c.in-len1-up.len_at_least c.here-item.is
      (lines_of c.args.source.now) c.loop-left.invariant.placed).1;
  few =
      few_behind c.loop-left.left.now c.here-item.result c.in-len1-up.len_at_least c.here-item.is _
      c.loop-left.invariant.few;
}

pub returns : goal.returns
returns c =
    bodies_end c.args.source.now.interface.now (lines_of c.args.source.now) _ _ _
    (none_left c.loop-left.left.now c.in_default.len_below) c.loop-left.invariant.rest
