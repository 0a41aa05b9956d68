use Rattle.script_blocks.specs.Acts.{Fits, lines_of}
use Rattle.script_blocks.proofs.LineLaws.{none_left, first_holds, first_placed}
use Rattle.script_blocks.proofs.ThreadLaws.{acts_step, end}
use Rattle.script_blocks.proofs.thread.push_blocks.Goals as goal

pub push_block-requires-clause-fits : goal.push_block-requires-clause-fits
push_block-requires-clause-fits c =
    (first_holds c.loop-left.left.now c.here-item.result c.in-len1-up.len_at_least c.here-item.is Fits
    c.loop-left.invariant.fits).1

pub push_block-requires-clause-placed : goal.push_block-requires-clause-placed
push_block-requires-clause-placed c =
    (first_placed c.loop-left.left.now c.here-item.result c.in-len1-up.len_at_least c.here-item.is
    (lines_of c.args.source.now) c.loop-left.invariant.placed).1

pub push_block-requires-clause-whole : goal.push_block-requires-clause-whole
push_block-requires-clause-whole c =
    (first_placed c.loop-left.left.now c.here-item.result c.in-len1-up.len_at_least c.here-item.is
    (lines_of c.args.source.now) c.loop-left.invariant.placed).0

pub loop-left-preserved : goal.loop-left-preserved
loop-left-preserved c = record {
  rest =
      acts_step c.args.source.now.interface.now (lines_of c.args.source.now) c.args.kind c.loop-left.left.now
      c.here-item.result c.in-len1-up.len_at_least c.here-item.is _ _ _ c.in_ok-push_block.ensures
      c.loop-left.invariant.rest;
  fits =
      (first_holds c.loop-left.left.now c.here-item.result c.in-len1-up.len_at_least c.here-item.is Fits
      c.loop-left.invariant.fits).1;
  placed =
      (first_placed c.loop-left.left.now c.here-item.result c.in-len1-up.len_at_least c.here-item.is
      (lines_of c.args.source.now) c.loop-left.invariant.placed).1;
}

pub returns : goal.returns
returns c =
    end c.args.source.now.interface.now (lines_of c.args.source.now) c.args.kind _ _ _
    (none_left c.loop-left.left.now c.in_default.len_below) c.loop-left.invariant.rest
