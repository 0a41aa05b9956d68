use Rattle.script_blocks.specs.Acts.{Fits, lines_of}
use Rattle.script_blocks.proofs.LineLaws.{none_left, first_holds, first_placed}
use Rattle.script_blocks.proofs.SlotLaws.{handlers_step, handlers_end}
use Rattle.script_blocks.proofs.slots.filled_handlers.Goals as goal

pub fill_handler-requires-clause-fits : goal.fill_handler-requires-clause-fits
fill_handler-requires-clause-fits c =
    (first_holds c.loop-left.left.now c.here-item.result c.in-len1-up.len_at_least c.here-item.is Fits
    c.loop-left.invariant.fits).1

pub fill_handler-requires-clause-placed : goal.fill_handler-requires-clause-placed
fill_handler-requires-clause-placed c =
    (first_placed c.loop-left.left.now c.here-item.result c.in-len1-up.len_at_least c.here-item.is
    (lines_of c.args.source.now) c.loop-left.invariant.placed).1

pub fill_handler-requires-clause-whole : goal.fill_handler-requires-clause-whole
fill_handler-requires-clause-whole c =
    (first_placed c.loop-left.left.now c.here-item.result c.in-len1-up.len_at_least c.here-item.is
    (lines_of c.args.source.now) c.loop-left.invariant.placed).0

pub loop-left-preserved : goal.loop-left-preserved
loop-left-preserved c = record {
  rest =
      handlers_step c.args.source.now.interface.now (lines_of c.args.source.now) c.loop-left.left.now
      c.here-item.result c.in-len1-up.len_at_least c.here-item.is _ _ _ c.in_ok-fill_handler.ensures
      c.loop-left.invariant.rest;
  fits =
      (first_holds c.loop-left.left.now c.here-item.result c.in-len1-up.len_at_least c.here-item.is Fits
      c.loop-left.invariant.fits).1;
  placed =
      (first_placed c.loop-left.left.now c.here-item.result c.in-len1-up.len_at_least c.here-item.is
      (lines_of c.args.source.now) c.loop-left.invariant.placed).1;
}

pub returns : goal.returns
returns c =
    handlers_end c.args.source.now.interface.now (lines_of c.args.source.now) _ _ _
    (none_left c.loop-left.left.now c.in_default.len_below) c.loop-left.invariant.rest
