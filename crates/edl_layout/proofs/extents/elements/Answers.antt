use Rattle.std.proofs.Common.{◌∙◌, sym}
use Rattle.edl_layout.proofs.FieldLists.{elements_turn, elements_end}
use Rattle.edl_layout.proofs.extents.elements.Goals as goal

pub loop-dim-preserved : goal.loop-dim-preserved
loop-dim-preserved c = record {
  fits = c.saturating_mul-count.type_inv;
  rest =
      elements_turn c.args.dims.now c.loop-dim.dim-index c.loop-dim.count c.saturating_mul-count.result c.unwrap_or.result c.loop-dim-test.true c.unwrap_or.ensures c.saturating_mul-count.ensures
      ∙ c.loop-dim.invariant.rest;
}

pub returns : goal.returns
returns c = sym (elements_end c.args.dims.now c.loop-dim.dim-index c.loop-dim.count c.loop-dim-test.false c.loop-dim.invariant.fits) ∙ c.loop-dim.invariant.rest
