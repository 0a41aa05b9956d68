use Rattle.std.proofs.Common.{◌≡◌, ◌*◌, ◌<◌, ◌^◌, drop}
use Rattle.edl_layout.specs.Ends.{kept}
use Rattle.edl_layout.specs.Shape as shape
use Rattle.edl_layout.proofs.extents.elements.Given as goal

abbrev pub invariant-loop-dim : goal.invariant-loop-dim
invariant-loop-dim l = record {
  fits : l.count < 2 ^ 64;
  rest : kept (l.count * shape.elements (drop l.dim-index l.dims)) ≡ kept (shape.elements l.dims);
}
