use Rattle.std.proofs.Common.{◌≡◌, ◌++◌, take}
use Rattle.std.specs.Prelude.{flat_map}
use Rattle.bridge_text.specs.Declarations.{dim_text}
use Rattle.bridge_text.proofs.declarations.put_dims.Given as goal

abbrev pub invariant-loop-dim : goal.invariant-loop-dim
invariant-loop-dim l = l.out.items ≡ l.initial.out.items ++ flat_map dim_text (take l.dim-index l.dims)
