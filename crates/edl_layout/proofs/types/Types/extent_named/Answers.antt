use Rattle.std.proofs.Common.{subst}
use Rattle.edl_layout.specs.Typed.{Typed}
use Rattle.edl_layout.specs.Filled.{IsExtent}
use Rattle.edl_layout.specs.Meaning.{bare_meaning}
use Rattle.edl_layout.proofs.types.Types.extent_named.Goals as goal

pub returns : goal.returns
returns c = subst (λ (t : Typed). IsExtent t.gathered t.foreign (bare_meaning t.gathered t.foreign c.args.name.now) c.extent_in.result) c.self.view_is c.extent_in.ensures
