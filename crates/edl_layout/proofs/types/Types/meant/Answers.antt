use Rattle.std.proofs.Common.{subst}
use Rattle.edl_layout.specs.Typed.{Typed}
use Rattle.edl_layout.specs.Meant.{IsMeant}
use Rattle.edl_layout.proofs.types.Types.meant.Goals as goal

pub returns : goal.returns
returns c = subst (λ (t : Typed). IsMeant t.gathered t.foreign c.args.base.now c.meant_in.result) c.self.view_is c.meant_in.ensures
