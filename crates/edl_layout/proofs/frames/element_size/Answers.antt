use Rattle.std.proofs.Common.{Some, None, refl}
use Rattle.edl_layout.proofs.Meanings.{is_element}
use Rattle.edl_layout.proofs.frames.element_size.Goals as goal

pub returns-in-Some : goal.returns-in-Some
returns-in-Some c = is_element c.args.types.now.gathered c.args.types.now.foreign c.args.declared.now (Some c.in-Some.extent) c.in-Some.ensures c.in-Some.extent.size refl

pub returns-in-None : goal.returns-in-None
returns-in-None c = is_element c.args.types.now.gathered c.args.types.now.foreign c.args.declared.now None c.in-None.ensures 1 refl
