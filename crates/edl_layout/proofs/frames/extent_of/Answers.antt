use Rattle.edl_layout.proofs.Meanings.{settles_plain}
use Rattle.edl_layout.proofs.frames.extent_of.Goals as goal

pub returns-else-written-gt0 : goal.returns-else-written-gt0
returns-else-written-gt0 c = settles_plain c.args.types.now.gathered c.args.types.now.foreign c.args.written.now c.meant.result c.known.result c.if-written-gt0.false c.meant.ensures c.known.ensures
