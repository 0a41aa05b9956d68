use Rattle.edl_layout.proofs.Voids.{declared_meant}
use Rattle.edl_layout.proofs.types.meant_in.Goals as goal

pub returns-in-Declared : goal.returns-in-Declared
returns-in-Declared c =
    let p = c.in-Declared.ensures in
    rw c.meant_by.ensures (declared_meant c.args.tables.now.gathered.now c.args.tables.now.foreign.now c.args.sizes.now c.args.base.now p.0 c.in-Declared.number c.size_at.result c.requires.sound c.requires.settled c.requires.clean p.1 p.2.0 c.size_at.ensures)
