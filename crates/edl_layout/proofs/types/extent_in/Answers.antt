use Rattle.edl_layout.specs.Ends.{shape_at}
use Rattle.edl_layout.specs.Meaning.{bare_meaning}
use Rattle.edl_layout.proofs.Together.{fixed_found}
use Rattle.edl_layout.proofs.Covering.{declared_extent}
use Rattle.edl_layout.proofs.types.extent_in.Goals as goal

pub returns-in-Fixed : goal.returns-in-Fixed
returns-in-Fixed c =
    let g = c.args.tables.now.gathered.now in
    let foreign = c.args.tables.now.foreign.now in
    (0, fixed_found g foreign (bare_meaning g foreign c.args.name.now) (shape_at c.in-Fixed.extent) c.in-Fixed.ensures)

pub returns-in-Declared : goal.returns-in-Declared
returns-in-Declared c =
    let p = c.in-Declared.ensures in
    rw c.known.ensures (declared_extent c.args.tables.now.gathered.now c.args.tables.now.foreign.now c.args.sizes.now c.args.name.now p.0 c.in-Declared.number c.size_at.result c.requires.sound c.requires.settled c.requires.clean p.1 p.2.0 c.size_at.ensures)
