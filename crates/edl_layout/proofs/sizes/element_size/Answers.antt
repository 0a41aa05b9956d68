use Rattle.edl_layout.specs.Ends.{shape_at}
use Rattle.edl_layout.proofs.Together.{pointer_size, fixed_size, declared_size}
use Rattle.edl_layout.proofs.sizes.element_size.Goals as goal

pub returns-then-member-gt0 : goal.returns-then-member-gt0
returns-then-member-gt0 c = pointer_size c.args.tables.now.gathered.now c.args.tables.now.foreign.now c.args.sizes.now c.args.member.now.written c.if-member-gt0.true

pub returns-in-Fixed : goal.returns-in-Fixed
returns-in-Fixed c = fixed_size c.args.tables.now.gathered.now c.args.tables.now.foreign.now c.args.sizes.now c.args.member.now.written (shape_at c.in-Fixed.extent) c.capped_extent.result c.if-member-gt0.false c.in-Fixed.ensures c.capped_extent.ensures

pub returns-in-Declared : goal.returns-in-Declared
returns-in-Declared c =
    let p = c.in-Declared.ensures in
    declared_size c.args.tables.now.gathered.now c.args.tables.now.foreign.now c.args.sizes.now c.args.member.now.written p.0 c.in-Declared.number c.size_at.result c.requires.sizes c.if-member-gt0.false p.1 p.2.0 c.size_at.ensures
