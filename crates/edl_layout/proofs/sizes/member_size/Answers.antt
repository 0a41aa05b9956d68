use Rattle.edl_layout.proofs.Together.{dims_size}
use Rattle.edl_layout.proofs.sizes.member_size.Goals as goal

pub returns : goal.returns
returns c =
    rw (c.with_dims.ensures, c.as_slice.ensures)
    (dims_size c.args.tables.now.gathered.now c.args.tables.now.foreign.now c.args.sizes.now c.args.member.now c.element_size.result c.element_size.ensures)
