use Rattle.edl_interface.proofs.BytesLaws.{little_endian_bound}
use Rattle.edl_interface.proofs.Plain.value.Goals as goal

pub extended-requires-clause-fits : goal.extended-requires-clause-fits
extended-requires-clause-fits c = rw c.read_little_endian.ensures (little_endian_bound c.args.bytes.now c.type_inv.bytes c.args.self.now.size c.requires.field)
