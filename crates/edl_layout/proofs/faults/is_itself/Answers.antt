use Rattle.edl_layout.proofs.Judging.{apart_at}
use Rattle.edl_layout.proofs.faults.is_itself.Goals as goal

pub returns-in_default : goal.returns-in_default
returns-in_default c = apart_at c.args.tables.now.gathered.now c.args.tables.now.foreign.now c.args.sizes.now c.args.number c.size_at.result c.requires.sizes c.size_at.ensures c.in_default.not-Waiting
