use Rattle.edl_layout.proofs.Judging.{apart_below}
use Rattle.edl_layout.proofs.faults.check_type.Goals as goal

pub is_itself-requires-clause-before : goal.is_itself-requires-clause-before
is_itself-requires-clause-before c = apart_below c.args.tables.now.gathered.now c.args.tables.now.foreign.now c.args.number c.requires.before
