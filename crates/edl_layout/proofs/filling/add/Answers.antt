use Rattle.edl_layout.proofs.Covering.{covers_nothing}
use Rattle.edl_layout.proofs.filling.add.Goals as goal

pub returns-in-None-extent_named-clause-covers : goal.returns-in-None-extent_named-clause-covers
returns-in-None-extent_named-clause-covers c = covers_nothing c.args.types.now.gathered c.args.types.now.foreign c.args.table.now c.args.name.now c.in-None-extent_named.ensures
