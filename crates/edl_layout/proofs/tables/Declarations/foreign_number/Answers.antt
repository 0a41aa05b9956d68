use Rattle.std.proofs.Common.{◌∙◌}
use Rattle.edl_layout.proofs.tables.Declarations.foreign_number.Goals as goal

pub returns : goal.returns
returns c = c.copied.ensures ∙ c.get.ensures.value ∙ c.requires.foreign c.args.name
