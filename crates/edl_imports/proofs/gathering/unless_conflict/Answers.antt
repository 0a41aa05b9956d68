use Rattle.std.proofs.Common.{sym, ◌∙◌}
use Rattle.edl_imports.proofs.Apart.{types_apart}
use Rattle.edl_imports.proofs.gathering.unless_conflict.Goals as goal

pub returns-in-None-clause-apart : goal.returns-in-None-clause-apart
returns-in-None-clause-apart c = types_apart c.args.gathered (sym c.in_ok-at.ensures ∙ c.in-None.is)
