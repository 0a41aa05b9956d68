use Rattle.std.proofs.Common.{sym, ◌∙◌}
use Rattle.script_lines.proofs.ArgumentLaws.{other_opening}
use Rattle.script_lines.proofs.arguments.last_arguments.Goals as goal

pub returns-then-not-says : goal.returns-then-not-says
returns-then-not-says c = other_opening _ _ _ c.in_ok-first.ensures (sym c.says.ensures ∙ c.if-not-says.true)
