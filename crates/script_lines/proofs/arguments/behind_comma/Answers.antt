use Rattle.std.proofs.Common.{sym, ◌∙◌}
use Rattle.script_lines.proofs.ArgumentLaws.{at_the_comma, before_no_comma}
use Rattle.script_lines.proofs.arguments.behind_comma.Goals as goal

pub returns-then-same : goal.returns-then-same
returns-then-same c =
    at_the_comma _ _ _ (sym c.again-behind.ensures ∙ c.in-Some.ensures) (sym c.same.ensures ∙ c.if-same.true)

pub returns-else-same : goal.returns-else-same
returns-else-same c =
    c.again.ensures
    ∙ before_no_comma _ _ _ (sym c.again-behind.ensures ∙ c.in-Some.ensures) (sym c.same.ensures ∙ c.if-same.false)
