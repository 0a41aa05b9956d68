use Rattle.std.proofs.Common.{◌≡◌, Some, None, sym, ◌∙◌, subst}
use Rattle.std.specs.Prelude.{MatchBool}
use Rattle.script_lines.proofs.ArgumentLaws.{closed_at_once, some_at_least}
use Rattle.script_lines.proofs.arguments.pass.Goals as goal

pub returns-then-same : goal.returns-then-same
returns-then-same c =
    closed_at_once _ _ _ (sym c.again-ahead.ensures ∙ c.in-Some.ensures) (sym c.same.ensures ∙ c.if-same.true)

pub returns : goal.returns
returns c =
    subst (λ o. MatchBool c.pass_some.result (o ≡ Some c.pass_some.new.words) (o ≡ None))
    (sym (some_at_least _ _ _ (sym c.again-ahead.ensures ∙ c.in-Some.ensures) (sym c.same.ensures ∙ c.if-same.false)))
    c.pass_some.ensures
