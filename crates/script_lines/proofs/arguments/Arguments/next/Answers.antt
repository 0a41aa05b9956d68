use Rattle.std.proofs.Common.{◌∷◌, sym, ◌∙◌, ap}
use Rattle.std.specs.Prelude.{is_some}
use Rattle.script_lines.specs.Arguments.{behind, listed}
use Rattle.script_lines.proofs.ArgumentLaws.{none_listed, none_at_close, next_listed, next_closed}
use Rattle.script_lines.proofs.arguments.Arguments.next.Goals as goal

pub returns-in_default : goal.returns-in_default
returns-in_default c =
    let none = sym c.self.view_is ∙ none_listed _ (sym c.again-words.ensures ∙ c.in_default.ensures.0) in (none, none)

pub returns-then-same : goal.returns-then-same
returns-then-same c =
    let none = sym c.self.view_is
    ∙ none_at_close _ _ _ (sym c.again-words.ensures ∙ c.in-Some.ensures) (sym c.same.ensures ∙ c.if-same.true) in
    (none, none)

pub invariant_of-self : goal.invariant_of-self
invariant_of-self c =
    ap (λ ws. is_some (behind ws)) c.behind_comma-self-inside.ensures
    ∙ next_closed _ _ _ (sym c.again-words.ensures ∙ c.in-Some.ensures) (sym c.same.ensures ∙ c.if-same.false)
    c.self.invariant

pub returns : goal.returns
returns c =
    sym c.self.view_is
    ∙ next_listed _ _ _ (sym c.again-words.ensures ∙ c.in-Some.ensures) (sym c.same.ensures ∙ c.if-same.false)
    c.self.invariant
    ∙ ap (λ ws. c.in-Some.word.now ∷ listed ws) (sym c.behind_comma-self-inside.ensures)
