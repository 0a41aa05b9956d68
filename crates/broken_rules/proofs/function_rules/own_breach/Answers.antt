use Rattle.std.proofs.Common.{◌∙◌, ap, Bool}
use Rattle.attr_terms.specs.Rules as rules
use Rattle.broken_rules.specs.Breaches.{breach_of, breach_at}
use Rattle.broken_rules.proofs.Firsts.{or_cong}
use Rattle.broken_rules.proofs.function_rules.own_breach.Goals as goal

pub returns : goal.returns
returns c = λ e.
    c.or-5.ensures ∙ or_cong (c.or-4.ensures ∙ or_cong (c.or-3.ensures ∙ or_cong (c.or-2.ensures ∙ or_cong (c.or.ensures ∙ or_cong
    (c.row.ensures ∙ ap (λ (b : Bool). breach_of (rules.row 31 b c.args.f.now.decl.now.token)) e)
    (c.row_at.ensures ∙ ap (breach_at 32) c.unknown_allowed.ensures))
    (c.row-2.ensures ∙ ap (λ (b : Bool). breach_of (rules.row 34 b c.args.f.now.decl.now.token)) c.is_private_switchless.ensures))
    (c.row-3.ensures ∙ ap (λ (b : Bool). breach_of (rules.row 35 b c.args.f.now.decl.now.token)) c.is_allowing_switchless.ensures))
    (c.row-4.ensures ∙ ap (λ (b : Bool). breach_of (rules.row 38 b c.args.f.now.decl.now.token)) c.is_refused_result.ensures))
    (c.row-5.ensures ∙ ap (λ (b : Bool). breach_of (rules.row 39 b c.args.f.now.decl.now.token)) c.has_many_params.ensures)
