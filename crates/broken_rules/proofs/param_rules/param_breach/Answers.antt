use Rattle.std.proofs.Common.{◌∙◌, sym, ap, [], ◌∷◌, map, Bool}
use Rattle.attr_terms.specs.Rules as rules
use Rattle.broken_rules.specs.Breaches.{breach_of}
use Rattle.broken_rules.proofs.Firsts.{breach-six, or_cong}
use Rattle.broken_rules.proofs.param_rules.param_breach.Goals as goal

pub returns : goal.returns
returns c = λ e.
    c.or-5.ensures ∙ or_cong (c.or-4.ensures ∙ or_cong (c.or-3.ensures ∙ or_cong (c.or-2.ensures ∙ or_cong (c.or.ensures ∙ or_cong c.direction_breach.ensures c.attribute_breach.ensures) c.amount_breach.ensures) c.pointee_breach.ensures)
    (c.row.ensures ∙ ap (λ (b : Bool). breach_of (rules.row 31 b c.args.p.now.token)) e)) c.foreign_breach.ensures
    ∙ sym (breach-six (rules.direction_rows c.args.p.now) (rules.attribute_rows c.args.p.now) (rules.amount_rows c.args.meanings.now.gathered.now c.args.params.now.list.now c.args.p.now)
    (rules.pointee_rows c.args.meanings.now.gathered.now c.args.p.now) (rules.row 31 (rules.is_second (map rules.declared_name c.args.params.now.list.now) (rules.declared_name c.args.p.now)) c.args.p.now.token ∷ [])
    (rules.foreign_rows c.args.meanings.now.gathered.now c.args.runner c.args.p.now))
