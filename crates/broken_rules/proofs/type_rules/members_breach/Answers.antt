use Rattle.std.proofs.Common.{◌∙◌, sym, ap, ℕ, List, map}
use Rattle.edl_grammar.specs.declared.Declared.{Declared}
use Rattle.broken_rules.specs.Breaches.{first_breach}
use Rattle.attr_terms.specs.Rules as rules
use Rattle.broken_rules.proofs.Firsts.{first_found, first_more, first_none, breach-flat_map}
use Rattle.broken_rules.proofs.type_rules.members_breach.Goals as goal

pub returns-then-is_some : goal.returns-then-is_some
returns-then-is_some c =
    first_found (λ (m : Declared). first_breach (rules.member_rows c.args.members.now m)) c.args.members.now c.loop-m.m-index c.m-item.result c.member_breach-breach.result c.loop-m-test.true c.loop-m.invariant
    (c.member_breach-breach.ensures c.args.members.now (c.is_second.ensures (map rules.declared_name c.args.members.now) c.in_ok-names.ensures ∙ ap (λ (n : List ℕ). rules.is_second (map rules.declared_name c.args.members.now) (rules.at c.m-item.result.token n)) c.bytes.ensures) ∙ ap (λ (m : Declared). first_breach (rules.member_rows c.args.members.now m)) c.m-item.is) (sym c.if-is_some.ensures)
    ∙ sym (breach-flat_map (rules.member_rows c.args.members.now) c.args.members.now)

pub loop-m-preserved : goal.loop-m-preserved
loop-m-preserved c =
    first_more (λ (m : Declared). first_breach (rules.member_rows c.args.members.now m)) c.args.members.now c.loop-m.m-index c.m-item.result c.member_breach-breach.result c.loop-m-test.true c.loop-m.invariant
    (c.member_breach-breach.ensures c.args.members.now (c.is_second.ensures (map rules.declared_name c.args.members.now) c.in_ok-names.ensures ∙ ap (λ (n : List ℕ). rules.is_second (map rules.declared_name c.args.members.now) (rules.at c.m-item.result.token n)) c.bytes.ensures) ∙ ap (λ (m : Declared). first_breach (rules.member_rows c.args.members.now m)) c.m-item.is) (sym c.if-is_some.ensures)

pub returns : goal.returns
returns c =
    first_none (λ (m : Declared). first_breach (rules.member_rows c.args.members.now m)) c.args.members.now c.loop-m.m-index c.loop-m-test.false c.loop-m.invariant
    ∙ sym (breach-flat_map (rules.member_rows c.args.members.now) c.args.members.now)
