use Rattle.std.proofs.Common.{◌≡◌, ◌∙◌, sym, ap, ℕ, List, map}
use Rattle.edl_grammar.specs.declared.Declared.{Declared}
use Rattle.broken_rules.specs.Breaches.{first_breach}
use Rattle.attr_terms.specs.Rules as rules
use Rattle.broken_rules.proofs.Firsts.{first_found, first_more, first_none, breach-flat_map}
use Rattle.broken_rules.proofs.param_rules.breach_among.Goals as goal

pub returns-then-is_some : goal.returns-then-is_some
returns-then-is_some c =
    let list = c.args.params.now.list.now in
    let breach_of = λ (p : Declared). first_breach (rules.param_rows c.args.meanings.now.gathered.now c.args.runner list p) in
    let second : c.is_second-is_second.result ≡ rules.is_second (map rules.declared_name list) (rules.declared_name c.p-item.result) =
    c.is_second-is_second.ensures (map rules.declared_name list) c.requires ∙ ap (λ (n : List ℕ). rules.is_second (map rules.declared_name list) (rules.at c.p-item.result.token n)) c.bytes.ensures in
    first_found breach_of list c.loop-p.p-index c.p-item.result c.param_breach-breach.result c.loop-p-test.true c.loop-p.invariant
    (c.param_breach-breach.ensures second ∙ ap breach_of c.p-item.is) (sym c.if-is_some.ensures)
    ∙ sym (breach-flat_map (rules.param_rows c.args.meanings.now.gathered.now c.args.runner list) list)

pub loop-p-preserved : goal.loop-p-preserved
loop-p-preserved c =
    let list = c.args.params.now.list.now in
    let breach_of = λ (p : Declared). first_breach (rules.param_rows c.args.meanings.now.gathered.now c.args.runner list p) in
    let second : c.is_second-is_second.result ≡ rules.is_second (map rules.declared_name list) (rules.declared_name c.p-item.result) =
    c.is_second-is_second.ensures (map rules.declared_name list) c.requires ∙ ap (λ (n : List ℕ). rules.is_second (map rules.declared_name list) (rules.at c.p-item.result.token n)) c.bytes.ensures in
    first_more breach_of list c.loop-p.p-index c.p-item.result c.param_breach-breach.result c.loop-p-test.true c.loop-p.invariant
    (c.param_breach-breach.ensures second ∙ ap breach_of c.p-item.is) (sym c.if-is_some.ensures)

pub returns : goal.returns
returns c =
    let list = c.args.params.now.list.now in
    first_none (λ (p : Declared). first_breach (rules.param_rows c.args.meanings.now.gathered.now c.args.runner list p)) list c.loop-p.p-index c.loop-p-test.false c.loop-p.invariant
    ∙ sym (breach-flat_map (rules.param_rows c.args.meanings.now.gathered.now c.args.runner list) list)
