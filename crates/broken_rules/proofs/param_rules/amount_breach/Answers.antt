use Rattle.std.proofs.Common.{◌≡◌, ◌∙◌, not, rules, arith}
use Rattle.std.specs.Prelude.{slice_get}
use Rattle.std.specs.List.{list_any}
use Rattle.std.specs.Str.{bytes_eq}
use Rattle.std.proofs.lemmas.Grind.{common_steps}
use Rattle.edl_grammar.specs.declared.NameAt.{NameAt}
use Rattle.edl_grammar.specs.declared.Declared.{Declared}
use Rattle.attr_terms.specs.Rules.{unknown_amounts, other_amounts, not_integer, first_named}
use Rattle.broken_rules.proofs.Firsts.{named_find}
use Rattle.broken_rules.proofs.param_rules.amount_breach.Goals as goal

pub returns : goal.returns
returns c =
    let unknown : c.unknown_amount.result ≡ slice_get (unknown_amounts c.args.params.now.list.now c.args.p.now) 0 =
    c.unknown_amount.ensures ∙ named_find (λ (x : NameAt). not (list_any (λ (q : Declared). bytes_eq q.name x.name) c.args.params.now.list.now)) c.args.p.now.attrs in
    let other : c.other_amount.result ≡ slice_get (other_amounts c.args.meanings.now.gathered.now c.args.params.now.list.now c.args.p.now) 0 =
    c.other_amount.ensures ∙ named_find (λ (x : NameAt). not_integer c.args.meanings.now.gathered.now (first_named c.args.params.now.list.now x.name)) c.args.p.now.attrs in
    first_of (search rules, grind (arith, common_steps))
