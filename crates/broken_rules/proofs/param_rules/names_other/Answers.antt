use Rattle.std.proofs.Common.{◌∙◌, ap, ℕ, List}
use Rattle.edl_grammar.specs.declared.NameAt.{NameAt}
use Rattle.attr_terms.specs.Rules.{not_integer, first_named}
use Rattle.broken_rules.specs.Breaches.{holds_of}
use Rattle.broken_rules.proofs.param_rules.names_other.Goals as goal

pub returns-in-Some : goal.returns-in-Some
returns-in-Some c =
    let g = c.args.meanings.now.gathered.now in
    let params = c.args.params.now.list.now in
    c.is_no_integer.ensures ∙ ap (not_integer g) (c.named.ensures ∙ ap (λ (n : List ℕ). first_named params n) c.bytes.ensures)
    ∙ ap (holds_of (λ (x : NameAt). not_integer g (first_named params x.name))) c.in-Some.ensures
