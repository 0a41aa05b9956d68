use Rattle.std.proofs.Common.{◌≡◌, ◌∙◌, sym, ap, not, ℕ, List}
use Rattle.std.specs.Prelude.{position, is_some}
use Rattle.std.specs.List.{list_any}
use Rattle.std.specs.Str.{bytes_eq}
use Rattle.edl_grammar.specs.declared.Declared.{Declared}
use Rattle.edl_grammar.specs.declared.NameAt.{NameAt}
use Rattle.attr_terms.proofs.PlaceLaws.{is_some-position}
use Rattle.broken_rules.specs.Breaches.{holds_of}
use Rattle.broken_rules.proofs.Firsts.{not_swap}
use Rattle.broken_rules.proofs.param_rules.names_none.Goals as goal

pub returns-in-Some : goal.returns-in-Some
returns-in-Some c =
    let params = c.args.params.now.list.now in
    let found : is_some c.place.result ≡ list_any (λ (q : Declared). bytes_eq q.name c.in-Some.name.now.name) params =
    ap is_some (c.place.ensures ∙ ap (λ (n : List ℕ). position (λ (q : Declared). bytes_eq q.name n) params) c.bytes.ensures)
    ∙ is_some-position (λ (q : Declared). bytes_eq q.name c.in-Some.name.now.name) params in
    not_swap c.is_none.result (list_any (λ (q : Declared). bytes_eq q.name c.in-Some.name.now.name) params) (sym found ∙ c.is_none.ensures)
    ∙ ap (holds_of (λ (x : NameAt). not (list_any (λ (q : Declared). bytes_eq q.name x.name) params))) c.in-Some.ensures
