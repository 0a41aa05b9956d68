use Rattle.std.proofs.Common.{◌≡◌, ◌∙◌, sym, ap, ℕ, List}
use Rattle.std.specs.Prelude.{position, is_some}
use Rattle.std.specs.List.{list_any}
use Rattle.std.specs.Str.{bytes_eq}
use Rattle.edl_grammar.specs.Files.{FunctionIn, trusted_of}
use Rattle.attr_terms.proofs.PlaceLaws.{is_some-position}
use Rattle.broken_rules.proofs.Firsts.{not_swap}
use Rattle.broken_rules.proofs.function_rules.is_untrusted.Goals as goal

pub returns : goal.returns
returns c =
    let trusted = trusted_of c.args.functions.now.meanings.gathered.now in
    let found : is_some c.ordinal.result ≡ list_any (λ (h : FunctionIn). bytes_eq h.decl.name c.args.name.now.name) trusted =
    ap is_some (c.ordinal.ensures ∙ ap (λ (n : List ℕ). position (λ (h : FunctionIn). bytes_eq h.decl.name n) trusted) c.bytes.ensures)
    ∙ is_some-position (λ (h : FunctionIn). bytes_eq h.decl.name c.args.name.now.name) trusted in
    not_swap c.is_none.result (list_any (λ (h : FunctionIn). bytes_eq h.decl.name c.args.name.now.name) trusted) (sym found ∙ c.is_none.ensures)
