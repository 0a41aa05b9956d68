use Rattle.std.proofs.Common.{◌≡◌, ◌∙◌, ap, not, map, filter, List, []}
use Rattle.std.specs.Prelude.{slice_get, unwrap_or}
use Rattle.std.specs.List.{list_any}
use Rattle.std.specs.Str.{bytes_eq}
use Rattle.edl_grammar.specs.declared.NameAt.{NameAt}
use Rattle.edl_grammar.specs.Files.{FunctionIn, trusted_of}
use Rattle.broken_rules.proofs.Firsts.{head_find}
use Rattle.broken_rules.proofs.function_rules.unknown_allowed.Goals as goal

pub returns-in-Some : goal.returns-in-Some
returns-in-Some c =
    let trusted = trusted_of c.args.functions.now.meanings.gathered.now in
    let names : c.as_slice.result.now ≡ unwrap_or c.args.f.now.allow [] = rw c.in-Some.is c.as_slice.ensures in
    c.unknown_among.ensures
    ∙ head_find (λ (x : NameAt). not (list_any (λ (h : FunctionIn). bytes_eq h.decl.name x.name) trusted)) (λ (x : NameAt). x.token) c.as_slice.result.now
    ∙ ap (λ (xs : List NameAt). slice_get (map (λ (x : NameAt). x.token) (filter (λ (x : NameAt). not (list_any (λ (h : FunctionIn). bytes_eq h.decl.name x.name) trusted)) xs)) 0) names
