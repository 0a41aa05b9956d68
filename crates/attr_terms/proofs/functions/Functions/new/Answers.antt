use Rattle.std.proofs.Common.{◌≡◌, ◌∙◌, sym, ap, ℕ, List, [], ◌∷◌, map, true, false}
use Rattle.std.proofs.Common.{refl}
use Rattle.std.specs.Prelude.{filter_map}
use Rattle.edl_grammar.specs.Files.{FunctionIn, trusted_of, untrusted_of}
use Rattle.attr_terms.specs.declared.functions.Taken.{Taken}
use Rattle.attr_terms.specs.Places.{place_in, TellsPlaces}
use Rattle.attr_terms.specs.Taken.{function_in, picked}
use Rattle.attr_terms.proofs.functions.Functions.new.Goals as goal

names_taken : (ts : List Taken) → map (λ t. t.decl.now.name) ts ≡ map (λ f. f.decl.name) (map function_in ts)
names_taken [] = refl
names_taken (t ∷ ts) = ap (λ (ns : List (List ℕ)). t.decl.now.name ∷ ns) (names_taken ts)

pub invariant_of-result : goal.invariant_of-result
invariant_of-result c =
    let side : map function_in c.in_ok-trusted.trusted.items ≡ trusted_of c.in_ok-meanings.meanings.gathered.now =
    c.in_ok-trusted.ensures ∙ ap (filter_map (picked true c.args.gathered.now)) c.as_slice.ensures ∙ ap trusted_of (sym c.in_ok-meanings.ensures) in
    let told : TellsPlaces c.in_ok-ordinals.ordinals (map (λ (t : Taken). t.decl.now.name) c.deref.result.now) = c.in_ok-ordinals.ensures in
    record {
      trusted_side = side;
      untrusted_side = c.in_ok-untrusted.ensures ∙ ap (filter_map (picked false c.args.gathered.now)) c.as_slice-2.ensures ∙ ap untrusted_of (sym c.in_ok-meanings.ensures);
      by_name = λ q. told.here q ∙ ap (place_in q) (ap (map (λ (t : Taken). t.decl.now.name)) c.deref.ensures.value ∙ names_taken c.in_ok-trusted.trusted.items ∙ ap (map (λ (f : FunctionIn). f.decl.name)) side);
    }
