use Rattle.std.proofs.Common.{◌∙◌, sym, ap}
use Rattle.edl_grammar.specs.declared.Declared.{Declared}
use Rattle.std.specs.Prelude.{option_and_then, slice_get}
use Rattle.std.specs.Str.{bytes_eq}
use Rattle.attr_terms.proofs.PlaceLaws.{found_at}
use Rattle.attr_terms.proofs.places.Params.named.Goals as goal

pub returns-in-Some : goal.returns-in-Some
returns-in-Some c =
    c.at.ensures
    ∙ ap (option_and_then (λ i. slice_get c.args.self.now.list.now i)) (sym c.in-Some.is ∙ c.place.ensures)
    ∙ sym (found_at (λ (p : Declared). bytes_eq p.name c.args.name.now) c.args.self.now.list.now)

pub returns-in-None : goal.returns-in-None
returns-in-None c =
    ap (option_and_then (λ i. slice_get c.args.self.now.list.now i)) (sym c.in-None.is ∙ c.place.ensures)
    ∙ sym (found_at (λ (p : Declared). bytes_eq p.name c.args.name.now) c.args.self.now.list.now)
