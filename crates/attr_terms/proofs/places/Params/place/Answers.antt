use Rattle.std.proofs.Common.{◌∙◌, ℕ, List, map}
use Rattle.edl_grammar.specs.declared.Declared.{Declared}
use Rattle.std.specs.Str.{bytes_eq}
use Rattle.attr_terms.proofs.PlaceLaws.{position-map}
use Rattle.attr_terms.proofs.places.Params.place.Goals as goal

pub returns : goal.returns
returns c =
    c.place.ensures (map (λ (p : Declared). p.name) c.args.self.now.list.now) (record { here = c.args.self.now.by_name })
    ∙ position-map (λ (p : Declared). p.name) (λ (n : List ℕ). bytes_eq n c.args.name.now) c.args.self.now.list.now
