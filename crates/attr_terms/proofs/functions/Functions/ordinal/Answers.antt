use Rattle.std.proofs.Common.{◌∙◌, ℕ, List, map}
use Rattle.std.specs.Str.{bytes_eq}
use Rattle.edl_grammar.specs.Files.{FunctionIn, trusted_of}
use Rattle.attr_terms.proofs.PlaceLaws.{position-map}
use Rattle.attr_terms.proofs.functions.Functions.ordinal.Goals as goal

pub returns : goal.returns
returns c =
    c.place.ensures (map (λ (f : FunctionIn). f.decl.name) (trusted_of c.args.self.now.meanings.gathered.now)) (record { here = c.args.self.now.by_name })
    ∙ position-map (λ (f : FunctionIn). f.decl.name) (λ (n : List ℕ). bytes_eq n c.args.name.now) (trusted_of c.args.self.now.meanings.gathered.now)
