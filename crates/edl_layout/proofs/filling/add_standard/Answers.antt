use Rattle.std.proofs.Common.{List, ℕ, ◌∙◌, ap, map, length}
use Rattle.std.specs.Str.{bytes_eq}
use denote.Ref.{Bor}
use Rattle.std.proofs.lemmas.Result.{IfOk-weaker}
use Rattle.edl_layout.specs.Filled.{CoversFirst}
use Rattle.edl_layout.specs.Meaning.{Standard, standard_types}
use Rattle.edl_layout.proofs.Covering.{covers_standard}
use Rattle.edl_layout.proofs.filling.add_standard.Goals as goal

pub returns-clause-covers : goal.returns-clause-covers
returns-clause-covers c =
    let g = c.args.types.now.gathered in
    let foreign = c.args.types.now.foreign in
    let names = c.as_slice.result.now in
    IfOk-weaker c.add_names.result (λ _. CoversFirst g foreign (λ name (n : Bor (List ℕ)). bytes_eq n.now name) names (length names) c.add_names.new.table)
    (λ _. CoversFirst g foreign (λ name (s : Standard). bytes_eq s.name name) standard_types (length standard_types) c.add_names.new.table)
    (λ _ h. covers_standard g foreign names c.add_names.new.table (ap (map (λ (n : Bor (List ℕ)). n.now)) c.as_slice.ensures ∙ c.standard_names-names.ensures) h) c.add_names.ensures.covers
