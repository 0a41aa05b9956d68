use Rattle.std.proofs.Common.{◌∙◌, ap, List}
use Rattle.std.specs.List.{flat_map}
use Rattle.std.specs.Prelude.{slice_get}
use Rattle.edl_grammar.specs.declared.TypeDecl.{TypeDecl}
use Rattle.attr_terms.specs.Rules as rules
use Rattle.broken_rules.proofs.type_rules.broken_type.Goals as goal

pub returns : goal.returns
returns c =
    c.in_ok-broken.ensures (rules.type_names c.args.tree.now) (rules.enumerator_names c.args.tree.now) c.in_ok-types.ensures c.in_ok-values.ensures
    ∙ ap (λ (ts : List TypeDecl). slice_get (flat_map (λ t. rules.broken_in c.args.file (rules.type_rows_in (rules.type_names c.args.tree.now) (rules.enumerator_names c.args.tree.now) t)) ts) 0) c.as_slice.ensures
