use Rattle.std.proofs.Common.{[], List, Option, subst}
use Rattle.std.specs.Prelude.{flat_map}
use Rattle.edl_grammar.specs.declared.Declared.{Declared}
use Rattle.edl_layout.specs.declared.extents.FieldEnds.{FieldEnds}
use Rattle.edl_layout.specs.Ends.{ends_of}
use Rattle.edl_layout.specs.Frame.{plain_shape, result_fields, param_fields}
use Rattle.edl_layout.specs.Pushed.{Pushes}
use Rattle.edl_layout.proofs.Pushing.{pushes_append}
use Rattle.edl_layout.proofs.frames.frame_ends.Goals as goal

pub returns : goal.returns
returns c =
    let g = c.args.types.now.gathered in
    let foreign = c.args.types.now.foreign in
    pushes_append (λ n. result_fields (plain_shape g foreign n) c.args.decl.now.result) (λ n. flat_map (param_fields (plain_shape g foreign n) c.args.is_trusted) c.args.decl.now.params) (ends_of []) c.in_ok-ends.ends c.with_params.result
    (subst (λ (o : Option FieldEnds). Pushes (λ n. result_fields (plain_shape g foreign n) c.args.decl.now.result) (ends_of []) o) c.in_ok-ends.was c.result_ends.ensures)
    (subst (λ (ps : List Declared). Pushes (λ n. flat_map (param_fields (plain_shape g foreign n) c.args.is_trusted) ps) c.in_ok-ends.ends c.with_params.result) c.as_slice.ensures c.with_params.ensures)
