use Rattle.std.proofs.Common.{[], Some, option_map, ◌∙◌, sym, ap, subst}
use Rattle.edl_layout.specs.declared.extents.FieldEnds.{FieldEnds}
use Rattle.edl_layout.specs.Ends.{shape_at, ends_of, ends_after}
use Rattle.edl_layout.specs.Frame.{plain_shape, is_returning, result_fields}
use Rattle.edl_layout.specs.Pushed.{Pushes}
use Rattle.edl_layout.proofs.Pushing.{pushes_one, pushes_result, pushes_no_result}
use Rattle.edl_layout.proofs.frames.result_ends.Goals as goal

pub returns-then-is_returning : goal.returns-then-is_returning
returns-then-is_returning c =
    pushes_result (λ n. plain_shape c.args.types.now.gathered c.args.types.now.foreign n c.args.written.now) (is_returning c.args.written.now) (ends_of []) c.with_field.result (sym c.is_returning.ensures ∙ c.if-is_returning.true)
    (pushes_one (λ n. plain_shape c.args.types.now.gathered c.args.types.now.foreign n c.args.written.now) (ends_of []) c.extent_of.result c.with_field.result c.extent_of.ensures
    (c.with_field.ensures ∙ ap (λ (a : FieldEnds). option_map (λ e. ends_after a (shape_at e)) c.extent_of.result) c.new-ends.ensures))

pub returns-else-is_returning : goal.returns-else-is_returning
returns-else-is_returning c =
    subst (λ (a : FieldEnds). Pushes (λ n. result_fields (plain_shape c.args.types.now.gathered c.args.types.now.foreign n) c.args.written.now) (ends_of []) (Some a)) (sym c.new-ends.ensures)
    (pushes_no_result (λ n. plain_shape c.args.types.now.gathered c.args.types.now.foreign n c.args.written.now) (is_returning c.args.written.now) (ends_of []) (sym c.is_returning.ensures ∙ c.if-is_returning.false))
