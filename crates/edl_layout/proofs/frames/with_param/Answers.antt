use Rattle.std.proofs.Common.{◌∙◌, sym}
use Rattle.edl_layout.specs.Frame.{plain_shape, field_shape, is_measured}
use Rattle.edl_layout.proofs.Pushing.{pushes_measured, pushes_alone}
use Rattle.edl_layout.proofs.frames.with_param.Goals as goal

pub returns-then-is_measured : goal.returns-then-is_measured
returns-then-is_measured c =
    pushes_measured (λ n. field_shape (plain_shape c.args.types.now.gathered c.args.types.now.foreign n) c.args.declared.now) (is_measured c.args.is_trusted c.args.declared.now) c.args.ends c.in_ok-ends.ends
    c.field_of.result c.with_field-then-is_measured.result c.field_of.ensures (sym c.in_ok-ends.was ∙ c.with_field.ensures) (sym c.is_measured.ensures ∙ c.if-is_measured.true) c.with_field-then-is_measured.ensures

pub returns-else-is_measured : goal.returns-else-is_measured
returns-else-is_measured c =
    pushes_alone (λ n. field_shape (plain_shape c.args.types.now.gathered c.args.types.now.foreign n) c.args.declared.now) (is_measured c.args.is_trusted c.args.declared.now) c.args.ends c.in_ok-ends.ends
    c.field_of.result c.field_of.ensures (sym c.in_ok-ends.was ∙ c.with_field.ensures) (sym c.is_measured.ensures ∙ c.if-is_measured.false)
