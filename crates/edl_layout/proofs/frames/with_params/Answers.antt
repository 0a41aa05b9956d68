use Rattle.std.proofs.Common.{Option, Some, None, sym, subst}
use Rattle.std.specs.Prelude.{flat_map}
use Rattle.edl_layout.specs.declared.extents.FieldEnds.{FieldEnds}
use Rattle.edl_layout.specs.Frame.{plain_shape, param_fields}
use Rattle.edl_layout.specs.Pushed.{Pushes}
use Rattle.edl_layout.proofs.Pushing.{pushes_turn, pushes_break, pushes_end}
use Rattle.edl_layout.proofs.frames.with_params.Goals as goal

pub returns-in_err-ends : goal.returns-in_err-ends
returns-in_err-ends c =
    let g = c.args.types.now.gathered in
    let foreign = c.args.types.now.foreign in
    subst (λ (o : Option FieldEnds). Pushes (λ n. flat_map (param_fields (plain_shape g foreign n) c.args.is_trusted) c.args.params.now) c.args.ends o) (sym c.from_residual.ensures)
    (c.loop-param.invariant None
    (pushes_break (λ n. param_fields (plain_shape g foreign n) c.args.is_trusted) c.args.params.now c.loop-param.param-index c.param-item.result c.param-item.result c.loop-param.ends c.loop-param-test.true c.param-item.is
    (subst (λ (o : Option FieldEnds). Pushes (λ n. param_fields (plain_shape g foreign n) c.args.is_trusted c.param-item.result) c.loop-param.ends o) c.in_err-ends.was c.with_param.ensures)))

pub loop-param-preserved : goal.loop-param-preserved
loop-param-preserved c after rest =
    let g = c.args.types.now.gathered in
    let foreign = c.args.types.now.foreign in
    c.loop-param.invariant after
    (pushes_turn (λ n. param_fields (plain_shape g foreign n) c.args.is_trusted) c.args.params.now c.loop-param.param-index c.param-item.result c.param-item.result c.loop-param.ends c.in_ok-ends.ends after c.loop-param-test.true c.param-item.is
    (subst (λ (o : Option FieldEnds). Pushes (λ n. param_fields (plain_shape g foreign n) c.args.is_trusted c.param-item.result) c.loop-param.ends o) c.in_ok-ends.was c.with_param.ensures)
    rest)

pub returns : goal.returns
returns c =
    let g = c.args.types.now.gathered in
    let foreign = c.args.types.now.foreign in
    c.loop-param.invariant (Some c.loop-param.ends) (pushes_end (λ n. param_fields (plain_shape g foreign n) c.args.is_trusted) c.args.params.now c.loop-param.param-index c.loop-param.ends c.loop-param-test.false)
