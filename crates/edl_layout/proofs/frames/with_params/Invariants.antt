use Rattle.std.proofs.Common.{ℕ, List, Option}
use Rattle.edl_layout.specs.Shape.{Shape}
use Rattle.edl_layout.specs.declared.extents.FieldEnds.{FieldEnds}
use Rattle.edl_layout.specs.Frame.{plain_shape, param_fields}
use Rattle.edl_layout.specs.Pushed.{Pushes}
use Rattle.edl_layout.proofs.Pushing.{fields_from}
use Rattle.edl_layout.proofs.frames.with_params.Given as goal

abbrev pub invariant-loop-param : goal.invariant-loop-param
invariant-loop-param l =
    let fields : ℕ → ℕ → List (Option Shape) = fields_from (λ n. param_fields (plain_shape l.types.gathered l.types.foreign n) l.is_trusted) l.params in
    (after : Option FieldEnds) → Pushes (fields l.param-index) l.ends after → Pushes (fields 0) l.initial.ends after
