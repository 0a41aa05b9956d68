use Rattle.std.proofs.Common.{ℕ, ◌*◌, List, Option, ◌∙◌, ap, refl}
use Rattle.std.specs.Prelude.{nat_lt}
use Rattle.edl_layout.specs.Ends.{kept}
use Rattle.edl_layout.specs.Shape.{elements}
use Rattle.edl_layout.specs.Faults.{max_size}
use Rattle.edl_layout.proofs.Meanings.{is_length_test}
use Rattle.edl_layout.proofs.frames.is_too_long.Goals as goal

pub returns : goal.returns
returns c =
    is_length_test c.args.types.now.gathered c.args.types.now.foreign c.args.declared.now c.element_size-size.result c.array_size.result (nat_lt max_size c.array_size.result) c.element_size-size.ensures
    (c.array_size.ensures ∙ ap (λ (dims : List (Option ℕ)). kept (c.element_size-size.result * elements dims)) c.as_slice.ensures)
    refl
