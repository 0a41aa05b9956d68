use Rattle.std.proofs.Common.{◌∙◌}
use Rattle.edl_layout.proofs.Covering.{zeros_of}
use Rattle.edl_layout.proofs.offsets.offsets_of.Goals as goal

pub returns-in_ok-vec-in-Union : goal.returns-in_ok-vec-in-Union
returns-in_ok-vec-in-Union c =
    rw c.in-Union.is (c.from_vec.ensures ∙ zeros_of c.in-Union.members c.len.result c.in_ok-vec-in-Union.field-0.items c.len.ensures (c.in_ok-vec-in-Union.ensures.items_if_clones_equal (λ y e. e)))
