use Rattle.std.specs.Str.{bytes_eq}
use Rattle.edl_layout.specs.Filled.{Grows, CoversFirst}
use Rattle.edl_layout.proofs.filling.add_foreign.Given as goal

abbrev pub invariant-loop-foreign : goal.invariant-loop-foreign
invariant-loop-foreign l =
    Grows l.types.gathered l.types.foreign l.initial.table l.table
    × CoversFirst l.types.gathered l.types.foreign (λ name t. bytes_eq t.name name) l.foreign-items l.foreign-index l.table
