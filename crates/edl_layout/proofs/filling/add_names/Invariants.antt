use Rattle.std.specs.Str.{bytes_eq}
use Rattle.edl_layout.specs.Filled.{Grows, CoversFirst}
use Rattle.edl_layout.proofs.filling.add_names.Given as goal

abbrev pub invariant-loop-i : goal.invariant-loop-i
invariant-loop-i l =
    Grows l.types.gathered l.types.foreign l.initial.table l.table
    × CoversFirst l.types.gathered l.types.foreign (λ name n. bytes_eq n.now name) l.names l.i l.table
