use Rattle.edl_grammar.specs.Files.{types_of}
use Rattle.edl_layout.specs.Filled.{Grows, CoversFirst}
use Rattle.edl_layout.specs.Meaning.{is_named}
use Rattle.edl_layout.proofs.filling.add_declared.Given as goal

abbrev pub invariant-loop-number : goal.invariant-loop-number
invariant-loop-number l =
    Grows l.types.gathered l.types.foreign l.initial.table l.table
    × CoversFirst l.types.gathered l.types.foreign is_named (types_of l.types.gathered) l.number l.table
