use Rattle.std.proofs.Common.{◌≡◌, ◌++◌, map, drop}
use Rattle.edl_grammar.specs.Files.{types_of, types_from}
use Rattle.edl_layout.specs.Named.{seen}
use Rattle.edl_layout.proofs.tables.push_all.Given as goal

abbrev pub invariant-loop-i : goal.invariant-loop-i
invariant-loop-i l = map seen l.types.items ++ types_from l.i (drop l.i l.gathered.files) ≡ types_of l.gathered
