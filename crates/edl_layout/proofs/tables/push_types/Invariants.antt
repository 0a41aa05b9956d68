use Rattle.std.proofs.Common.{◌≡◌, ◌++◌, map, take}
use Rattle.edl_layout.specs.Named.{seen}
use Rattle.edl_layout.proofs.Flat.{in_file}
use Rattle.edl_layout.proofs.tables.push_types.Given as goal

abbrev pub invariant-loop-decl : goal.invariant-loop-decl
invariant-loop-decl l = map seen l.types.items ≡ map seen l.initial.types.items ++ map (in_file l.file) (take l.decl-index l.decls)
