use Rattle.std.proofs.Common.{◌≡◌, ◌++◌, drop}
use Rattle.std.specs.Prelude.{filter_map}
use Rattle.edl_imports.specs.Conflicts.{type_known}
use Rattle.edl_imports.proofs.conflicts.put_types.Given as goal

abbrev pub invariant-loop-decl : goal.invariant-loop-decl
invariant-loop-decl l =
    l.known ++ filter_map (type_known l.file) (drop l.decl-index l.types) ≡ l.initial.known ++ filter_map (type_known l.file) l.types
