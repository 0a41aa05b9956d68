use Rattle.std.proofs.Common.{◌≡◌, ◌++◌, drop}
use Rattle.edl_imports.specs.Conflicts.{types_from}
use Rattle.edl_imports.proofs.conflicts.types_known.Given as goal

abbrev pub invariant-loop-number : goal.invariant-loop-number
invariant-loop-number l = l.known ++ types_from l.number (drop l.number l.files) ≡ types_from 0 l.files
