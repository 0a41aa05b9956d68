use Rattle.std.proofs.Common.{◌≡◌, ◌++◌, drop}
use Rattle.edl_imports.specs.Conflicts.{functions_of}
use Rattle.edl_imports.proofs.conflicts.put_functions.Given as goal

abbrev pub invariant-loop-pick : goal.invariant-loop-pick
invariant-loop-pick l =
    l.known ++ functions_of l.files l.is_trusted (drop l.pick-index l.picks) ≡ l.initial.known ++ functions_of l.files l.is_trusted l.picks
