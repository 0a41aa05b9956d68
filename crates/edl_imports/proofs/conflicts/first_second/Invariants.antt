use Rattle.std.proofs.Common.{◌≡◌, take}
use Rattle.edl_imports.specs.Conflicts.{first_second}
use Rattle.edl_imports.proofs.conflicts.first_second.Given as goal

abbrev pub invariant-loop-known : goal.invariant-loop-known
invariant-loop-known l = l.first ≡ first_second l.all l.initial.first (take l.known-index l.all)
