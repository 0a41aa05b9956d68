use Rattle.std.proofs.Common.{◌≡◌, None, take}
use Rattle.broken_rules.proofs.TypeLaws.{first_file}
use Rattle.broken_rules.proofs.rules.broken_types.Given as goal

abbrev pub invariant-loop-number : goal.invariant-loop-number
invariant-loop-number l = first_file 0 (take l.number l.files) ≡ None
