use Rattle.std.proofs.Common.{◌≡◌, [], ◌∷◌, length}
use Rattle.edl_interface.specs.declared.Function.{Function}
use Rattle.edl_interface.specs.declared.Interface.{Interface}
use Rattle.bridge_program.specs.Entry.{MayEnter}
use Rattle.bridge_program.specs.Standing.{IsInHost}
use Rattle.runtime_tables.proofs.bridges.nested.Given as goal

-- so many entries, in the last of which the first OCALL is in progress
abbrev pub invariant-loop : goal.invariant-loop
invariant-loop l = (length l.stack ≡ l.counter) × IsInHost l.stack × ((interface : Interface) (o : Function) → interface.ocalls ≡ o ∷ [] → MayEnter interface l.stack)
