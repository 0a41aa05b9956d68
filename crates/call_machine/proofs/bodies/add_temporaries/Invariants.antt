use Rattle.std.proofs.Common.{◌≡◌, ◌++◌, None, replicate, count_by, take}
use Rattle.call_machine.specs.Ecall.{is_temp}
use Rattle.call_machine.proofs.bodies.add_temporaries.Given as goal

-- a null block for each temporary one so far
abbrev pub invariant-loop-action : goal.invariant-loop-action
invariant-loop-action l = l.blocks.items ≡ l.initial.blocks.items ++ replicate (count_by is_temp (take l.action-index l.action-items)) None
