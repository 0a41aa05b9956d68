use Rattle.std.proofs.Common.{ℕ, List, ◌≢◌}
use Rattle.enclave_memory.specs.Memory.{IsBlock}
use Rattle.body_vm.specs.State.{overlay}
use Rattle.body_vm.proofs.WriteLaws.{IsPartly}
use Rattle.body_vm.proofs.blocks.copy_block.Given as goal

-- so many bytes are copied
abbrev pub invariant-loop-at : goal.invariant-loop-at
invariant-loop-at l = (number other : ℕ) (these those : List ℕ) → IsBlock l.initial.arena l.to number these → IsBlock l.initial.arena l.from other those → number ≢ other
    → IsPartly l.initial.arena l.arena number l.at these (overlay these those)
