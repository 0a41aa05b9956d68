use Rattle.std.proofs.Common.{ℕ, List, length, replicate}
use Rattle.enclave_memory.specs.Memory.{IsBlock}
use Rattle.body_vm.proofs.WriteLaws.{IsPartly}
use Rattle.body_vm.proofs.blocks.fill_block.Given as goal

-- so many bytes are filled
abbrev pub invariant-loop-at : goal.invariant-loop-at
invariant-loop-at l = (number : ℕ) (bytes : List ℕ) → IsBlock l.initial.arena l.block number bytes → IsPartly l.initial.arena l.arena number l.at bytes (replicate (length bytes) l.byte)
