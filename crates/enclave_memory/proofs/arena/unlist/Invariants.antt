use Rattle.std.proofs.Common.{◌≡◌, vec_len, vec_capacity}
use Rattle.enclave_memory.proofs.Changes.{IsLeft}
use Rattle.enclave_memory.proofs.arena.unlist.Given as goal

abbrev pub invariant-loop-left : goal.invariant-loop-left
invariant-loop-left l = IsLeft l.initial.lengths.items l.lengths.items l.left l.mark × (vec_capacity l.lengths ≡ vec_capacity l.initial.lengths)

abbrev pub decreases-loop-left : goal.decreases-loop-left
decreases-loop-left l = vec_len l.lengths
