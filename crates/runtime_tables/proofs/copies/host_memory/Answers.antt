use Rattle.std.proofs.Common.{ℕ, arith}
use Rattle.std.proofs.lemmas.List.{get_or-replicate}
use Rattle.runtime_tables.proofs.copies.host_memory.Goals as goal

pub new-requires-clause-bytes : goal.new-requires-clause-bytes
new-requires-clause-bytes c = λ k h.
    let z = get_or-replicate {A = ℕ} 64 k 0 0 h in
    omega (arith, z)
