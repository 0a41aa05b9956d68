use Rattle.std.proofs.Common.{ℕ, ◌≡◌, ◌∙◌, ◌+◌, ◌≤◌, ap, sym, subst, length, vec_capacity, replicate, arith}
use Rattle.std.proofs.lemmas.List.{length-replicate}
use Rattle.enclave_memory.specs.Layout.{memory_of, IsLaidOut}
use Rattle.enclave_memory.proofs.Blocks.{write_is}
use Rattle.enclave_memory.proofs.Changes.{live_within, write_laid, zero_seen}
use Rattle.enclave_memory.proofs.arena.Arena.zero.Goals as goal

pub zero-requires : goal.zero-requires
zero-requires c =
    let w : c.args.block.at + c.args.block.length ≤ c.self.inside.taken = live_within c.self.inside.lengths.items c.self.inside.memory.bytes c.self.inside.taken _ c.args.self.now c.args.block record { laid = c.self.invariant; seen = c.self.view_is } c.requires in
    omega (arith, w, c.self.invariant.within)

pub invariant_of-self : goal.invariant_of-self
invariant_of-self c =
    let w : c.args.block.at + c.args.block.length ≤ c.self.inside.taken = live_within c.self.inside.lengths.items c.self.inside.memory.bytes c.self.inside.taken _ c.args.self.now c.args.block record { laid = c.self.invariant; seen = c.self.view_is } c.requires in
    let l : length {A = ℕ} (replicate c.args.block.length 0) ≡ c.args.block.length = length-replicate c.args.block.length 0 in
    let i : c.args.block.at + length {A = ℕ} (replicate c.args.block.length 0) ≤ c.self.inside.taken = omega (arith, w, l) in
    subst (λ b. IsLaidOut c.self.inside.lengths.items b c.self.inside.taken (vec_capacity c.self.inside.lengths)) (sym c.zero.ensures)
    (write_laid c.self.inside.lengths.items c.self.inside.memory.bytes c.self.inside.taken _ c.args.block.at (replicate c.args.block.length 0) c.self.invariant i)

pub returns-clause-number : goal.returns-clause-number
returns-clause-number c = λ number old b.
    ap (λ i. memory_of c.self.inside.lengths.items i) c.zero.ensures
    ∙ zero_seen c.self.inside.lengths.items c.self.inside.memory.bytes c.self.inside.taken _ c.args.self.now c.args.block number old record { laid = c.self.invariant; seen = c.self.view_is } b

pub returns-clause-written : goal.returns-clause-written
returns-clause-written c =
    let (number, old, b) = c.requires in
    write_is c.args.self.now _ c.args.block number old (replicate c.args.block.length 0) b (length-replicate c.args.block.length 0 ∙ b.length_is)
    (ap (λ i. memory_of c.self.inside.lengths.items i) c.zero.ensures
    ∙ zero_seen c.self.inside.lengths.items c.self.inside.memory.bytes c.self.inside.taken _ c.args.self.now c.args.block number old record { laid = c.self.invariant; seen = c.self.view_is } b)
