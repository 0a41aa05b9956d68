use Rattle.std.proofs.Common.{ℕ, ◌≡◌, ◌∙◌, ◌+◌, ◌-◌, ◌≤◌, ap, sym, subst, length, vec_capacity, replicate, arith}
use Rattle.std.proofs.lemmas.List.{length-replicate}
use Rattle.enclave_memory.specs.Layout.{memory_of, IsLaidOut}
use Rattle.enclave_memory.proofs.Changes.{live_within, write_laid, zero_from_seen}
use Rattle.enclave_memory.proofs.arena.Arena.zero_from.Goals as goal

pub zero-requires : goal.zero-requires
zero-requires c =
    let w : c.args.block.at + c.args.block.length ≤ c.self.inside.taken = live_within c.self.inside.lengths.items c.self.inside.memory.bytes c.self.inside.taken _ c.args.self.now c.args.block record { laid = c.self.invariant; seen = c.self.view_is } c.requires.live in
    omega (arith, w, c.requires.within, c.self.invariant.within)

pub invariant_of-self : goal.invariant_of-self
invariant_of-self c =
    let w : c.args.block.at + c.args.block.length ≤ c.self.inside.taken = live_within c.self.inside.lengths.items c.self.inside.memory.bytes c.self.inside.taken _ c.args.self.now c.args.block record { laid = c.self.invariant; seen = c.self.view_is } c.requires.live in
    let l : length {A = ℕ} (replicate (c.args.block.length - c.args.offset) 0) ≡ c.args.block.length - c.args.offset = length-replicate (c.args.block.length - c.args.offset) 0 in
    let i : (c.args.block.at + c.args.offset) + length {A = ℕ} (replicate (c.args.block.length - c.args.offset) 0) ≤ c.self.inside.taken = omega (arith, w, l, c.requires.within) in
    subst (λ b. IsLaidOut c.self.inside.lengths.items b c.self.inside.taken (vec_capacity c.self.inside.lengths)) (sym c.zero.ensures)
    (write_laid c.self.inside.lengths.items c.self.inside.memory.bytes c.self.inside.taken _ (c.args.block.at + c.args.offset) (replicate (c.args.block.length - c.args.offset) 0) c.self.invariant i)

pub returns : goal.returns
returns c = λ number old b.
    ap (λ i. memory_of c.self.inside.lengths.items i) c.zero.ensures
    ∙ zero_from_seen c.self.inside.lengths.items c.self.inside.memory.bytes c.self.inside.taken _ c.args.self.now c.args.block c.args.offset number old record { laid = c.self.invariant; seen = c.self.view_is } c.requires.within b
