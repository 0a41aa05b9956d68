use Rattle.std.proofs.Common.{◌∙◌, ◌+◌, ◌≤◌, ap, sym, subst, length, vec_capacity, arith}
use Rattle.sgx_base.specs.Bytes.{with_bytes_at}
use Rattle.enclave_memory.specs.Layout.{memory_of, IsLaidOut}
use Rattle.enclave_memory.proofs.Blocks.{write_is}
use Rattle.enclave_memory.proofs.Layouts.{length-with}
use Rattle.enclave_memory.proofs.Changes.{live_within, write_laid, write_seen}
use Rattle.enclave_memory.proofs.arena.Arena.write.Goals as goal

pub write-requires : goal.write-requires
write-requires c =
    let w : c.args.block.at + c.args.block.length ≤ c.self.inside.taken = live_within c.self.inside.lengths.items c.self.inside.memory.bytes c.self.inside.taken _ c.args.self.now c.args.block record { laid = c.self.invariant; seen = c.self.view_is } c.requires.live in
    omega (arith, w, c.requires.fits, c.self.invariant.within)

pub invariant_of-self : goal.invariant_of-self
invariant_of-self c =
    let w : c.args.block.at + c.args.block.length ≤ c.self.inside.taken = live_within c.self.inside.lengths.items c.self.inside.memory.bytes c.self.inside.taken _ c.args.self.now c.args.block record { laid = c.self.invariant; seen = c.self.view_is } c.requires.live in
    let i : (c.args.block.at + c.args.offset) + length c.args.bytes.now ≤ c.self.inside.taken = omega (arith, w, c.requires.fits) in
    subst (λ b. IsLaidOut c.self.inside.lengths.items b c.self.inside.taken (vec_capacity c.self.inside.lengths)) (sym c.write.ensures)
    (write_laid c.self.inside.lengths.items c.self.inside.memory.bytes c.self.inside.taken _ (c.args.block.at + c.args.offset) c.args.bytes.now c.self.invariant i)

pub returns-clause-number : goal.returns-clause-number
returns-clause-number c = λ number old b.
    ap (λ i. memory_of c.self.inside.lengths.items i) c.write.ensures
    ∙ write_seen c.self.inside.lengths.items c.self.inside.memory.bytes c.self.inside.taken _ c.args.self.now c.args.block c.args.offset c.args.bytes.now number old record { laid = c.self.invariant; seen = c.self.view_is } c.requires.fits b

pub returns-clause-written : goal.returns-clause-written
returns-clause-written c = λ number old b.
    let f : c.args.offset + length c.args.bytes.now ≤ length old = omega (arith, c.requires.fits, b.length_is) in
    write_is c.args.self.now _ c.args.block number old (with_bytes_at old c.args.offset c.args.bytes.now) b (length-with old c.args.offset c.args.bytes.now f)
    (ap (λ i. memory_of c.self.inside.lengths.items i) c.write.ensures
    ∙ write_seen c.self.inside.lengths.items c.self.inside.memory.bytes c.self.inside.taken _ c.args.self.now c.args.block c.args.offset c.args.bytes.now number old record { laid = c.self.invariant; seen = c.self.view_is } c.requires.fits b)
