use Rattle.std.proofs.Common.{◌≡◌, ◌+◌, ◌≤◌, sym, subst, length, vec_capacity, replicate, arith}
use Rattle.sgx_base.specs.Bytes.{rounded_size}
use Rattle.enclave_memory.specs.Memory.{taken_by, IsPush}
use Rattle.enclave_memory.specs.Layout.{memory_of, IsLaidOut}
use Rattle.enclave_memory.proofs.Changes.{mark_is, size_is, listable_more, push_laid, push_seen}
use Rattle.enclave_memory.proofs.arena.Arena.push_block.Goals as goal

pub push_length-requires : goal.push_length-requires
push_length-requires c =
    let t : c.self.inside.taken ≡ taken_by c.args.self.now.blocks = mark_is c.self.inside.lengths.items c.self.inside.memory.bytes c.self.inside.taken _ c.args.self.now record { laid = c.self.invariant; seen = c.self.view_is } in
    let s : length c.self.inside.memory.bytes ≡ c.args.self.now.size = size_is c.self.inside.lengths.items c.self.inside.memory.bytes c.self.inside.taken _ c.args.self.now record { laid = c.self.invariant; seen = c.self.view_is } in
    let i : c.self.inside.taken + rounded_size c.args.length ≤ length c.self.inside.memory.bytes = omega (arith, t, s, c.room-room.ensures.sum, c.rounded.ensures, c.if-rounded-room.false) in
    listable_more c.self.inside.lengths.items c.self.inside.memory.bytes c.self.inside.taken _ c.args.length c.self.invariant c.requires i

pub invariant_of-self : goal.invariant_of-self
invariant_of-self c =
    let t : c.self.inside.taken ≡ taken_by c.args.self.now.blocks = mark_is c.self.inside.lengths.items c.self.inside.memory.bytes c.self.inside.taken _ c.args.self.now record { laid = c.self.invariant; seen = c.self.view_is } in
    let s : length c.self.inside.memory.bytes ≡ c.args.self.now.size = size_is c.self.inside.lengths.items c.self.inside.memory.bytes c.self.inside.taken _ c.args.self.now record { laid = c.self.invariant; seen = c.self.view_is } in
    let i : c.self.inside.taken + c.rounded-2.result ≤ length c.self.inside.memory.bytes = omega (arith, t, s, c.room-room.ensures.sum, c.rounded.ensures, c.rounded-2.ensures, c.if-rounded-room.false) in
    subst (λ l. IsLaidOut l c.self.inside.memory.bytes (c.self.inside.taken + c.rounded-2.result) (vec_capacity c.push_length.new.lengths)) (sym c.push_length.ensures.items)
    (push_laid c.self.inside.lengths.items c.self.inside.memory.bytes c.self.inside.taken _ _ c.args.length c.rounded-2.result c.self.invariant c.requires c.rounded-2.ensures i c.push_length.ensures.capacity)

pub returns-clause-pushed : goal.returns-clause-pushed
returns-clause-pushed c =
    let t : c.self.inside.taken ≡ taken_by c.args.self.now.blocks = mark_is c.self.inside.lengths.items c.self.inside.memory.bytes c.self.inside.taken _ c.args.self.now record { laid = c.self.invariant; seen = c.self.view_is } in
    let s : length c.self.inside.memory.bytes ≡ c.args.self.now.size = size_is c.self.inside.lengths.items c.self.inside.memory.bytes c.self.inside.taken _ c.args.self.now record { laid = c.self.invariant; seen = c.self.view_is } in
    let i : c.self.inside.taken + c.args.length ≤ length c.self.inside.memory.bytes = omega (arith, t, s, c.room-room.ensures.sum, c.if-length-room.false) in
    subst (λ l. IsPush c.args.self.now (memory_of l c.self.inside.memory.bytes) record { at = c.self.inside.taken; length = c.args.length } (replicate c.args.length 0)) (sym c.push_length.ensures.items)
    (push_seen c.self.inside.lengths.items c.self.inside.memory.bytes c.self.inside.taken _ c.args.length c.args.self.now record { laid = c.self.invariant; seen = c.self.view_is } i)

pub returns-clause-within : goal.returns-clause-within
returns-clause-within c =
    let t : c.self.inside.taken ≡ taken_by c.args.self.now.blocks = mark_is c.self.inside.lengths.items c.self.inside.memory.bytes c.self.inside.taken _ c.args.self.now record { laid = c.self.invariant; seen = c.self.view_is } in
    let s : length c.self.inside.memory.bytes ≡ c.args.self.now.size = size_is c.self.inside.lengths.items c.self.inside.memory.bytes c.self.inside.taken _ c.args.self.now record { laid = c.self.invariant; seen = c.self.view_is } in
    omega (arith, t, s, c.room-room.ensures.sum, c.if-length-room.false)
