use Rattle.std.proofs.Common.{◌≡◌, ap, length, arith}
use Rattle.enclave_memory.specs.Memory.{taken_by}
use Rattle.enclave_memory.proofs.Changes.{mark_is, size_is}
use Rattle.enclave_memory.proofs.arena.Arena.room.Goals as goal

pub returns-clause-room : goal.returns-clause-room
returns-clause-room c =
    let t : c.self.inside.taken ≡ taken_by c.args.self.now.blocks = mark_is c.self.inside.lengths.items c.self.inside.memory.bytes c.self.inside.taken _ c.args.self.now record { laid = c.self.invariant; seen = c.self.view_is } in
    let s : length c.self.inside.memory.bytes ≡ c.args.self.now.size = size_is c.self.inside.lengths.items c.self.inside.memory.bytes c.self.inside.taken _ c.args.self.now record { laid = c.self.invariant; seen = c.self.view_is } in
    let l : length c.bytes.result.now ≡ length c.self.inside.memory.bytes = ap (λ b. length b) c.bytes.ensures in
    omega (arith, t, s, l)

pub returns-clause-sum : goal.returns-clause-sum
returns-clause-sum c =
    let t : c.self.inside.taken ≡ taken_by c.args.self.now.blocks = mark_is c.self.inside.lengths.items c.self.inside.memory.bytes c.self.inside.taken _ c.args.self.now record { laid = c.self.invariant; seen = c.self.view_is } in
    let s : length c.self.inside.memory.bytes ≡ c.args.self.now.size = size_is c.self.inside.lengths.items c.self.inside.memory.bytes c.self.inside.taken _ c.args.self.now record { laid = c.self.invariant; seen = c.self.view_is } in
    let l : length c.bytes.result.now ≡ length c.self.inside.memory.bytes = ap (λ b. length b) c.bytes.ensures in
    omega (arith, t, s, l, c.self.invariant.within)
