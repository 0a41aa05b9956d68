use Rattle.std.proofs.Common.{◌≡◌, ◌∙◌, ◌+◌, ◌≤◌, ap, length, slice_range, arith}
use Rattle.enclave_memory.proofs.Changes.{IsPlaced, placed, live_within, size_is}
use Rattle.enclave_memory.proofs.arena.Arena.bytes.Goals as goal

pub part-requires : goal.part-requires
part-requires c =
    let w : c.args.block.at + c.args.block.length ≤ c.self.inside.taken = live_within c.self.inside.lengths.items c.self.inside.memory.bytes c.self.inside.taken _ c.args.self.now c.args.block record { laid = c.self.invariant; seen = c.self.view_is } c.requires in
    let l : length c.bytes.result.now ≡ length c.self.inside.memory.bytes = ap (λ b. length b) c.bytes.ensures in
    omega (arith, w, l, c.self.invariant.within)

pub returns-clause-bytes : goal.returns-clause-bytes
returns-clause-bytes c = λ number bytes b.
    let p : IsPlaced c.self.inside.lengths.items c.self.inside.memory.bytes c.self.inside.taken c.args.block number bytes = placed c.self.inside.lengths.items c.self.inside.memory.bytes c.self.inside.taken _ c.args.self.now c.args.block number bytes record { laid = c.self.invariant; seen = c.self.view_is } b in
    c.part.ensures ∙ ap (λ l. slice_range l c.args.block.at (c.args.block.at + c.args.block.length)) c.bytes.ensures ∙ p.part

pub returns-clause-count : goal.returns-clause-count
returns-clause-count c =
    let (number, bytes, b) = c.requires in
    let p : IsPlaced c.self.inside.lengths.items c.self.inside.memory.bytes c.self.inside.taken c.args.block number bytes = placed c.self.inside.lengths.items c.self.inside.memory.bytes c.self.inside.taken _ c.args.self.now c.args.block number bytes record { laid = c.self.invariant; seen = c.self.view_is } b in
    let e : length c.part.result.now ≡ length bytes = ap (λ l. length l) (c.part.ensures ∙ ap (λ l. slice_range l c.args.block.at (c.args.block.at + c.args.block.length)) c.bytes.ensures ∙ p.part) in
    omega (arith, e, p.count)

pub returns-clause-within : goal.returns-clause-within
returns-clause-within c =
    let w : c.args.block.at + c.args.block.length ≤ c.self.inside.taken = live_within c.self.inside.lengths.items c.self.inside.memory.bytes c.self.inside.taken _ c.args.self.now c.args.block record { laid = c.self.invariant; seen = c.self.view_is } c.requires in
    let s : length c.self.inside.memory.bytes ≡ c.args.self.now.size = size_is c.self.inside.lengths.items c.self.inside.memory.bytes c.self.inside.taken _ c.args.self.now record { laid = c.self.invariant; seen = c.self.view_is } in
    omega (arith, w, s, c.self.invariant.within)
