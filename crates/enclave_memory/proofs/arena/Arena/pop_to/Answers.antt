use Rattle.std.proofs.Common.{◌≡◌, ◌∙◌, ◌-◌, ◌≤◌, min, ap, sym, subst, length, vec_capacity, take, replicate, arith}
use Rattle.std.proofs.lemmas.List.{take_min}
use Rattle.sgx_base.specs.Bytes.{with_bytes_at}
use Rattle.enclave_memory.specs.Layout.{taken_in, memory_of, IsLaidOut}
use Rattle.enclave_memory.proofs.Layouts.{length-blocks}
use Rattle.enclave_memory.proofs.Changes.{marked, mark_within, pop_laid, pop_seen}
use Rattle.enclave_memory.proofs.arena.Arena.pop_to.Goals as goal

pub overflow_sub-self-inside : goal.overflow_sub-self-inside
overflow_sub-self-inside c =
    let (k, e) = c.requires in
    let m : c.args.mark ≡ taken_in (take k c.self.inside.lengths.items) = marked c.self.inside.lengths.items c.self.inside.memory.bytes c.self.inside.taken _ c.args.self.now c.args.mark k record { laid = c.self.invariant; seen = c.self.view_is } e in
    mark_within c.self.inside.lengths.items c.self.inside.memory.bytes c.self.inside.taken _ c.args.mark k c.self.invariant m

pub zero-requires : goal.zero-requires
zero-requires c =
    let (k, e) = c.requires in
    let m : c.args.mark ≡ taken_in (take k c.self.inside.lengths.items) = marked c.self.inside.lengths.items c.self.inside.memory.bytes c.self.inside.taken _ c.args.self.now c.args.mark k record { laid = c.self.invariant; seen = c.self.view_is } e in
    let w : c.args.mark ≤ c.self.inside.taken = mark_within c.self.inside.lengths.items c.self.inside.memory.bytes c.self.inside.taken _ c.args.mark k c.self.invariant m in
    omega (arith, w, c.self.invariant.within)

pub invariant_of-self : goal.invariant_of-self
invariant_of-self c =
    let (k, e) = c.requires in
    let m : c.args.mark ≡ taken_in (take k c.self.inside.lengths.items) = marked c.self.inside.lengths.items c.self.inside.memory.bytes c.self.inside.taken _ c.args.self.now c.args.mark k record { laid = c.self.invariant; seen = c.self.view_is } e in
    let n : take (min k (length c.self.inside.lengths.items)) c.self.inside.lengths.items ≡ take k c.self.inside.lengths.items = take_min k c.self.inside.lengths.items in
    let w : min k (length c.self.inside.lengths.items) ≤ length c.self.inside.lengths.items = omega arith in
    let l : c.unlist.new.lengths.items ≡ take k c.self.inside.lengths.items = c.unlist.ensures.left (min k (length c.self.inside.lengths.items)) w (m ∙ ap (λ i. taken_in i) (sym n)) ∙ n in
    subst (λ i. IsLaidOut i c.zero.new.self.bytes c.args.mark (vec_capacity c.unlist.new.lengths)) (sym l)
    (subst (λ i. IsLaidOut (take k c.self.inside.lengths.items) i c.args.mark (vec_capacity c.unlist.new.lengths)) (sym c.zero.ensures)
    (subst (λ i. IsLaidOut (take k c.self.inside.lengths.items) (with_bytes_at c.self.inside.memory.bytes c.args.mark (replicate (c.self.inside.taken - c.args.mark) 0)) c.args.mark i) (sym c.unlist.ensures.capacity)
    (pop_laid c.self.inside.lengths.items c.self.inside.memory.bytes c.self.inside.taken _ c.args.mark k c.self.invariant m)))

pub returns : goal.returns
returns c = λ k h e.
    let m : c.args.mark ≡ taken_in (take k c.self.inside.lengths.items) = marked c.self.inside.lengths.items c.self.inside.memory.bytes c.self.inside.taken _ c.args.self.now c.args.mark k record { laid = c.self.invariant; seen = c.self.view_is } e in
    let n : length c.self.inside.lengths.items ≡ length c.args.self.now.blocks = sym (length-blocks c.self.inside.lengths.items c.self.inside.memory.bytes) ∙ ap (λ a. length a.blocks) c.self.view_is in
    let w : k ≤ length c.self.inside.lengths.items = omega (arith, h, n) in
    ap (λ i. memory_of i c.zero.new.self.bytes) (c.unlist.ensures.left k w m)
    ∙ ap (λ i. memory_of (take k c.self.inside.lengths.items) i) c.zero.ensures
    ∙ pop_seen c.self.inside.lengths.items c.self.inside.memory.bytes c.self.inside.taken _ c.args.self.now c.args.mark k record { laid = c.self.invariant; seen = c.self.view_is } m
