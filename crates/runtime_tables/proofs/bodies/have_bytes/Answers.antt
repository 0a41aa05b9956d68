use Rattle.std.proofs.Common.{ℕ, zero, suc, ◌<◌, List, [], ◌∷◌, Option, length, get_or, arith}
use Rattle.enclave_memory.specs.declared.Block.{Block}
use Rattle.enclave_memory.specs.Memory.{Memory}
use Rattle.body_vm.specs.Places.{IsNumbered, AreNumbered}
use Rattle.runtime_tables.proofs.bodies.have_bytes.Goals as goal

numbered_at : (m : Memory) (blocks : List (Option Block)) (numbers : List (Option ℕ)) (i : ℕ) (d : Option Block)
    → AreNumbered m blocks numbers → i < length blocks → (number : Option ℕ) × IsNumbered m (get_or blocks i d) number
numbered_at m [] numbers i d h w = absurd (omega (arith, w))
numbered_at m (b ∷ blocks) [] i d h w = absurd h
numbered_at m (b ∷ blocks) (n ∷ numbers) zero d h w = (n, h.0)
numbered_at m (b ∷ blocks) (n ∷ numbers) (suc i) d h w = numbered_at m blocks numbers i d h.1 (omega (arith, w))

pub has_bytes-requires : goal.has_bytes-requires
has_bytes-requires c =
    let (numbers, h) = c.requires in
    numbered_at c.args.arena.now c.args.blocks.now numbers c.loop-place.place _ h c.loop-place-test.true
