-- The block of a frame, from its push to its pop.
use Rattle.std.proofs.Common.{ℕ, ◌+◌, ◌≡◌, ◌≤◌, List, [], ◌∷◌, ◌++◌, length, replicate, slice_set, refl, ap, sym, ◌∙◌, arith}
use Rattle.std.proofs.lemmas.List.{length-replicate}
use Rattle.sgx_base.specs.Bytes.{rounded_size}
use Rattle.enclave_memory.specs.declared.Block.{Block}
use Rattle.enclave_memory.specs.Memory.{Memory, IsBlock, IsPush, taken_by}
use Rattle.enclave_memory.proofs.Blocks.{pushed_block, taken_by-append, taken_by-cons}
use Rattle.call_machine.specs.Entry.{HasGrown}

set_last : (xs : List (List ℕ)) (y z : List ℕ) → slice_set (xs ++ y ∷ []) (length xs) z ≡ xs ++ z ∷ []
set_last [] y z = refl
set_last (x ∷ xs) y z = ap (λ l. x ∷ l) (set_last xs y z)

-- a block that was pushed, and written since
pub record IsWrittenPush (before after : Memory) (block : Block) : Type 0 where
  pub bytes : List ℕ
  pub push : IsPush before after block bytes

pub written_push : (before between after : Memory) (block : Block) (zeros : List ℕ) → IsPush before between block zeros
    → ((number : ℕ) (first : List ℕ) → IsBlock between block number first
    → (bytes : List ℕ) × (length bytes ≡ length first) × (after ≡ record between { blocks = slice_set between.blocks number bytes }))
    → IsWrittenPush before after block
written_push before between after block zeros p w =
    let (bytes, count, written) = w (length before.blocks) zeros (pushed_block before between block zeros p) in
    record {
      bytes = bytes;
      push = record {
        pushed = written
            ∙ ap (λ (m : Memory). record m { blocks = slice_set m.blocks (length before.blocks) bytes }) p.pushed
            ∙ ap (λ (b : List (List ℕ)). record before { blocks = b }) (set_last before.blocks zeros bytes);
        starts = p.starts;
        length_is = p.length_is ∙ sym count;
      };
    }

-- it has grown by that block
pub push_grown : (before after : Memory) (block : Block) → IsWrittenPush before after block → HasGrown before after
push_grown before after block w = record { pushed = w.bytes ∷ []; grown = w.push.pushed }

-- the size of the arena stays
pub push_size : (before after : Memory) (block : Block) → IsWrittenPush before after block → after.size ≡ before.size
push_size before after block w = ap (λ (m : Memory). m.size) w.push.pushed

-- and no more than the largest frame is taken
pub push_taken : (before between after : Memory) (block : Block) (size : ℕ) → IsPush before between block (replicate size 0) → size ≤ 1024 → IsWrittenPush before after block
    → taken_by after.blocks ≤ taken_by before.blocks + 1024
push_taken before between after block size pushed small w =
    let count : length w.bytes ≡ size = sym w.push.length_is ∙ pushed.length_is ∙ length-replicate size 0 in
    let all : taken_by after.blocks ≡ taken_by (before.blocks ++ w.bytes ∷ []) = ap (λ (m : Memory). taken_by m.blocks) w.push.pushed in
    let sum : taken_by (before.blocks ++ w.bytes ∷ []) ≡ taken_by before.blocks + taken_by (w.bytes ∷ []) = taken_by-append before.blocks (w.bytes ∷ []) in
    let one : taken_by (w.bytes ∷ []) ≡ rounded_size (length w.bytes) + taken_by [] = taken_by-cons w.bytes [] in
    let none : taken_by [] ≡ 0 = refl in
    omega (arith, count, all, sum, one, none, small)
