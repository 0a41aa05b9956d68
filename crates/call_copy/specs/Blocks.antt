-- Blocks of an arena that get new bytes.
use Rattle.std.specs.Prelude.{ℕ, ◌≡◌, List, slice_set}
use Rattle.enclave_memory.specs.declared.Block.{Block}
use Rattle.enclave_memory.specs.Memory.{Memory, IsBlock}

-- the block has these bytes now, and the others are as before
abbrev pub IsSetTo : Memory → Memory → Block → List ℕ → Type 0
IsSetTo before after block bytes =
    (number : ℕ) (first : List ℕ) → IsBlock before block number first
    → after ≡ record before { blocks = slice_set before.blocks number bytes }
