-- How an arena keeps its blocks in one list of bytes.
use Rattle.std.specs.Prelude.{ℕ, ◌≡◌, ◌<◌, ◌≤◌, ◌-◌, ◌/◌, List, [], ◌∷◌, length, take, drop, sum_by, replicate, All}
use Rattle.sgx_base.specs.Bytes.{rounded_size}
use Rattle.enclave_memory.specs.Memory.{Memory}

-- the blocks of these lengths, one after another, each at a multiple of 16
abbrev pub blocks_in : List ℕ → List ℕ → List (List ℕ)
blocks_in [] bytes = []
blocks_in (n ∷ lengths) bytes = take n bytes ∷ blocks_in lengths (drop (rounded_size n) bytes)

-- how many bytes blocks of these lengths take
abbrev pub taken_in : List ℕ → ℕ
taken_in lengths = sum_by (λ n. rounded_size n) lengths

-- the arena that the bytes are, with blocks of these lengths
abbrev pub memory_of : List ℕ → List ℕ → Memory
memory_of lengths bytes = record { size = length bytes; blocks = blocks_in lengths bytes }

-- the blocks lie within the bytes and none is empty, all behind them is zero, and there is room to list as many blocks as fit
pub record IsLaidOut (lengths bytes : List ℕ) (taken listable : ℕ) : Type 0 where
  pub limit : length bytes ≤ 65536
  pub taken_is : taken ≡ taken_in lengths
  pub within : taken ≤ length bytes
  pub filled : All (λ n. 0 < n) lengths
  pub rest_is : drop taken bytes ≡ replicate (length bytes - taken) 0
  pub listed : length bytes / 16 ≤ listable
