-- The blocks of a body as blocks of an arena.
use Rattle.std.specs.Prelude.{ℕ, ◌≡◌, ◌≢◌, ◌≤◌, ◌⊎◌, List, [], ◌∷◌, length, Option, Some, None, slice_get, slice_set}
use Rattle.enclave_memory.specs.declared.Block.{Block}
use Rattle.enclave_memory.specs.Memory.{Memory, IsBlock, room_of}
use Rattle.body_vm.specs.State.{with_change}

-- an arena whose block of this number has other bytes
abbrev pub with_bytes : Memory → ℕ → List ℕ → Memory
with_bytes m number bytes = record m { blocks = slice_set m.blocks number bytes }

-- the bytes of the block of this number, null where there is none
abbrev pub bytes_at : Memory → Option ℕ → Option (List ℕ)
bytes_at m None = None
bytes_at m (Some number) = slice_get m.blocks number

-- the bytes of the blocks of these numbers
abbrev pub blocks_in : Memory → List (Option ℕ) → List (Option (List ℕ))
blocks_in m [] = []
blocks_in m (number ∷ numbers) = bytes_at m number ∷ blocks_in m numbers

-- the block is the live one of this number, or null where there is none
abbrev pub IsNumbered : Memory → Option Block → Option ℕ → Type 0
IsNumbered m None None = Unit {0}
IsNumbered m (Some block) (Some number) = (bytes : List ℕ) × IsBlock m block number bytes
IsNumbered m _ _ = ⊥

-- the blocks are those of these numbers, one by one
abbrev pub AreNumbered : Memory → List (Option Block) → List (Option ℕ) → Type 0
AreNumbered m [] [] = Unit {0}
AreNumbered m (block ∷ blocks) (number ∷ numbers) = IsNumbered m block number × AreNumbered m blocks numbers
AreNumbered m _ _ = ⊥

-- none of these is the number
abbrev pub IsAbsent : ℕ → List (Option ℕ) → Type 0
IsAbsent n [] = Unit {0}
IsAbsent n (number ∷ numbers) = (number ≢ Some n) × IsAbsent n numbers

-- no two of these are one number
abbrev pub AreApart : List (Option ℕ) → Type 0
AreApart [] = Unit {0}
AreApart (None ∷ numbers) = AreApart numbers
AreApart (Some n ∷ numbers) = IsAbsent n numbers × AreApart numbers

-- each block is the live one of its number or null, and no two places hold the same block
pub record IsHeld (m : Memory) (blocks : List (Option Block)) (numbers : List (Option ℕ)) : Type 0 where
  pub numbered : AreNumbered m blocks numbers
  pub apart : AreApart numbers

-- null, or a number past the first ones, so many
abbrev pub IsPast : ℕ → Option ℕ → Type 0
IsPast count None = Unit {0}
IsPast count (Some n) = count ≤ n

-- each place has its number still, or a block behind the first ones, so many, or null
abbrev pub AreBehind : ℕ → List (Option ℕ) → List (Option ℕ) → Type 0
AreBehind count [] [] = Unit {0}
AreBehind count (number ∷ numbers) (now ∷ later) = ((now ≡ number) ⊎ IsPast count now) × AreBehind count numbers later
AreBehind count _ _ = ⊥

-- each list has one in its place that is as long
abbrev pub AreAsLong : List (List ℕ) → List (List ℕ) → Type 0
AreAsLong before after = (n : ℕ) (bytes : List ℕ) → slice_get before n ≡ Some bytes
    → (now : List ℕ) × (slice_get after n ≡ Some now) × (length now ≡ length bytes)

-- the blocks of an arena have their places and lengths still, those without one of these numbers their bytes too, and
-- what is new lies behind all
pub record IsKept (before after : Memory) (numbers later : List (Option ℕ)) : Type 0 where
  pub size : after.size ≡ before.size
  pub lengths : AreAsLong before.blocks after.blocks
  pub others : (n : ℕ) (bytes : List ℕ) → slice_get before.blocks n ≡ Some bytes → IsAbsent n numbers
      → slice_get after.blocks n ≡ Some bytes
  pub behind : AreBehind (length before.blocks) numbers later

-- the block at a place, where it is not null, got the bytes that a change gives, and nothing else changed
pub record IsChanged (before after : Memory) (blocks : List (Option Block)) (numbers : List (Option ℕ)) (place : ℕ)
    (change : List ℕ → List ℕ) : Type 0 where
  pub held : IsHeld after blocks numbers
  pub kept : IsKept before after numbers numbers
  pub blocks_are : blocks_in after numbers ≡ with_change (blocks_in before numbers) place change
  pub room : room_of after ≡ room_of before
