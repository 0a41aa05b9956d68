-- What a region owns and lends.
use Rattle.std.specs.Prelude.{ℕ, List}
use Rattle.std.specs.Borrow.{full_share, u8}
use Rattle.std_heap.specs.declared.Global.{Global}
use Rattle.std_heap.specs.contracts.GlobalAllocator.TheImpl.{ghosts}
use base.Fml.{Fml, Lft, fsep}
use denote.Array.{Array}
use denote.RawPtr.{Ptr, lies_at}
use denote.Struct.Lending.{lent_at}
use mir.Raw.{raw}
use mir.Syntax.{Ty, ty_array, ty_int, w8}

-- the heap
abbrev pub heap : Global
heap = record { memory = record { seal = tt } }

-- the right to give the block at a place back to the heap
abbrev pub right_to_free : Ty → Ptr → Fml
right_to_free τ p = ghosts.dealloc_token heap τ p

-- the type of a block of n bytes
abbrev pub block_of : ℕ → Ty
block_of n = raw (ty_array (ty_int w8) n)

-- n bytes at p, these, and the right to free their block
abbrev pub owned : Ptr → ℕ → List ℕ → Fml
owned p n bytes = fsep (lies_at (Array u8 n) full_share p bytes) (right_to_free (block_of n) p)

-- what a `&` to them holds: the bytes
abbrev pub lent : Ptr → ℕ → List ℕ → Lft → Fml
lent p n bytes = lent_at (Array u8 n) p bytes
