-- What comes back after an OCALL: its return, and the bytes of its buffers.
use Rattle.std.specs.Prelude.{◌≡◌, ℕ, ◌+◌, ◌≤◌, ◌&&◌, ◌==◌, not, true, if◌then◌else◌, List, length, slice_set, Option, Some, None}
use Rattle.edl_interface.specs.declared.Class.{Class}
use Rattle.edl_interface.specs.declared.Function.{Function}
use Rattle.edl_interface.specs.Parameters.{marshalled, return_size, is_out, is_text, unit_of}
use Rattle.word_port.specs.declared.Side.TheVariants.{Enclave}
use Rattle.word_port.specs.Port.{PortState}
use Rattle.word_port.specs.Interaction.{Interaction, ret, and_then, map_value}
use Rattle.word_port.specs.Accesses.{loads}
use Rattle.word_port.specs.Runs.{Makes}
use Rattle.enclave_memory.specs.declared.Block.{Block}
use Rattle.enclave_memory.specs.declared.Arg.{Arg}
use Rattle.enclave_memory.specs.declared.Arg.TheVariants.{Bytes}
use Rattle.enclave_memory.specs.Arguments.{Passed, arguments_in}
use Rattle.enclave_memory.specs.Memory.{Memory, IsBlock, IsLive}
use Rattle.ocall_frames.specs.Contents.{buffers_with}
use Rattle.ocall_frames.specs.Frames.{Reply, buffer_loads, return_value, read_reply, block_after, IsArenaAfter}

-- the loads of the return, and then of the buffers of these contents, of a frame at this address
abbrev pub reply_with : Function → List (List ℕ) → ℕ → Interaction Reply
reply_with f contents at =
    and_then (loads Enclave at (return_size f)) (λ returned.
    map_value (λ loaded. record { value = return_value f returned; loaded = loaded }) (buffer_loads (buffers_with
    (at + f.frame_size) f.params contents)))

-- the loads of a buffer of so many bytes, where it is copied back
abbrev pub buffer_load : Class → ℕ → ℕ → Interaction (Option (List ℕ))
buffer_load class at count = if is_out class && not (count == 0) then map_value (λ these. Some these)
    (loads Enclave at count) else ret None

-- so many bytes of a live block, and of a string a unit at least
abbrev pub IsPartOf : Memory → Class → Block → ℕ → Type 0
IsPartOf m class b count = IsLive m b × (count ≤ b.length) × (is_text class ≡ true → unit_of class ≤ count)

-- the same of an argument; a number and null have none
abbrev pub IsPartOfArgument : Memory → Class → Arg → ℕ → Type 0
IsPartOfArgument m class (Bytes (Some b)) count = IsPartOf m class b count
IsPartOfArgument m class _ count = count ≡ 0

-- the block has what came back, as long as before, and all other blocks stay
abbrev pub IsBackIn : Class → Block → Option (List ℕ) → Memory → Memory → Type 0
IsBackIn class b these before after = (place : ℕ) (block : List ℕ) → IsBlock before b place block
    → (length (block_after class these block) ≡ length block) × (after
    ≡ record before { blocks = slice_set before.blocks place (block_after class these block) })

-- the same of an argument's block; for a number and null all blocks stay
abbrev pub IsBack : Class → Arg → Option (List ℕ) → Memory → Memory → Type 0
IsBack class (Bytes (Some b)) these before after = IsBackIn class b these before after
IsBack class _ these before after = after ≡ before

-- the reply was loaded, and its bytes came back into the blocks that were handed over
pub record IsReplied (f : Function) (passed : List Passed) (frame : ℕ) (old new : PortState) (before after : Memory)
    (value : ℕ) : Type 0 where
  pub reply : Reply
  pub makes : Makes (read_reply f (arguments_in before passed) frame) old new reply
  pub value_is : value ≡ reply.value
  pub arena_is : IsArenaAfter (marshalled f) passed reply.loaded before after

-- each block is where it was, and as long as it was
pub record KeepsBlocks (before now : Memory) : Type 0 where
  pub size : now.size ≡ before.size
  pub blocks : (b : Block) (place : ℕ) (block : List ℕ) → IsBlock before b place block
      → (cur : List ℕ) × IsBlock now b place cur × (length cur ≡ length block)
