-- How a body that was carried out over blocks of an arena stands to its behaviour.
use Rattle.std.specs.Prelude.{ℕ, ◌≡◌, List, [], ◌∷◌, length, Option, Some, option_map, slice_get}
use Rattle.edl_interface.specs.declared.Function.{Function}
use Rattle.edl_interface.specs.Parameters.{marshalled}
use Rattle.word_port.specs.Port.{PortState}
use Rattle.word_port.specs.Interaction.{Interaction}
use Rattle.word_port.specs.Runs.{Runs}
use Rattle.enclave_memory.specs.declared.Block.{Block}
use Rattle.enclave_memory.specs.Memory.{Memory, room_of}
use Rattle.body_vm.specs.Places.{blocks_in, IsAbsent}
use Rattle.call_report.specs.declared.CallRecord.{CallRecord}
use Rattle.call_report.specs.RecordList.{RecordList, with_records}
use Rattle.call_machine.specs.declared.Machine.{Machine}
use Rattle.call_machine.specs.Context.{Context}
use Rattle.call_machine.specs.Ecall.{Copies, Finished, interpret, body_over}
use Rattle.call_machine.specs.Entry.{HasBlocks}
use Rattle.call_machine.specs.Tcs.{TcsState, context_of, moment}
use Rattle.call_machine.specs.Thread.{body_ocalls}

-- the length of a block that is not null
abbrev pub block_length : Option (List ℕ) → Option ℕ
block_length block = option_map (λ bytes. length bytes) block

-- each of these blocks has one in its place that is as long, or null where it is null
abbrev pub KeepLengths : List (Option (List ℕ)) → List (Option (List ℕ)) → Type 0
KeepLengths [] later = Unit {0}
KeepLengths (block ∷ blocks) [] = ⊥
KeepLengths (block ∷ blocks) (now ∷ later) = (block_length now ≡ block_length block) × KeepLengths blocks later

-- the copies that the blocks of these numbers are, with the room that is left
abbrev pub copies_held : Memory → List (Option ℕ) → Copies
copies_held arena numbers = record { blocks = blocks_in arena numbers; room = room_of arena }

-- there is such an ECALL, of so many parameters, of which so many are marshalled
abbrev pub HasParameters : Machine → ℕ → ℕ → ℕ → Type 0
HasParameters m ordinal params blocks =
    (f : Function) × (slice_get m.interface.ecalls ordinal ≡ Some f) × (params ≡ length f.params) × (blocks ≡ length (marshalled f))

-- what the body of an ECALL does in a context, over the values of its parameters and the blocks of these numbers
abbrev pub body_on : Machine → Context → ℕ → List ℕ → Memory → List (Option ℕ) → Interaction Finished
body_on m cx ordinal values arena numbers = interpret m (body_ocalls m cx) cx (body_over m ordinal values (copies_held arena numbers))

-- a body was carried out that began with the blocks of these numbers; it gave this value and left these blocks, the first of which are
-- as long as before, and all others of the arena stay
pub record BodyRan (m : Machine) (ordinal : ℕ) (values : List ℕ) (numbers : List (Option ℕ)) (old new : PortState) (before after : RecordList)
    (first last : TcsState) (blocks : List (Option Block)) (value : ℕ) : Type 0 where
  pub bytes : List (Option (List ℕ))
  pub made : List CallRecord
  pub run : Runs (body_on m (context_of first) ordinal values first.arena numbers) (moment old before first) (moment new after last)
      (record { value = value; blocks = bytes; records = made })
  pub grown : after ≡ with_records before made
  pub have : HasBlocks last.arena blocks bytes
  pub lengths : KeepLengths (blocks_in first.arena numbers) bytes
  pub kept : last ≡ record first { arena = last.arena; waits = last.waits }
  pub size : last.arena.size ≡ first.arena.size
  pub others : (n : ℕ) (these : List ℕ) → slice_get first.arena.blocks n ≡ Some these → IsAbsent n numbers → slice_get last.arena.blocks n ≡ Some these
