-- How the engine's entry of an ECALL stands to its behaviour: blocks of the arena for lists of bytes, and steps of the port for its runs.
use Rattle.std.specs.Prelude.{ℕ, ◌≡◌, ◌<◌, ◌^◌, ◌==◌, ◌⊎◌, if◌then◌else◌, true, false, List, [], ◌∷◌, ◌++◌, length, Option, Some, None, Result, Ok, Err, IsTrue, All}
use Rattle.sgx_base.specs.Bytes.{is_divisible}
use Rattle.sgx_base.specs.Ranges.{is_mapped}
use Rattle.sgx_base.specs.declared.Status.{Status}
use Rattle.sgx_base.specs.declared.TheConstants.Status.{SUCCESS}
use Rattle.edl_interface.specs.declared.Function.{Function}
use Rattle.edl_interface.specs.declared.Param.{Param}
use Rattle.edl_interface.specs.Parameters.{marshalled, is_out, address_in}
use Rattle.edl_interface.specs.Lengths.{length_in, copied_length}
use Rattle.word_port.specs.declared.Step.{Step}
use Rattle.word_port.specs.declared.Side.TheVariants.{Enclave}
use Rattle.word_port.specs.declared.Kind.TheVariants.{Load}
use Rattle.word_port.specs.declared.RunFull.TheVariants.{Steps}
use Rattle.word_port.specs.Interaction.{Interaction, ret, map_value}
use Rattle.word_port.specs.Limits.{progress}
use Rattle.word_port.specs.Port.{PortState, with_steps}
use Rattle.word_port.specs.Accesses.{loads}
use Rattle.word_port.specs.Runs.{Makes, Runs, StopsAt, StopsFull}
use Rattle.enclave_memory.specs.declared.Block.{Block}
use Rattle.enclave_memory.specs.Memory.{Memory, IsBlock, IsPush, room_of}
use Rattle.body_vm.specs.Places.{blocks_in, IsAbsent, IsHeld}
use Rattle.call_copy.specs.Copies.{copy_in, copy_out}
use Rattle.call_report.specs.declared.CallRecord.{CallRecord}
use Rattle.call_report.specs.RecordList.{RecordList, with_records}
use Rattle.call_machine.specs.declared.Machine.{Machine}
use Rattle.call_machine.specs.Context.{Context}
use Rattle.call_machine.specs.declared.entry.Entered.{Entered}
use Rattle.call_machine.specs.declared.entry.Entered.TheVariants.{Answered as answered, Refused}
use Rattle.call_machine.specs.Ecall.{Answered, shape_of, copies_in, entered}
use Rattle.call_machine.specs.Tcs.{TcsState, context_of, moment}
use Rattle.call_machine.specs.Thread.{entry_ocalls}

-- an entry's answer by its place and the records of the calls in it, or its refusal
abbrev pub ends_as : Entered → List CallRecord → Result Answered Status
ends_as (answered turn) made = Ok (record { turn = turn; records = made })
ends_as (Refused status) made = Err status

-- the entry was refused
abbrev pub IsRefusal : Entered → Type 0
IsRefusal (answered turn) = ⊥
IsRefusal (Refused status) = Unit {0}

-- the record of an entry that began so, once it has ended
abbrev pub ended_record : CallRecord → ℕ → ℕ → Entered → CallRecord
ended_record begun first last (answered turn) = record begun { status = SUCCESS; first = first; turn = turn; last = last }
ended_record begun first last (Refused status) = record begun { status = status; first = first; turn = last; last = last }

-- an entry was made that ended so, and the records of its calls are at the end of the list
abbrev pub EntryRuns : Machine → ℕ → ℕ → PortState → PortState → RecordList → RecordList → TcsState → TcsState → Entered → Type 0
EntryRuns m ordinal address old new before after first last how =
    (made : List CallRecord)
    × Runs (entered m (entry_ocalls m (context_of first)) (context_of first) ordinal address) (moment old before first) (moment new after last) (ends_as how made)
    × (after ≡ with_records before made) × (last ≡ record first { waits = last.waits })

-- a step that loads a word, by the enclave
abbrev pub IsEnclaveLoad : Step → Type 0
IsEnclaveLoad s = (s.side ≡ Enclave) × (s.kind ≡ Load)

-- the port has made loads by the enclave, and no other step
pub record OnlyLoads (old new : PortState) : Type 0 where
  pub steps : List Step
  pub grown : new ≡ with_steps old steps
  pub loads : All IsEnclaveLoad steps

-- the range that a marshalled parameter points to has a length of 64 bits, and is one of host memory where the pointer is not null
pub record IsPlaced (host : ℕ) (f : Function) (frame : List ℕ) (p : Param) : Type 0 where
  pub length_fits : length_in f frame p < 2 ^ 64
  pub mapped : (address_in frame p == 0) ≡ false → IsTrue (is_mapped host (address_in frame p) (length_in f frame p))

-- a copy that is there, or its refusal
abbrev pub some_copy : Result (List ℕ) Status → Result (Option (List ℕ)) Status
some_copy (Ok bytes) = Ok (Some bytes)
some_copy (Err status) = Err status

-- the copy of one parameter, or its refusal; null where its pointer or its length is 0
abbrev pub copy_of : Function → List ℕ → ℕ → Param → Interaction (Result (Option (List ℕ)) Status)
copy_of f frame room p =
    if copied_length f frame p == 0 then ret (Ok None)
    else map_value some_copy (copy_in (shape_of p.class) (address_in frame p) (length_in f frame p) room)

-- the block, null or not, has these bytes
abbrev pub HasBlock : Memory → Option Block → Option (List ℕ) → Type 0
HasBlock m None None = Unit {0}
HasBlock m (Some block) (Some bytes) = (number : ℕ) × IsBlock m block number bytes
HasBlock m _ _ = ⊥

-- the blocks have these bytes, one by one
abbrev pub HasBlocks : Memory → List (Option Block) → List (Option (List ℕ)) → Type 0
HasBlocks m [] [] = Unit {0}
HasBlocks m (block ∷ blocks) (bytes ∷ rest) = HasBlock m block bytes × HasBlocks m blocks rest
HasBlocks m _ _ = ⊥

-- the block was pushed with these bytes, or it is null and nothing changed
abbrev pub IsPushed : Memory → Memory → Option Block → Option (List ℕ) → Type 0
IsPushed before after None None = after ≡ before
IsPushed before after (Some block) (Some bytes) = IsPush before after block bytes
IsPushed before after _ _ = ⊥

-- a parameter was copied in, as this block or as null
pub record IsCopied (f : Function) (frame : List ℕ) (p : Param) (before after : Memory) (old new : PortState) (block : Option Block) : Type 0 where
  pub bytes : Option (List ℕ)
  pub pushed : IsPushed before after block bytes
  pub made : Makes (copy_of f frame (room_of before) p) old new (Ok bytes)

-- blocks were pushed, or none
pub record HasGrown (before after : Memory) : Type 0 where
  pub pushed : List (List ℕ)
  pub grown : after ≡ record before { blocks = before.blocks ++ pushed }

-- none of these is one of the first numbers, so many
abbrev pub AreBehind : ℕ → List (Option ℕ) → Type 0
AreBehind count numbers = (n : ℕ) → n < count → IsAbsent n numbers

-- the marshalled parameters were copied in, as these blocks behind those before
pub record AreCopied (f : Function) (frame : List ℕ) (before after : Memory) (old new : PortState) (blocks : List (Option Block)) : Type 0 where
  pub numbers : List (Option ℕ)
  pub held : IsHeld after blocks numbers
  pub behind : AreBehind (length before.blocks) numbers
  pub made : Makes (copies_in f frame (room_of before) (marshalled f)) old new (Ok (record { blocks = blocks_in after numbers; room = room_of after }))

-- a copy that is not null is as long as its parameter says, in whole elements
pub record IsCopyOf (f : Function) (frame : List ℕ) (p : Param) (bytes : List ℕ) : Type 0 where
  pub not_null : (address_in frame p == 0) ≡ false
  pub some : 0 < length bytes
  pub length_is : length bytes ≡ length_in f frame p
  pub whole : is_divisible (length bytes) (shape_of p.class).unit ≡ true

-- the first copies are those of these parameters, one by one
abbrev pub AreCopiesOf : Function → List ℕ → List Param → List (Option (List ℕ)) → Type 0
AreCopiesOf f frame [] copies = Unit {0}
AreCopiesOf f frame (p ∷ params) (None ∷ copies) = AreCopiesOf f frame params copies
AreCopiesOf f frame (p ∷ params) (Some bytes ∷ copies) = IsCopyOf f frame p bytes × AreCopiesOf f frame params copies
AreCopiesOf f frame _ _ = ⊥

-- a copy may be put back at its parameter's address
pub record FitsBack (host : ℕ) (frame : List ℕ) (p : Param) (bytes : List ℕ) : Type 0 where
  pub mapped : IsTrue (is_mapped host (address_in frame p) (length bytes))
  pub some : 0 < length bytes
  pub whole : is_divisible (length bytes) (shape_of p.class).unit ≡ true

-- and where it is null, nothing is put back
abbrev pub IsBack : ℕ → List ℕ → Param → Option (List ℕ) → Type 0
IsBack host frame p None = Unit {0}
IsBack host frame p (Some bytes) = FitsBack host frame p bytes

-- puts the copy of an `out` parameter back
abbrev pub copy_back : List ℕ → Param → Option (List ℕ) → Interaction (Unit {0})
copy_back frame p None = ret tt
copy_back frame p (Some bytes) = if is_out p.class then copy_out (shape_of p.class) (address_in frame p) bytes else ret tt
