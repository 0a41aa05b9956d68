-- An entry that was admitted: its frame and its parameters are copied, and its body has not begun.
use Rattle.std.specs.Prelude.{ℕ, ◌≡◌, ◌≤◌, ◌<◌, ◌*◌, List, [], ◌∷◌, length, Option, Some, None, Result, Err, slice_get, IsTrue}
use Rattle.sgx_base.specs.Ranges.{is_mapped}
use Rattle.sgx_base.specs.declared.Status.{Status}
use Rattle.edl_interface.specs.declared.Function.{Function}
use Rattle.edl_interface.specs.Parameters.{marshalled, return_size}
use Rattle.word_port.specs.declared.RunFull.{RunFull}
use Rattle.word_port.specs.Interaction.{Interaction, ret}
use Rattle.word_port.specs.Port.{PortState}
use Rattle.word_port.specs.Runs.{Leads}
use Rattle.enclave_memory.specs.declared.Block.{Block}
use Rattle.enclave_memory.specs.Memory.{Memory, IsBlock, taken_by, room_of}
use Rattle.body_vm.specs.Places.{blocks_in, IsHeld}
use Rattle.call_copy.specs.Stops.{IsCutShort}
use Rattle.call_machine.specs.declared.Machine.{Machine}
use Rattle.call_machine.specs.declared.admission.Admitted.{Admitted}
use Rattle.call_machine.specs.declared.admission.Marks.{Marks}
use Rattle.call_machine.specs.Bodies.{copies_held}
use Rattle.call_machine.specs.Context.{Context}
use Rattle.call_machine.specs.Ecall.{Ocalls, Answered, Copies, entered, admitted_entry, loaded_entry, body_and_answer}
use Rattle.call_machine.specs.Entry.{AreBehind, AreCopiesOf, HasGrown}
use Rattle.call_machine.specs.Refusal.{AreAllowed}
use Rattle.call_machine.specs.Tcs.{TcsState, context_of}

-- what an entry does, or its rest, where this is what OCALLs do, in a context
abbrev pub EntryPart : Type 0
EntryPart = Ocalls → Context → Interaction (Result Answered Status)

-- it ends in a refusal
abbrev pub refusal : Status → EntryPart
refusal status ocalls cx = ret (Err status)

-- an entry whose frame was loaded
abbrev pub loaded_by : Machine → ℕ → ℕ → Function → List ℕ → EntryPart
loaded_by m ordinal address f fields ocalls cx = loaded_entry m ocalls cx ordinal address f fields

-- an entry that its table, stack and frame address allow
abbrev pub admitted_by : Machine → ℕ → ℕ → Function → EntryPart
admitted_by m ordinal address f ocalls cx = admitted_entry m ocalls cx ordinal address f

-- its body over these fields and copies, and its answer
abbrev pub body_by : Machine → ℕ → ℕ → Function → List ℕ → Copies → EntryPart
body_by m ordinal address f fields copies ocalls cx = body_and_answer m ocalls cx ordinal f address fields copies

-- with this room its steps lead to this rest, whatever OCALLs do
abbrev pub EntryLeads : EntryPart → ℕ → PortState → PortState → EntryPart → Type 0
EntryLeads entry room old new rest = (ocalls : Ocalls) (cx : Context) → cx.room ≡ room → Leads (entry ocalls cx) old new (rest ocalls cx)

-- with this room the log becomes full in it, whatever OCALLs do
abbrev pub EntryIsCut : EntryPart → ℕ → PortState → PortState → RunFull → Type 0
EntryIsCut entry room old new full = (ocalls : Ocalls) (cx : Context) → cx.room ≡ room → IsCutShort (entry ocalls cx) old new full

-- the block of a frame's copy has these bytes; a function without a frame has no block, and no bytes of one
abbrev pub HasFields : Memory → Option Block → List ℕ → Type 0
HasFields frames None fields = fields ≡ []
HasFields frames (Some block) fields = (number : ℕ) × IsBlock frames block number fields

-- an entry, or its rest, has come to its body: its fields allowed it, and its parameters were copied as these blocks behind those before
pub record AreCopiesTaken (m : Machine) (entry : EntryPart) (ordinal address : ℕ) (f : Function) (fields : List ℕ) (before now : Memory)
    (old new : PortState) (blocks : List (Option Block)) : Type 0 where
  pub numbers : List (Option ℕ)
  pub leads : EntryLeads entry (room_of before) old new (body_by m ordinal address f fields (copies_held now numbers))
  pub allowed : AreAllowed m.script.settings.host f fields
  pub held : IsHeld now blocks numbers
  pub behind : AreBehind (length before.blocks) numbers
  pub count : length blocks ≡ length (marshalled f)
  pub copies : AreCopiesOf f fields (marshalled f) (blocks_in now numbers)
  pub grown : HasGrown before now

-- so for an entry that table, stack and frame address allow, whose frame was copied as this block
pub record IsTaken (m : Machine) (ordinal address : ℕ) (f : Function) (frames later before now : Memory) (old new : PortState)
    (block : Option Block) (blocks : List (Option Block)) : Type 0 where
  pub fields : List ℕ
  pub has_fields : HasFields later block fields
  pub frames_grown : HasGrown frames later
  pub taken : AreCopiesTaken m (admitted_by m ordinal address f) ordinal address f fields before now old new blocks

-- an entry of this ordinal lies on what there was before: it is the latest on the call stack, and its blocks are behind all others, from the marks on
pub record LiesOn (before now : TcsState) (ordinal : ℕ) (marks : Marks) : Type 0 where
  pub grown : now ≡ record before {
    stack = record { ordinal = ordinal; ocall = None } ∷ before.stack;
    frames = now.frames;
    arena = now.arena;
    waits = now.waits;
  }
  pub frames : HasGrown before.frames now.frames
  pub arena : HasGrown before.arena now.arena
  pub frames_mark : marks.frames ≡ taken_by before.frames.blocks
  pub arena_mark : marks.arena ≡ taken_by before.arena.blocks
  pub least : taken_by before.frames.blocks ≤ 1024 * length before.stack

-- the steps of an entry up to its body were made, whatever OCALLs do: the frame and the marshalled parameters were copied
pub record IsAdmitted (m : Machine) (ordinal address : ℕ) (old new : PortState) (before now : TcsState) (admitted : Admitted)
    (blocks : List (Option Block)) : Type 0 where
  pub found : slice_get m.interface.ecalls ordinal ≡ Some admitted.function.now
  pub fields : List ℕ
  pub numbers : List (Option ℕ)
  pub leads : (ocalls : Ocalls) → Leads (entered m ocalls (context_of before) ordinal address) old new
      (body_and_answer m ocalls (context_of before) ordinal admitted.function.now address fields (copies_held now.arena numbers))
  pub mapped : IsTrue (is_mapped m.script.settings.host address (return_size admitted.function.now))
  pub allowed : AreAllowed m.script.settings.host admitted.function.now fields
  pub has_fields : HasFields now.frames admitted.fields fields
  pub held : IsHeld now.arena blocks numbers
  pub behind : AreBehind (length before.arena.blocks) numbers
  pub count : length blocks ≡ length (marshalled admitted.function.now)
  pub copies : AreCopiesOf admitted.function.now fields (marshalled admitted.function.now) (blocks_in now.arena numbers)
  pub lies : LiesOn before now ordinal admitted.marks
  pub waits : now.waits ≡ before.waits
  pub shallow : length before.stack < 16
