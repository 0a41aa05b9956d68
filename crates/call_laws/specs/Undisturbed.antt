-- An answered ECALL between whose steps no other participant writes.
use Rattle.std.specs.Prelude.{ℕ, ◌≡◌, ◌+◌, Bool, true, false, List, [], ◌∷◌, length, replicate, zip, Option, Some, None, slice_get, slice_set, Ok}
use Rattle.sgx_base.specs.Bytes.{low_bytes}
use Rattle.edl_interface.specs.declared.Function.{Function}
use Rattle.edl_interface.specs.declared.Param.{Param}
use Rattle.edl_interface.specs.Parameters.{marshalled, is_in, is_out, address_in, return_size}
use Rattle.edl_interface.specs.Lengths.{length_in, copied_length}
use Rattle.word_port.specs.Events.{Event, steps_of}
use Rattle.word_port.specs.Interaction.{IsRun}
use Rattle.word_port.specs.Accesses.{word_at}
use Rattle.word_port.specs.History.{IsLegal, history_of, words_in_the_end}
use Rattle.body_vm.specs.declared.Action.{Action}
use Rattle.body_vm.specs.declared.Action.TheVariants.{Cload, Cswap, Cadd, Ccas, Ocall}
use Rattle.body_vm.specs.Execution.{Execution, returned}
use Rattle.call_copy.specs.Copies.{checked_bytes, bytes_back}
use Rattle.call_machine.specs.declared.Machine.{Machine}
use Rattle.call_machine.specs.Context.{Context, context_in_ecall}
use Rattle.call_machine.specs.Ecall.{Ocalls, Copies, Finished, shape_of, interpret, body_of}
use Rattle.call_laws.specs.Copying.{room_after}

-- the steps of these events are a legal history with no race, from these words
abbrev pub AreLegal : List ℕ → List Event → Type 0
AreLegal words events = IsLegal words (history_of (steps_of events))

-- the words after the steps of these events
abbrev pub words_at_end : List ℕ → List Event → List ℕ
words_at_end words events = words_in_the_end words (history_of (steps_of events))

-- the words at the addresses from this one on are these bytes
abbrev pub AreAt : List ℕ → ℕ → List ℕ → Type 0
AreAt words address [] = Unit {0}
AreAt words address (b ∷ bytes) = (slice_get words (word_at address) ≡ Some b) × AreAt words (address + 1) bytes

-- the bytes are those of the words from this address on; or, where none are copied in, zeros
abbrev pub AreBytesOf : List ℕ → Bool → ℕ → List ℕ → Type 0
AreBytesOf words true address bytes = AreAt words address bytes
AreBytesOf words false address bytes = bytes ≡ replicate (length bytes) 0

-- the block is the copy of a parameter: the bytes of the words at its address and of its length; a string has its last unit set to 0
pub record IsCopyOf (words : List ℕ) (f : Function) (frame : List ℕ) (p : Param) (block : List ℕ) : Type 0 where
  pub bytes : List ℕ
  pub whole : length bytes ≡ length_in f frame p
  pub there : AreBytesOf words (is_in p.class) (address_in frame p) bytes
  pub checked : checked_bytes (shape_of p.class) bytes ≡ Ok block

-- the blocks are the copies of the parameters, null where the pointer is null or the length is 0
abbrev pub AreCopiesOf : List ℕ → Function → List ℕ → List Param → List (Option (List ℕ)) → Type 0
AreCopiesOf words f frame [] [] = Unit {0}
AreCopiesOf words f frame (p ∷ params) (None ∷ blocks) = (copied_length f frame p ≡ 0) × AreCopiesOf words f frame params blocks
AreCopiesOf words f frame (p ∷ params) (Some block ∷ blocks) = IsCopyOf words f frame p block × AreCopiesOf words f frame params blocks
AreCopiesOf words f frame _ _ = ⊥

-- the words with these bytes written at the addresses from this one on
abbrev pub written : List ℕ → ℕ → List ℕ → List ℕ
written words address [] = words
written words address (b ∷ bytes) = written (slice_set words (word_at address) b) (address + 1) bytes

-- the words with a block written where it is copied back
abbrev pub written_if : Bool → List ℕ → ℕ → List ℕ → List ℕ
written_if true words address bytes = written words address bytes
written_if false words address bytes = words

-- the words with the blocks of the `out` parameters written, one after another
abbrev pub with_blocks : List ℕ → List (Param × Option (List ℕ)) → List ℕ → List ℕ
with_blocks frame [] words = words
with_blocks frame ((p, None) ∷ rest) words = with_blocks frame rest words
with_blocks frame ((p, Some block) ∷ rest) words =
    with_blocks frame rest (written_if (is_out p.class) words (address_in frame p) (bytes_back (shape_of p.class) block))

-- the words with the answer of a body written: its return, and then the `out` parameters
abbrev pub with_answer : Function → ℕ → List ℕ → ℕ → List (Option (List ℕ)) → List ℕ → List ℕ
with_answer f address frame value blocks words = with_blocks frame (zip (marshalled f) blocks) (written words address (low_bytes (return_size f) value))

-- its frame and its copies are bytes of the words that it began with, its body begins with these words and with the room
-- that the copies leave, and in the end the words are those after the body with its answer written
pub record IsUndisturbedRun (m : Machine) (ocalls : Ocalls) (cx : Context) (ordinal address : ℕ) (words : List ℕ) (events : List Event) : Type 0 where
  pub function : Function
  pub found : slice_get m.interface.ecalls ordinal ≡ Some function
  pub frame : List ℕ
  pub whole_frame : length frame ≡ function.frame_size
  pub frame_there : AreAt words address frame
  pub copies : Copies
  pub copies_there : AreCopiesOf words function frame (marshalled function) copies.blocks
  pub room_left : copies.room ≡ room_after cx.room copies.blocks
  pub running : List Event
  pub finished : Finished
  pub body_runs : IsRun (interpret m ocalls (context_in_ecall cx ordinal copies.room) (body_of m ordinal function frame copies)) running finished
  pub body_legal : AreLegal words running
  pub words_are : words_at_end words events ≡ with_answer function address frame finished.value finished.blocks (words_at_end words running)

-- it asks for nothing
abbrev pub AsksNothing : Execution → Type 0
AsksNothing (returned value blocks) = Unit {0}
AsksNothing _ = ⊥

-- neither a step on a cell nor an OCALL
abbrev pub IsQuietAction : Action → Type 0
IsQuietAction (Cload r cell) = ⊥
IsQuietAction (Cswap r cell v) = ⊥
IsQuietAction (Cadd r cell v) = ⊥
IsQuietAction (Ccas r cell v w) = ⊥
IsQuietAction (Ocall ret status ordinal args) = ⊥
IsQuietAction _ = Unit {0}

abbrev pub AreQuietActions : List Action → Type 0
AreQuietActions [] = Unit {0}
AreQuietActions (action ∷ actions) = IsQuietAction action × AreQuietActions actions

-- the body asks for nothing, whatever it is given
abbrev pub IsQuiet : Machine → ℕ → Type 0
IsQuiet m ordinal = (f : Function) (frame : List ℕ) (copies : Copies) → AsksNothing (body_of m ordinal f frame copies)

-- as a direct call of a body that asks for nothing: its copies are bytes of the words, it has the room that they leave,
-- and the words in the end are the same ones with its answer written
pub record IsDirectCall (m : Machine) (cx : Context) (ordinal address : ℕ)
    (words : List ℕ) (events : List Event) : Type 0 where
  pub function : Function
  pub found : slice_get m.interface.ecalls ordinal ≡ Some function
  pub frame : List ℕ
  pub whole_frame : length frame ≡ function.frame_size
  pub frame_there : AreAt words address frame
  pub copies : Copies
  pub copies_there : AreCopiesOf words function frame (marshalled function) copies.blocks
  pub room_left : copies.room ≡ room_after cx.room copies.blocks
  pub value : ℕ
  pub blocks : List (Option (List ℕ))
  pub body_is : body_of m ordinal function frame copies ≡ returned value blocks
  pub words_are : words_at_end words events ≡ with_answer function address frame value blocks words
