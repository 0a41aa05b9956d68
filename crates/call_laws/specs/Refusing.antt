-- The events of a refused ECALL: a beginning of the loads of an answered one.
use Rattle.std.specs.Prelude.{ℕ, ◌≡◌, ◌⊎◌, List, [], ◌∷◌, ◌++◌, length, Option, Some, None, slice_get, Err}
use Rattle.sgx_base.specs.Rows.{first_row}
use Rattle.sgx_base.specs.declared.Status.{Status}
use Rattle.edl_interface.specs.declared.Function.{Function}
use Rattle.edl_interface.specs.declared.Param.{Param}
use Rattle.edl_interface.specs.Parameters.{marshalled, is_in, address_in}
use Rattle.edl_interface.specs.Lengths.{length_in, copied_length}
use Rattle.word_port.specs.Events.{Event}
use Rattle.bridge_program.specs.Entry.{entry_rows}
use Rattle.call_copy.specs.Copies.{block_rows, checked_bytes}
use Rattle.call_machine.specs.declared.Machine.{Machine}
use Rattle.call_machine.specs.Context.{Context}
use Rattle.call_machine.specs.Refusal.{frame_rows, field_rows}
use Rattle.call_machine.specs.Ecall.{shape_of}
use Rattle.call_laws.specs.Transfers.{loads_of, AreFirstBytes}
use Rattle.call_laws.specs.Copying.{room_after, AreCopiedIn}

-- a string ended before its length: no row refused its block, and its bytes were loaded by these events where it is copied in
pub record IsEndedEarly (f : Function) (frame : List ℕ) (room : ℕ) (p : Param) (events : List Event) (status : Status) : Type 0 where
  pub allowed : first_row (block_rows (shape_of p.class) (length_in f frame p) room) ≡ None
  pub bytes : List ℕ
  pub whole : length bytes ≡ length_in f frame p
  pub first : AreFirstBytes (is_in p.class) (address_in frame p) bytes events
  pub refused : checked_bytes (shape_of p.class) bytes ≡ Err status

-- a parameter is refused: by a row for its length and the room, with no event, or since it ended early
abbrev pub IsRefusedParam : Function → List ℕ → ℕ → Param → List Event → Status → Type 0
IsRefusedParam f frame room p events status =
    ((first_row (block_rows (shape_of p.class) (length_in f frame p) room) ≡ Some status) × (events ≡ [])) ⊎ IsEndedEarly f frame room p events status

-- some first parameters were copied in, and the next one, whose pointer and length are not 0, is refused
pub record IsRefusedCopying (f : Function) (frame : List ℕ) (room : ℕ) (params : List Param) (events : List Event) (status : Status) : Type 0 where
  pub before : List Param
  pub next : Param
  pub later : List Param
  pub params_are : params ≡ before ++ next ∷ later
  pub copying : List Event
  pub blocks : List (Option (List ℕ))
  pub copied : AreCopiedIn f frame room before copying blocks
  pub has_block : ¬ (copied_length f frame next ≡ 0)
  pub ending : List Event
  pub refused : IsRefusedParam f frame (room_after room blocks) next ending status
  pub events_are : events ≡ copying ++ ending

-- a row for the fields of its frame refuses it, with no event, or a parameter is refused
abbrev pub IsRefusedLoaded : ℕ → Function → List ℕ → ℕ → List Event → Status → Type 0
IsRefusedLoaded host f frame room events status =
    ((first_row (field_rows host f frame) ≡ Some status) × (events ≡ []))
    ⊎ ((first_row (field_rows host f frame) ≡ None) × IsRefusedCopying f frame room (marshalled f) events status)

-- its frame is loaded once, and then it is refused
pub record IsRefusedAfterFrame (m : Machine) (cx : Context) (address : ℕ) (f : Function) (events : List Event) (status : Status) : Type 0 where
  pub frame_allowed : first_row (frame_rows m.script.settings.host f address) ≡ None
  pub frame : List ℕ
  pub whole_frame : length frame ≡ f.frame_size
  pub copying : List Event
  pub refused : IsRefusedLoaded m.script.settings.host f frame cx.room copying status
  pub events_are : events ≡ loads_of address frame ++ copying

-- a row for the address of its frame refuses it, with no event, or it is refused after its frame was loaded
pub record IsRefusedFunction (m : Machine) (cx : Context) (ordinal address : ℕ) (events : List Event) (status : Status) : Type 0 where
  pub may_enter : first_row (entry_rows m.interface cx.stack ordinal) ≡ None
  pub function : Function
  pub found : slice_get m.interface.ecalls ordinal ≡ Some function
  pub refused : ((first_row (frame_rows m.script.settings.host function address) ≡ Some status) × (events ≡ []))
      ⊎ IsRefusedAfterFrame m cx address function events status

-- the first row that holds refuses it: one for the table and the call stack, with no event, or a later one
abbrev pub IsRefusedRun : Machine → Context → ℕ → ℕ → List Event → Status → Type 0
IsRefusedRun m cx ordinal address events status =
    ((first_row (entry_rows m.interface cx.stack ordinal) ≡ Some status) × (events ≡ [])) ⊎ IsRefusedFunction m cx ordinal address events status
