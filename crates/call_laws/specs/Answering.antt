-- The events of an answered ECALL.
use Rattle.std.specs.Prelude.{ℕ, ◌≡◌, Bool, true, false, List, [], ◌∷◌, ◌++◌, length, zip, Option, Some, None, slice_get}
use Rattle.sgx_base.specs.Bytes.{low_bytes}
use Rattle.sgx_base.specs.Rows.{first_row}
use Rattle.edl_interface.specs.declared.Function.{Function}
use Rattle.edl_interface.specs.declared.Param.{Param}
use Rattle.edl_interface.specs.Parameters.{marshalled, is_out, address_in, return_size}
use Rattle.word_port.specs.Events.{Event, placed}
use Rattle.word_port.specs.Interaction.{IsRun}
use Rattle.bridge_program.specs.Entry.{entry_rows}
use Rattle.call_copy.specs.Copies.{bytes_back}
use Rattle.call_machine.specs.declared.Machine.{Machine}
use Rattle.call_machine.specs.Context.{Context, context_in_ecall}
use Rattle.call_machine.specs.Refusal.{frame_rows, field_rows}
use Rattle.call_machine.specs.Ecall.{Ocalls, Copies, Finished, Answered, shape_of, interpret, body_of}
use Rattle.call_laws.specs.Transfers.{loads_of, AreStores}
use Rattle.call_laws.specs.Copying.{room_after, AreCopiedIn}

-- the events store these bytes where they are copied back, and else there are none
abbrev pub AreStoredIf : Bool → ℕ → List ℕ → List Event → Type 0
AreStoredIf true address bytes events = AreStores address bytes events
AreStoredIf false address bytes events = events ≡ []

-- the events store the blocks of the `out` parameters, one after another, each at the address in the frame's copy
abbrev pub ArePutBack : List ℕ → List (Param × Option (List ℕ)) → List Event → Type 0
ArePutBack frame [] events = events ≡ []
ArePutBack frame ((p, None) ∷ rest) events = ArePutBack frame rest events
ArePutBack frame ((p, Some block) ∷ rest) events =
    (first : List Event) × (more : List Event) × (events ≡ first ++ more)
    × AreStoredIf (is_out p.class) (address_in frame p) (bytes_back (shape_of p.class) block) first × ArePutBack frame rest more

-- no row refuses it; it loads its frame once, copies its parameters in, runs its body over the frame's one copy and these blocks, marks its turn, and stores its return and then its `out` parameters
pub record IsAnsweredRun (m : Machine) (ocalls : Ocalls) (cx : Context) (ordinal address : ℕ) (events : List Event) (done : Answered) : Type 0 where
  pub function : Function
  pub found : slice_get m.interface.ecalls ordinal ≡ Some function
  pub may_enter : first_row (entry_rows m.interface cx.stack ordinal) ≡ None
  pub frame_allowed : first_row (frame_rows m.script.settings.host function address) ≡ None
  pub frame : List ℕ
  pub whole_frame : length frame ≡ function.frame_size
  pub fields_allowed : first_row (field_rows m.script.settings.host function frame) ≡ None
  pub copying : List Event
  pub copies : Copies
  pub copied : AreCopiedIn function frame cx.room (marshalled function) copying copies.blocks
  pub room_left : copies.room ≡ room_after cx.room copies.blocks
  pub running : List Event
  pub finished : Finished
  pub body_runs : IsRun (interpret m ocalls (context_in_ecall cx ordinal copies.room) (body_of m ordinal function frame copies)) running finished
  pub records_are : done.records ≡ finished.records
  pub returning : List Event
  pub returned : AreStores address (low_bytes (return_size function) finished.value) returning
  pub putting : List Event
  pub put_back : ArePutBack frame (zip (marshalled function) finished.blocks) putting
  pub events_are : events ≡ loads_of address frame ++ (copying ++ (running ++ placed done.turn ∷ (returning ++ putting)))
