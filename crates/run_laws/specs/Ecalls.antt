-- What an ECALL did: it was refused before its body began, or its body ran as a direct call on one snapshot of its arguments.
use Rattle.std.specs.Prelude.{ℕ, ◌≡◌, ◌≢◌, ◌+◌, ◌⊎◌, List, ◌++◌, length, zip, All, Option, Some, None, slice_get}
use Rattle.sgx_base.specs.Bytes.{low_bytes}
use Rattle.sgx_base.specs.Rows.{first_row}
use Rattle.sgx_base.specs.declared.TheConstants.Status.{SUCCESS, UNEXPECTED}
use Rattle.edl_interface.specs.declared.Function.{Function}
use Rattle.edl_interface.specs.Parameters.{marshalled, return_size}
use Rattle.word_port.specs.declared.Step.{Step}
use Rattle.word_port.specs.Events.{Event, steps_of}
use Rattle.bridge_program.specs.Entry.{entry_rows}
use Rattle.call_report.specs.declared.Way.TheVariants.{Ordinary}
use Rattle.ocall_frames.specs.Stack.{frame_below}
use Rattle.call_machine.specs.declared.Machine.{Machine}
use Rattle.call_machine.specs.Context.{context_in_ecall}
use Rattle.call_machine.specs.Refusal.{frame_rows, field_rows}
use Rattle.call_machine.specs.Ecall.{Copies, body_of}
use Rattle.call_laws.specs.Transfers.{loads_of, AreStores}
use Rattle.call_laws.specs.Copying.{room_after, AreCopiedIn}
use Rattle.call_laws.specs.Answering.{ArePutBack}
use Rattle.call_machine.specs.Entry.{IsEnclaveLoad}
use Rattle.call_laws.specs.Refusing.{IsRefusedRun}
use Rattle.run_laws.specs.Places.{StandAt}
use Rattle.run_laws.specs.Calls.{Call}
use Rattle.run_laws.specs.Bodies.{IsCarriedOut}

-- the host's proxy found no room for the frame on the host stack, and the enclave was not entered
pub record IsNotEntered (m : Machine) (c : Call) : Type 0 where
  pub function : Function
  pub found : slice_get m.interface.ecalls c.made.ordinal ≡ Some function
  pub no_room : frame_below c.context.base c.context.top function.frame_size ≡ None
  pub no_frame : c.made.frame ≡ 0
  pub way_is : c.made.way ≡ Ordinary
  pub status_is : c.made.status ≡ UNEXPECTED
  pub turn_is : c.made.turn ≡ c.made.first
  pub last_is : c.made.last ≡ c.made.first

-- the status is that of the first row that holds; all that it did is a beginning of the one load of each byte of its frame and of its `in` parameters, in their order
pub record IsRefused (m : Machine) (log : List Step) (c : Call) : Type 0 where
  pub loading : List Event
  pub refused : IsRefusedRun m c.context c.made.ordinal c.made.frame loading c.made.status
  pub loads_alone : All IsEnclaveLoad (steps_of loading)
  pub there : StandAt log c.made.first (steps_of loading)
  pub turn_is : c.made.turn ≡ c.made.last
  pub last_is : c.made.last ≡ c.made.first + length (steps_of loading)

-- no row refuses it: one load of each byte of its frame, one load of each byte of each `in` parameter at the address and of the length in that copy of the frame,
-- then the body as a direct call on these copies, and then the stores of its return and its `out` parameters at the addresses in the same copy of the frame
pub record IsAnswered (m : Machine) (calls : List Call) (log : List Step) (c : Call) : Type 0 where
  pub function : Function
  pub found : slice_get m.interface.ecalls c.made.ordinal ≡ Some function
  pub may_enter : first_row (entry_rows m.interface c.context.stack c.made.ordinal) ≡ None
  pub frame_allowed : first_row (frame_rows m.script.settings.host function c.made.frame) ≡ None
  -- the snapshot: the frame, and the blocks that its parameters were copied into
  pub frame : List ℕ
  pub whole_frame : length frame ≡ function.frame_size
  pub fields_allowed : first_row (field_rows m.script.settings.host function frame) ≡ None
  pub copies : Copies
  pub copying : List Event
  pub copied : AreCopiedIn function frame c.context.room (marshalled function) copying copies.blocks
  pub room_left : copies.room ≡ room_after c.context.room copies.blocks
  -- the direct call
  pub asked : List Call
  pub running : List Step
  pub value : ℕ
  pub blocks : List (Option (List ℕ))
  pub body : IsCarriedOut m calls log (context_in_ecall c.context c.made.ordinal copies.room) (c.made.first + length (steps_of (loads_of c.made.frame frame ++ copying)))
      (body_of m c.made.ordinal function frame copies) asked running value blocks
  -- the answer
  pub returning : List Event
  pub returned : AreStores c.made.frame (low_bytes (return_size function) value) returning
  pub putting : List Event
  pub put_back : ArePutBack frame (zip (marshalled function) blocks) putting
  -- where they stand
  pub there : StandAt log c.made.first (steps_of (loads_of c.made.frame frame ++ copying) ++ (running ++ steps_of (returning ++ putting)))
  pub turn_is : c.made.turn ≡ c.made.first + length (steps_of (loads_of c.made.frame frame ++ copying)) + length running
  pub last_is : c.made.last ≡ c.made.turn + length (steps_of (returning ++ putting))

-- it was not entered, was refused, or was answered
abbrev pub IsEcall : Machine → List Call → List Step → Call → Type 0
IsEcall m calls log c = IsNotEntered m c ⊎ ((c.made.status ≢ SUCCESS) × IsRefused m log c) ⊎ ((c.made.status ≡ SUCCESS) × IsAnswered m calls log c)
