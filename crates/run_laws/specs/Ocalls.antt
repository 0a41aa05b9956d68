-- What an OCALL did to host memory.
use Rattle.std.specs.Prelude.{ℕ, ◌≡◌, ◌+◌, ◌⊎◌, ◌&&◌, ◌==◌, not, Bool, length, true, false, List, [], ◌∷◌, ◌++◌, Option, Some, None, slice_get}
use Rattle.sgx_base.specs.Rows.{first_row}
use Rattle.sgx_base.specs.declared.Status.{Status}
use Rattle.sgx_base.specs.declared.TheConstants.Status.{INVALID_FUNCTION}
use Rattle.edl_interface.specs.declared.Function.{Function}
use Rattle.edl_interface.specs.Parameters.{is_out, return_size}
use Rattle.word_port.specs.declared.Step.{Step}
use Rattle.word_port.specs.Events.{Event, steps_of}
use Rattle.enclave_memory.specs.Arguments.{Argument}
use Rattle.ocall_frames.specs.Frames.{Buffer, buffers_of, frame_bytes, return_value, Reply}
use Rattle.call_machine.specs.declared.Machine.{Machine}
use Rattle.call_machine.specs.Result.{is_success}
use Rattle.call_machine.specs.Ecall.{OcallOutcome}
use Rattle.call_machine.specs.Ocall.{ocall_rows, ocall_frame, no_reply}
use Rattle.call_laws.specs.Transfers.{loads_of, AreStores}
use Rattle.run_laws.specs.Places.{StandAt}
use Rattle.run_laws.specs.Calls.{Call}

-- why an OCALL is refused: there is no such function, or the first row that holds
abbrev pub IsOcallRefusal : Machine → Call → List Argument → Option Function → Type 0
IsOcallRefusal m c arguments None = c.made.status ≡ INVALID_FUNCTION
IsOcallRefusal m c arguments (Some f) = first_row (ocall_rows c.context f arguments) ≡ Some c.made.status

-- it made no step, the host did not run, and nothing came back
pub record IsRefusedOcall (m : Machine) (c : Call) (arguments : List Argument) (steps : List Step) (out : OcallOutcome) : Type 0 where
  pub refused : IsOcallRefusal m c arguments (slice_get m.interface.ocalls c.made.ordinal)
  pub nothing : steps ≡ []
  pub turn_is : c.made.turn ≡ c.made.first
  pub value_is : out.value ≡ 0
  pub loaded_is : out.loaded ≡ []

-- whether a buffer is copied back
abbrev pub is_copied_back : Buffer → Bool
is_copied_back b = is_out b.param.class && not (length b.content == 0)

-- the bytes of the buffers that are copied back were loaded by these events, one buffer after another, each of its length and from its address
abbrev pub AreLoadedBack : List Buffer → List (Option (List ℕ)) → List Event → Type 0
AreLoadedBack [] [] events = events ≡ []
AreLoadedBack (b ∷ buffers) (None ∷ loaded) events = (is_copied_back b ≡ false) × AreLoadedBack buffers loaded events
AreLoadedBack (b ∷ buffers) (Some these ∷ loaded) events =
    (first : List Event) × (more : List Event) × (events ≡ first ++ more) × (is_copied_back b ≡ true) × (length these ≡ length b.content) × (first ≡ loads_of b.address these)
    × AreLoadedBack buffers loaded more
AreLoadedBack _ _ events = ⊥

-- the return was loaded once, and then each buffer that is copied back, from the addresses that the enclave chose
pub record IsLoadedReply (f : Function) (arguments : List Argument) (frame : ℕ) (events : List Event) (reply : Reply) : Type 0 where
  pub returned : List ℕ
  pub whole : length returned ≡ return_size f
  pub value_is : reply.value ≡ return_value f returned
  pub loading : List Event
  pub loaded : AreLoadedBack (buffers_of f arguments frame) reply.loaded loading
  pub events_are : events ≡ loads_of frame returned ++ loading

-- the reply is loaded where the host side ended with SUCCESS; else nothing is
abbrev pub IsReply : Function → List Argument → ℕ → Status → List Event → Reply → Type 0
IsReply f arguments frame status events reply =
    ((is_success status ≡ true) × IsLoadedReply f arguments frame events reply) ⊎ ((is_success status ≡ false) × (events ≡ []) × (reply ≡ no_reply))

-- its frame was stored from the copies that the body had, the host ran, and the reply was loaded
pub record IsMadeOcall (m : Machine) (c : Call) (arguments : List Argument) (steps : List Step) (out : OcallOutcome) : Type 0 where
  pub function : Function
  pub found : slice_get m.interface.ocalls c.made.ordinal ≡ Some function
  pub allowed : first_row (ocall_rows c.context function arguments) ≡ None
  pub frame_is : c.made.frame ≡ ocall_frame c.context function arguments
  pub entering : List Event
  pub entered : AreStores c.made.frame (frame_bytes function arguments c.made.frame) entering
  pub hosting : List Step
  pub loading : List Event
  pub reply : Reply
  pub replied : IsReply function arguments c.made.frame c.made.status loading reply
  pub value_is : out.value ≡ reply.value
  pub loaded_is : out.loaded ≡ reply.loaded
  pub steps_are : steps ≡ steps_of entering ++ (hosting ++ steps_of loading)
  pub turn_is : c.made.turn ≡ c.made.first + length (steps_of entering) + length hosting

-- an OCALL with these arguments was refused or made, these were its steps, and this is what came of it
pub record IsOcall (m : Machine) (log : List Step) (c : Call) (arguments : List Argument) (steps : List Step) (out : OcallOutcome) : Type 0 where
  pub status_is : c.made.status ≡ out.status
  pub there : StandAt log c.made.first steps
  pub last_is : c.made.last ≡ c.made.first + length steps
  pub how : IsRefusedOcall m c arguments steps out ⊎ IsMadeOcall m c arguments steps out
