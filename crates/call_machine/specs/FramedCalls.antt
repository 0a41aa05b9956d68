-- How the engine's calls by the host stand to their behaviour, up to their entry and after it.
use Rattle.std.specs.Prelude.{ℕ, ◌≡◌, ◌<◌, ◌^◌, List, Option, Some, None}
use Rattle.std.specs.List.{AllZip}
use Rattle.edl_interface.specs.declared.Class.{Class}
use Rattle.edl_interface.specs.declared.Class.TheVariants.{Plain as by_value}
use Rattle.edl_interface.specs.declared.Param.{Param}
use Rattle.edl_interface.specs.declared.Function.{Function}
use Rattle.word_port.specs.declared.Side.TheVariants.{Host}
use Rattle.word_port.specs.Port.{PortState}
use Rattle.word_port.specs.Interaction.{Interaction, and_then}
use Rattle.word_port.specs.Accesses.{stores}
use Rattle.word_port.specs.Runs.{Leads, Makes}
use Rattle.ocall_frames.specs.declared.Frame.{Frame}
use Rattle.ocall_frames.specs.Stack.{frame_below}
use Rattle.call_script.specs.declared.CallArg.{CallArg}
use Rattle.call_script.specs.declared.CallArg.TheVariants.{At, Null}
use Rattle.call_script.specs.Sound.{IsSoundPlain}
use Rattle.call_report.specs.declared.CallRecord.{CallRecord}
use Rattle.call_machine.specs.declared.Machine.{Machine}
use Rattle.call_machine.specs.Acts.{place_address}
use Rattle.call_machine.specs.Calls.{call_to, entry, with_return, no_frame}
use Rattle.call_machine.specs.Context.{Context}
use Rattle.call_machine.specs.Ecall.{Ecalls}
use Rattle.call_machine.specs.Tcs.{TcsState, context_of}

-- an address, where frames of the handler begin at this one, or null
abbrev pub IsPointerArgument : ℕ → CallArg → Type 0
IsPointerArgument frame (At place) = place_address frame place < 2 ^ 64
IsPointerArgument frame Null = Unit {0}
IsPointerArgument frame _ = ⊥

-- an argument that fits its parameter, where frames of the handler begin at this address
abbrev pub IsArgument : ℕ → Class → CallArg → Type 0
IsArgument frame (by_value plain) arg = IsSoundPlain plain arg
IsArgument frame _ arg = IsPointerArgument frame arg

-- one argument for each parameter
abbrev pub AreArguments : ℕ → List Param → List CallArg → Type 0
AreArguments frame params args = AllZip (λ p arg. IsArgument frame p.class arg) params args

-- a call of a function of a machine with so much host memory, whatever ECALLs do, and whichever ordinal it has
pub record AnyCall (host : ℕ) : Type 0 where
  pub machine : Machine
  pub host_is : machine.script.settings.host ≡ host
  pub ecalls : Ecalls
  pub ordinal : ℕ

-- the call in a context, with places in a frame of the handler that begins here
abbrev pub call_of : {host : ℕ} → AnyCall host → Context → ℕ → Function → List CallArg → Interaction (List CallRecord)
call_of any cx frame f args = call_to any.machine any.ecalls cx frame any.ordinal args (Some f)

-- the call from its entry on, where its frame is written
abbrev pub entry_of : {host : ℕ} → AnyCall host → Context → Function → ℕ → Interaction (List CallRecord)
entry_of any cx f at = and_then (entry any.machine any.ecalls (record cx { top = at }) any.ordinal f at) (with_return f at)

-- a frame of these bytes was taken from the host stack and written, or it does not fit there
abbrev pub IsStored : List ℕ → ℕ → PortState → PortState → TcsState → TcsState → Option Frame → Type 0
IsStored bytes size old new before now None = (frame_below before.base before.top size ≡ None) × (new ≡ old) × (now ≡ before)
IsStored bytes size old new before now (Some frame) =
    (frame_below before.base before.top size ≡ Some frame.at) × (frame.old_top ≡ before.top)
    × (now ≡ record before { top = frame.at }) × Makes (stores Host frame.at bytes) old new tt

-- a call has come to its entry with its frame taken and written, or to its record where the frame does not fit
abbrev pub IsFramed : Function → List CallArg → ℕ → PortState → PortState → TcsState → TcsState → Option Frame → Type 0
IsFramed f args handler_frame old new before now None =
    ((any : AnyCall old.host) → Leads (call_of any (context_of before) handler_frame f args) old new (no_frame (context_of before) any.ordinal))
    × (now ≡ before)
IsFramed f args handler_frame old new before now (Some frame) =
    ((any : AnyCall old.host) → Leads (call_of any (context_of before) handler_frame f args) old new (entry_of any (context_of before) f frame.at))
    × (frame_below before.base before.top f.frame_size ≡ Some frame.at) × (frame.old_top ≡ before.top)
    × (now ≡ record before { top = frame.at })
