-- Where the host stands in an OCALL, and what it does there.
use Rattle.std.proofs.Common.{◌≤◌, ◌+◌, ℕ, ◌-◌, ◌≡◌, true, false, List, [], ◌∷◌, length, Option, Some, None, IsSome, unwrap_or, slice_get, IsTrue, if◌then◌else◌, refl, ap, sym, ◌∙◌, subst}
use Rattle.sgx_base.specs.Ranges.{host_start, is_mapped}
use Rattle.sgx_base.specs.declared.TheConstants.Status.{SUCCESS}
use Rattle.edl_interface.specs.declared.Function.{Function}
use Rattle.edl_interface.specs.declared.Interface.{Interface}
use Rattle.edl_interface.specs.Parameters.{has_frame, return_size}
use Rattle.word_port.specs.Interaction.{Interaction}
use Rattle.enclave_memory.specs.declared.Arg.{Arg}
use Rattle.enclave_memory.specs.Memory.{Memory}
use Rattle.ocall_frames.specs.declared.Frame.{Frame}
use Rattle.bridge_program.specs.Entry.{Entered, MayEnter}
use Rattle.bridge_program.specs.Standing.{IsInEnclave, HasOcall, with_ocall}
use Rattle.call_script.specs.declared.HostAct.{HostAct}
use Rattle.call_script.specs.Faults.{max_nesting}
use Rattle.call_script.specs.Sound.{OfHandler}
use Rattle.call_machine.specs.declared.Machine.{Machine}
use Rattle.call_machine.specs.declared.acts.HostPlace.{HostPlace}
use Rattle.call_machine.specs.Acts.{acts_from, acts_of}
use Rattle.call_machine.specs.Context.{Context, stack_in_ocall, context_in_ocall}
use Rattle.call_machine.specs.HostActs.{IsHandlerPlace, AreHostActs, actor_at}
use Rattle.call_machine.specs.Ocall.{handler_context}
use Rattle.call_machine.specs.OcallPhases.{frame_address, top_under, top_after, IsFrameFor}
use Rattle.call_machine.specs.Plain.{IsPlainMachine}
use Rattle.call_machine.specs.Result.{Outcome}
use Rattle.call_machine.specs.Served.{handler_acts}
use Rattle.call_machine.specs.Tcs.{TcsState, context_of}
use Rattle.call_machine.specs.Thread.{ecalls, handlers_by}
use Rattle.call_machine.proofs.PlainMachines.{HasHandler, ocall_of, handler_of}

pub same_entries : (ocall : Option ℕ) (stack : List Entered) → length (with_ocall ocall stack) ≡ length stack
same_entries ocall [] = refl
same_entries ocall (e ∷ stack) = refl

stack_is : (ordinal : ℕ) (stack : List Entered) → with_ocall (Some ordinal) stack ≡ stack_in_ocall stack ordinal
stack_is ordinal [] = refl
stack_is ordinal (e ∷ stack) = refl

-- an OCALL that ends leaves the stack on which it began
pub left_again : (ordinal : ℕ) (stack : List Entered) → IsInEnclave stack → with_ocall None (with_ocall (Some ordinal) stack) ≡ stack
left_again ordinal [] inside = absurd inside
left_again ordinal (e ∷ stack) inside = ap (λ (o : Option ℕ). record { ordinal = e.ordinal; ocall = o } ∷ stack) (sym inside)

pub in_progress : (ordinal : ℕ) (stack : List Entered) → IsInEnclave stack → HasOcall (with_ocall (Some ordinal) stack)
in_progress ordinal [] inside = absurd inside
in_progress ordinal (e ∷ stack) inside = search

found_some : (i : Interface) (ordinal : ℕ) (f : Function) → slice_get i.ocalls ordinal ≡ Some f → IsSome (slice_get i.ocalls ordinal)
found_some i ordinal f e = rw e search

pub may_enter : (i : Interface) (ordinal : ℕ) (f : Function) (stack : List Entered) → slice_get i.ocalls ordinal ≡ Some f → IsInEnclave stack → MayEnter i (with_ocall (Some ordinal) stack)
may_enter i ordinal f [] found inside = absurd inside
may_enter i ordinal f (e ∷ stack) found inside = found_some i ordinal f found

-- the context once the OCALL is on both stacks
pub handler_stands : (cx : Context) (ordinal : ℕ) (f : Function) (args : List Arg) (arena : Memory) (host : ℕ) (frame : Option Frame) → IsFrameFor f args arena host frame
    → record cx { stack = with_ocall (Some ordinal) cx.stack; top = top_under frame cx.top } ≡ handler_context cx ordinal f (frame_address frame)
handler_stands cx ordinal f args arena host None is =
    let none : handler_context cx ordinal f 0 ≡ context_in_ocall cx ordinal = rw is refl in
    ap (λ (s : List Entered). record cx { stack = s }) (stack_is ordinal cx.stack) ∙ sym none
handler_stands cx ordinal f args arena host (Some frame) is =
    let some : handler_context cx ordinal f frame.at ≡ record (context_in_ocall cx ordinal) { top = frame.at } = rw is.0 refl in
    ap (λ (s : List Entered). record cx { stack = s; top = frame.at }) (stack_is ordinal cx.stack) ∙ sym some

-- a context with as many entries has the same ECALLs
pub same_ecalls : (m : Machine) (cx : Context) (stack : List Entered) (top : ℕ) → length stack ≡ length cx.stack → ecalls m (record cx { stack = stack; top = top }) ≡ ecalls m cx
same_ecalls m cx stack top e = rw e refl

-- a frame that is given back
pub top_again : (frame : Option Frame) (top : ℕ) → top_after frame top ≡ top → top_after frame (top_under frame top) ≡ top
top_again None top e = refl
top_again (Some frame) top e = e

-- the handler's acts are those of a host that stands in the OCALL
pub handler_is : (m : Machine) (cx : Context) (ordinal : ℕ) (f : Function) (place : HostPlace) (address : ℕ) → place.frame ≡ address → place.return_size ≡ return_size f
    → acts_from (actor_at m cx place) (handler_acts m ordinal) SUCCESS ≡ handlers_by m (ecalls m cx) cx ordinal f address
unfolding acts_of
handler_is m cx ordinal f place address at size = rw (at, size) refl

pub handler_sound : (m : Machine) (plain : IsPlainMachine m) (ordinal : ℕ) (f : Function) (place : HostPlace) (address : ℕ) → slice_get m.interface.ocalls ordinal ≡ Some f
    → place.frame ≡ address → place.return_size ≡ return_size f → (has_frame f ≡ true → IsTrue (is_mapped m.script.settings.host address f.frame_size))
    → address ≤ host_start + m.script.settings.host → AreHostActs m place (handler_acts m ordinal)
handler_sound m plain ordinal f place address found at size mapped upto =
    let h : HasHandler m ordinal f = handler_of m plain ordinal f found in
    let acts_are : h.acts ≡ handler_acts m ordinal = rw h.there refl in
    let is : IsHandlerPlace m.script.settings.host f place = record {
      plain = ocall_of m plain ordinal f found;
      return_size_is = size;
      mapped = λ e. subst (λ n. IsTrue (is_mapped m.script.settings.host n f.frame_size)) (sym at) (mapped e);
      upto = subst (λ n. n ≤ host_start + m.script.settings.host) (sym at) upto;
    } in
    subst (λ acts. AreHostActs m place acts) acts_are (OfHandler f, is, (max_nesting, 1, h.sound))
