-- An OCALL comes to slots by roles alone, where its handler does.
use Rattle.std.proofs.Common.{ℕ, ◌+◌, ◌≡◌, ◌≢◌, ◌<◌, ◌≤◌, ◌&&◌, ◌==◌, not, nat_lt, inl, Bool, true, false, if◌then◌else◌, List, [], ◌∷◌, length, Option, Some, None, Ok, slice_get, refl, sym, subst, arith}
use Rattle.std.specs.Prelude.{unwrap_or}
use Rattle.std.specs.List.{AllByRecursion}
use Rattle.sgx_base.specs.Rows.{first_row, unless_refused}
use Rattle.sgx_base.specs.declared.Status.{Status}
use Rattle.sgx_base.specs.declared.TheConstants.Status.{SUCCESS}
use Rattle.edl_interface.specs.declared.Function.{Function}
use Rattle.edl_interface.specs.Parameters.{is_out, has_frame, return_size}
use Rattle.edl_interface.specs.Runnable.{IsRunnableFunction}
use Rattle.word_port.specs.declared.Side.TheVariants.{Enclave, Pool as by_pool}
use Rattle.word_port.specs.Requests.{Request}
use Rattle.word_port.specs.Events.{Event, steps_of}
use Rattle.word_port.specs.Interaction.{Interaction, ret, here, and_then, map_value, IsRun, AllRequests}
use Rattle.word_port.specs.Accesses.{loads, stores}
use Rattle.word_port.proofs.RequestLaws.{AllSteps, all_and_then}
use Rattle.enclave_memory.specs.Arguments.{Argument}
use Rattle.ocall_frames.specs.Stack.{frame_below}
use Rattle.ocall_frames.specs.Frames.{Buffer, buffers_of, ocall_size, frame_bytes, buffer_loads, return_value, read_reply, Reply}
use Rattle.switchless.specs.Slots.{offered_word}
use Rattle.switchless.specs.Caller.{caller}
use Rattle.switchless_laws.specs.Moments.{IsSlotOf}
use Rattle.call_script.specs.Words.{ecall_slots}
use Rattle.call_report.specs.declared.Way.TheVariants.{Ordinary, Fallback}
use Rattle.call_machine.specs.declared.Machine.{Machine}
use Rattle.call_machine.specs.Context.{Context}
use Rattle.call_machine.specs.Result.{is_success, go_on_if_ok}
use Rattle.call_machine.specs.Ocall.{Handlers, ocall_rows, ocall_frame, ocall_pool, HostSide, host_side, unless_taken, host_run, handler_context, OcallDone, no_reply, answer_loads, unrefused_ocall, ocall_or_refusal, ocall_outcome, ocall_by}
use Rattle.call_laws.specs.Within.{IsWordIn}
use Rattle.run_laws.specs.Ocalls.{IsLoadedReply}
use Rattle.run_laws.proofs.FitLaws.{FitOcall, FitBlocks}
use Rattle.run_laws.proofs.FrameLaws.{frame_length}
use Rattle.run_laws.proofs.HostStack.{IsOnHost, frame_fits, frame_word, handler_on}
use Rattle.run_laws.proofs.ReplyLaws.{reply_inside}
use Rattle.run_laws.proofs.Stored.{reply_run}
use Rattle.pool_laws.specs.Machines.{IsBoundedMachine}
use Rattle.pool_laws.proofs.ByRoles.{ByRoles, roles_ret, roles_then, roles_map, roles_here, roles_record, roles_below, roles_caller, requests_of_runs, both_requests}
use Rattle.pool_laws.proofs.Transfers.{AreFirst, fewer_first, enclave_beside, stores_below}
use Rattle.pool_laws.proofs.HostCalls.{word_offered}
use Rattle.pool_laws.proofs.Ecalls.{loads_beside, steps_from}

abbrev IsBeside : Request → Type 0
IsBeside q = q.side ≢ by_pool

buffers_beside : (buffers : List Buffer) → AllRequests IsBeside (buffer_loads buffers)
buffers_beside [] = tt
buffers_beside (b ∷ more) =
    elim (is_out b.param.class && not (length b.content == 0)) as (λ c. AllRequests IsBeside (if c
    then and_then (loads Enclave b.address (length b.content))
    (λ these. map_value (λ rest. Some these ∷ rest) (buffer_loads more))
    else map_value (λ rest. None ∷ rest) (buffer_loads more))) [
      | true ↦ all_and_then IsBeside (loads Enclave b.address (length b.content))
          (λ these. map_value (λ rest. Some these ∷ rest) (buffer_loads more))
          (loads_beside b.address (length b.content))
          (λ these. all_and_then IsBeside (buffer_loads more) (λ rest. ret (Some these ∷ rest)) (buffers_beside more)
          (λ rest. tt))
      | false ↦ all_and_then IsBeside (buffer_loads more) (λ rest. ret (None ∷ rest)) (buffers_beside more) (λ rest. tt)
    ]

reply_beside : (f : Function) (arguments : List Argument) (frame : ℕ)
    → AllRequests IsBeside (read_reply f arguments frame)
unfolding read_reply
reply_beside f arguments frame =
    all_and_then IsBeside (loads Enclave frame (return_size f))
    (λ returned. map_value (λ loaded. record { value = return_value f returned; loaded = loaded })
    (buffer_loads (buffers_of f arguments frame)))
    (loads_beside frame (return_size f)) (λ returned.
    all_and_then IsBeside (buffer_loads (buffers_of f arguments frame))
    (λ loaded. ret (record { value = return_value f returned; loaded = loaded }))
    (buffers_beside (buffers_of f arguments frame)) (λ loaded. tt))

frame_small : (b : Bool) (base top size : ℕ) (o : Option ℕ) → frame_below base top size ≡ o → 0x10000 ≤ base
    → top ≤ 0x20000 → (if b then unwrap_or o 0 else 0) ≤ 0x20000
frame_small false base top size o e from upto = omega arith
frame_small true base top size None e from upto = omega arith
frame_small true base top size (Some a) e from upto =
    let fits : (base ≤ a) × (a + size ≤ top) = frame_fits base top size a e in
    let end : a + size ≤ top = fits.1 in
    omega (arith, end, upto)

module _ (m : Machine) (fit : IsBoundedMachine m) (Among : ℕ → Type 0) (slot : ℕ)
    (among : (i : ℕ) → IsSlotOf (ocall_pool m.script.settings) i → Among i)
    (handlers : Handlers) (cx : Context) (ordinal : ℕ) (arguments : List Argument)
    (on : IsOnHost m.script.settings.host cx) where
  abbrev limit : ℕ
  limit = ecall_slots m.script.settings

  abbrev Visits : {A : Type 0} → Interaction A → Type 0
  Visits t = ByRoles limit Among slot t

  module _ (f : Function) (found : slice_get m.interface.ocalls ordinal ≡ Some f)
      (runnable : IsRunnableFunction false f) (blocks : FitBlocks f.params arguments)
      (allowed : first_row (ocall_rows cx f arguments) ≡ None)
      (hosts : (frame : ℕ) → IsOnHost m.script.settings.host (handler_context cx ordinal f frame)
      → AreFirst (ecall_slots m.script.settings) frame (return_size f)
      → ByRoles (ecall_slots m.script.settings) Among slot (handlers
      (handler_context cx ordinal f frame) ordinal f frame)) where
    abbrev frame_at : ℕ
    frame_at = ocall_frame cx f arguments

    abbrev inside : Context
    inside = handler_context cx ordinal f frame_at

    frame_first : AreFirst limit frame_at (ocall_size f arguments)
    frame_first index w = let low : index < m.script.settings.host =
        frame_word m.script.settings.host cx on f arguments runnable allowed index w in omega (arith, low)

    handled : Visits (handlers inside ordinal f frame_at)
    handled =
        let field : return_size f ≤ f.frame_size = runnable.return_fits in
        hosts frame_at (handler_on m.script.settings.host cx on f arguments runnable allowed ordinal)
        (fewer_first limit frame_at (ocall_size f arguments) (return_size f) (omega (arith, field)) frame_first)

    after_role : (status : Option ℕ) → Visits (unless_taken (handlers inside ordinal f frame_at) status)
    after_role (Some status) = roles_ret limit Among slot _
    after_role None = roles_map limit Among slot (host_side Fallback) (handlers inside ordinal f frame_at) handled

    offered_at : frame_at ≤ 0x20000
    offered_at =
        let top : cx.top ≤ 0x10000 + m.script.settings.host = on.1 in
        let small : m.script.settings.host ≤ 65536 = fit.host in
        frame_small (has_frame f) cx.base cx.top (ocall_size f arguments)
        (frame_below cx.base cx.top (ocall_size f arguments)) refl on.0 (omega (arith, top, small))

    hosted : Visits (host_run m handlers inside ordinal f frame_at)
    hosted = by_pool_of (f.switchless && nat_lt 0 m.script.settings.uworkers)
      where
        by_pool_of : (b : Bool) → Visits (if b then and_then (caller (ocall_pool m.script.settings)
            (offered_word ordinal frame_at)) (unless_taken (handlers inside ordinal f frame_at))
            else map_value (host_side Ordinary) (handlers inside ordinal f frame_at))
        by_pool_of true =
            roles_then limit Among slot (caller (ocall_pool m.script.settings) (offered_word ordinal frame_at))
            (unless_taken (handlers inside ordinal f frame_at))
            (roles_caller limit Among slot (ocall_pool m.script.settings) (offered_word ordinal frame_at)
            (word_offered m.interface.ocalls ordinal f frame_at fit.ocalls found offered_at) among) after_role
        by_pool_of false = roles_map limit Among slot (host_side Ordinary) (handlers inside ordinal f frame_at) handled

    reply_low : AllRequests (λ q. q.index < limit) (read_reply f arguments frame_at)
    reply_low = requests_of_runs (λ q. q.index < limit) (read_reply f arguments frame_at) by_run
      where
        by_run : (events : List Event) (reply : Reply) → IsRun (read_reply f arguments frame_at) events reply
            → AllSteps (λ q. q.index < limit) (steps_of events)
        by_run events reply run =
            let loaded : IsLoadedReply f arguments frame_at events reply =
            reply_run f arguments frame_at events reply run in
            let inside_it : AllByRecursion (λ s. IsWordIn frame_at (ocall_size f arguments) s.index)
            (steps_of events) = reply_inside f arguments frame_at SUCCESS events reply runnable blocks
            (inl (refl, loaded)) in
            steps_from (λ q. q.index < limit) (λ s. IsWordIn frame_at (ocall_size f arguments) s.index)
            (λ s w. frame_first s.index w) (steps_of events) inside_it

    replied : (host : HostSide) → Visits (answer_loads f arguments frame_at host)
    replied host = by_status (is_success host.status)
      where
        by_status : (b : Bool) → Visits {A = OcallDone} (if b then here
            (λ turn. map_value (λ reply. record { frame = frame_at; host = host; turn = Some turn; reply = reply })
            (read_reply f arguments frame_at))
            else ret (record { frame = frame_at; host = host; turn = None; reply = no_reply }))
        by_status true =
            roles_here limit Among slot _ (λ turn. roles_map limit Among slot
            (λ reply. record { frame = frame_at; host = host; turn = Some turn; reply = reply })
            (read_reply f arguments frame_at)
            (roles_below limit Among slot (read_reply f arguments frame_at)
            (both_requests IsBeside (λ q. q.index < limit) (read_reply f arguments frame_at)
            (reply_beside f arguments frame_at) reply_low)))
        by_status false = roles_ret limit Among slot _

    unrefused : Visits (unrefused_ocall m handlers cx ordinal arguments f)
    unrefused =
        roles_then limit Among slot (stores Enclave frame_at (frame_bytes f arguments frame_at))
        (λ stored. and_then (host_run m handlers inside ordinal f frame_at) (answer_loads f arguments frame_at))
        (roles_below limit Among slot (stores Enclave frame_at (frame_bytes f arguments frame_at))
        (stores_below Enclave enclave_beside limit frame_at (frame_bytes f arguments frame_at)
        (subst (λ n. AreFirst limit frame_at n) (sym (frame_length f arguments frame_at runnable)) frame_first)))
        (λ stored.
        roles_then limit Among slot (host_run m handlers inside ordinal f frame_at)
        (answer_loads f arguments frame_at) hosted replied)

  module _ (runnable : (f : Function) → slice_get m.interface.ocalls ordinal ≡ Some f → IsRunnableFunction false f)
      (blocks : FitOcall m.interface ordinal arguments)
      (hosts : (f : Function) → slice_get m.interface.ocalls ordinal ≡ Some f → (frame : ℕ)
      → IsOnHost m.script.settings.host (handler_context cx ordinal f frame)
      → AreFirst (ecall_slots m.script.settings) frame (return_size f)
      → ByRoles (ecall_slots m.script.settings) Among slot (handlers
      (handler_context cx ordinal f frame) ordinal f frame)) where
    by_rows : (f : Function) → slice_get m.interface.ocalls ordinal ≡ Some f → (row : Option Status)
        → first_row (ocall_rows cx f arguments) ≡ row
        → Visits (go_on_if_ok {B = OcallDone} (λ allowed. map_value (λ done. Ok done)
        (unrefused_ocall m handlers cx ordinal arguments f)) (unless_refused row))
    by_rows f found (Some status) e = roles_ret limit Among slot _
    by_rows f found None e =
        roles_map limit Among slot (λ done. Ok done) (unrefused_ocall m handlers cx ordinal arguments f)
        (unrefused f found (runnable f found) (blocks f found) e (hosts f found))

    by_found : (o : Option Function) → slice_get m.interface.ocalls ordinal ≡ o
        → Visits (ocall_or_refusal m handlers cx ordinal arguments o)
    by_found None e = roles_ret limit Among slot _
    by_found (Some f) e = by_rows f e (first_row (ocall_rows cx f arguments)) refl

    -- a whole OCALL
    pub ocall_by_roles : ByRoles (ecall_slots m.script.settings) Among slot (ocall_by m handlers cx ordinal arguments)
    unfolding ocall_by
    ocall_by_roles =
        roles_record limit Among slot _ (roles_here limit Among slot _ (λ first.
        roles_then limit Among slot (ocall_or_refusal m handlers cx ordinal arguments
        (slice_get m.interface.ocalls ordinal)) (λ result. here
        (λ last. ret (ocall_outcome cx ordinal first last result)))
        (by_found (slice_get m.interface.ocalls ordinal) refl)
        (λ result. roles_here limit Among slot _ (λ last. roles_ret limit Among slot
        (ocall_outcome cx ordinal first last result)))))
