-- An OCALL is protected, where its handler is.
use Rattle.std.proofs.Common.{ℕ, zero, suc, ◌+◌, ◌≡◌, ◌<◌, ◌≤◌, ◌&&◌, ◌==◌, not, nat_lt, ◌⊎◌, inl, inr, Bool, true, false, if◌then◌else◌, List, [], ◌∷◌, ◌++◌, length, Option, Some, None, Result, Ok, Err, slice_get, refl, ap, sym, ◌∙◌, subst, arith, append-nil, append_assoc, length-append}
use Rattle.std.specs.Prelude.{unwrap_or}
use Rattle.std.specs.List.{AllByRecursion}
use Rattle.std.proofs.lemmas.List.Elements.{All-cons, All-weaker, recursion_from_All}
use Rattle.sgx_base.specs.Rows.{first_row, unless_refused}
use Rattle.sgx_base.specs.declared.Status.{Status}
use Rattle.sgx_base.specs.declared.TheConstants.Status.{INVALID_FUNCTION}
use Rattle.edl_interface.specs.declared.Function.{Function}
use Rattle.edl_interface.specs.Parameters.{is_out, return_size}
use Rattle.edl_interface.specs.Runnable.{IsRunnableFunction}
use Rattle.word_port.specs.declared.Step.{Step}
use Rattle.word_port.specs.declared.Side.TheVariants.{Enclave}
use Rattle.word_port.specs.declared.Kind.TheVariants.{Load}
use Rattle.word_port.specs.Requests.{Request}
use Rattle.word_port.specs.Events.{Event, new_record, steps_of}
use Rattle.word_port.specs.Interaction.{Interaction, ret, here, and_then, map_value, IsRun, AllRequests}
use Rattle.word_port.specs.Accesses.{loads, stores}
use Rattle.word_port.proofs.RequestLaws.{AllSteps, all_and_then, steps_of_run}
use Rattle.enclave_memory.specs.Arguments.{Argument}
use Rattle.ocall_frames.specs.Frames.{Buffer, buffers_of, ocall_size, frame_bytes, buffer_loads, return_value, read_reply}
use Rattle.switchless.specs.Slots.{offered_word}
use Rattle.switchless.specs.Caller.{caller}
use Rattle.call_report.specs.declared.CallKind.TheVariants.{Ecall, Ocall}
use Rattle.call_report.specs.declared.Way.TheVariants.{Ordinary, Fallback, Taken}
use Rattle.call_machine.specs.declared.Machine.{Machine}
use Rattle.call_machine.specs.Context.{Context}
use Rattle.call_machine.specs.Result.{Outcome, is_success, go_on_if_ok}
use Rattle.call_machine.specs.Ecall.{OcallOutcome}
use Rattle.call_machine.specs.Ocall.{Handlers, ocall_rows, ocall_frame, ocall_pool, HostSide, host_side, unless_taken, host_run, handler_context, OcallDone, no_reply, answer_loads, unrefused_ocall, ocall_or_refusal, ocall_record, ocall_outcome, ocall_by}
use Rattle.call_laws.specs.Transfers.{AreStores}
use Rattle.call_machine.specs.Entry.{IsEnclaveLoad}
use Rattle.call_laws.specs.Within.{IsWordIn}
use Rattle.call_laws.proofs.TransferLaws.{stores_run}
use Rattle.call_laws.proofs.WithinLaws.{stores_within}
use Rattle.run_laws.specs.Places.{StandAt}
use Rattle.run_laws.specs.Calls.{Call, IsMadeIn}
use Rattle.run_laws.specs.Ocalls.{IsOcallRefusal, IsReply, IsMadeOcall, IsOcall}
use Rattle.run_laws.specs.Protected.{IsNested, IsProtectedCall, IsAccountedFor}
use Rattle.run_laws.proofs.Triples.{Ensures, ensures_ret, ensures_then, ensures_map, ensures_here, ensures_tick, ensures_weaker}
use Rattle.run_laws.proofs.Growth.{IsGrown, nested_grown, call_grown}
use Rattle.run_laws.proofs.Protects.{NoStep, each_append, each_weaker, AreAccountedFor, IsWithin, Protects, protects_none, among_tail, within_wider, accesses_grown, one_protected}
use Rattle.run_laws.proofs.ActLaws.{ProtectsOutcome, elsewhere_then}
use Rattle.run_laws.proofs.CallLaws.{others_before}
use Rattle.run_laws.proofs.CallerLaws.{caller_elsewhere}
use Rattle.run_laws.proofs.FitLaws.{FitBlocks, FitOcall}
use Rattle.run_laws.proofs.ReplyLaws.{reply_inside}
use Rattle.run_laws.proofs.BodyLaws.{OcallRan, at_head}
use Rattle.run_laws.proofs.EcallLaws.{each_between}
use Rattle.run_laws.proofs.Stored.{IsSwap, all_both, stores_swap, reply_run}
use Rattle.run_laws.proofs.HostStack.{IsOnHost, handler_on, frame_word}
use Rattle.run_laws.proofs.FrameLaws.{frame_length}

-- a load by the enclave
abbrev IsLoad : Request → Type 0
IsLoad q = (q.side ≡ Enclave) × (q.kind ≡ Load)

load_steps : (steps : List Step) → AllSteps IsLoad steps → AllByRecursion IsEnclaveLoad steps
load_steps [] h = tt
load_steps (s ∷ steps) h = (h.0, load_steps steps h.1)

loads_load : (address n : ℕ) → AllRequests IsLoad (loads Enclave address n)
loads_load address zero = tt
loads_load address (suc n) = ((refl, refl), λ b. all_and_then IsLoad (loads Enclave (address + 1) n) (λ bytes. ret (b ∷ bytes)) (loads_load (address + 1) n) (λ bytes. tt))

buffers_load : (buffers : List Buffer) → AllRequests IsLoad (buffer_loads buffers)
buffers_load [] = tt
buffers_load (b ∷ more) =
    let some : List ℕ → Interaction (List (Option (List ℕ))) = λ these. map_value (λ rest. Some these ∷ rest) (buffer_loads more) in
    elim (is_out b.param.class && not (length b.content == 0)) as (λ c. AllRequests IsLoad (if c then and_then (loads Enclave b.address (length b.content)) some else map_value (λ rest. None ∷ rest) (buffer_loads more))) [
      | true ↦ all_and_then IsLoad (loads Enclave b.address (length b.content)) some (loads_load b.address (length b.content))
          (λ these. all_and_then IsLoad (buffer_loads more) (λ rest. ret (Some these ∷ rest)) (buffers_load more) (λ rest. tt))
      | false ↦ all_and_then IsLoad (buffer_loads more) (λ rest. ret (None ∷ rest)) (buffers_load more) (λ rest. tt)
    ]

reply_loads : (f : Function) (arguments : List Argument) (frame : ℕ) → AllRequests IsLoad (read_reply f arguments frame)
unfolding read_reply
reply_loads f arguments frame =
    all_and_then IsLoad (loads Enclave frame (return_size f)) (λ returned. map_value (λ loaded. record { value = return_value f returned; loaded = loaded }) (buffer_loads (buffers_of f arguments frame)))
    (loads_load frame (return_size f)) (λ returned.
    all_and_then IsLoad (buffer_loads (buffers_of f arguments frame)) (λ loaded. ret (record { value = return_value f returned; loaded = loaded })) (buffers_load (buffers_of f arguments frame)) (λ loaded. tt))

module _ (m : Machine) (handlers : Handlers) (cx : Context) (ordinal : ℕ) (arguments : List Argument) (stack : IsOnHost m.script.settings.host cx) where
  abbrev first_is : List Step → ℕ
  first_is before = length before

  -- an OCALL that is refused
  refused_ocall : (before : List Step) (status : Status) (o : Option Function) → slice_get m.interface.ocalls ordinal ≡ o
      → ((c : Call) → c.context ≡ cx → c.made.status ≡ status → IsOcallRefusal m c arguments o)
      → OcallRan m cx ordinal arguments before [] (ocall_outcome cx ordinal (length before) (length (before ++ [])) (Err status))
  refused_ocall before status o found why =
      let last : ℕ = length (before ++ []) in
      let same : length (before ++ []) ≡ length before = ap (λ l. length l) (append-nil before) in
      let c : Call = record { made = ocall_record cx ordinal 0 Ordinary status (length before) last last; context = cx } in
      let out : OcallOutcome = record { status = status; value = 0; loaded = []; records = c.made ∷ [] } in
      let did : IsOcall m (before ++ []) c arguments [] out = record {
        status_is = refl;
        there = record { before = before; later = []; log_is = refl; place_is = refl };
        last_is = omega (arith, same);
        how = inl (record {
          refused = subst (λ (p : Option Function). IsOcallRefusal m c arguments p) (sym found) (why c refl refl);
          nothing = refl;
          turn_is = same;
          value_is = refl;
          loaded_is = refl;
        });
      } in
      let protected : IsProtectedCall m (c ∷ []) (before ++ []) c = record {
        depth_is = refl;
        ecall = λ kind way. let no : Ocall ≡ Ecall = kind in cc;
        taken = λ kind way. let no : Ocall ≡ Ecall = kind in cc;
        ocall = λ kind. (arguments, [], out, did);
      } in
      record {
        call = c;
        inner = [];
        records_are = refl;
        is_ocall = refl;
        ordinal_is = refl;
        context_is = refl;
        begins = refl;
        did = did;
        are = one_protected m (λ d. d ≡ c) before [] c refl (omega arith, omega (arith, same)) protected tt;
      }

  module _ (f : Function) (found : slice_get m.interface.ocalls ordinal ≡ Some f) (runnable : IsRunnableFunction false f) (fit : FitBlocks f.params arguments)
      (hosts : (frame : ℕ) → IsOnHost m.script.settings.host (handler_context cx ordinal f frame) → (before : List Step) → ProtectsOutcome m (handler_context cx ordinal f frame) before (handlers (handler_context cx ordinal f frame) ordinal f frame)) where
    abbrev inside : ℕ → Context
    inside frame = handler_context cx ordinal f frame

    abbrev ProtectsHost : ℕ → List Step → List Step → HostSide → Type 0
    ProtectsHost frame before steps host = Protects m (IsMadeIn (inside frame)) before steps host.records

    handled : (frame : ℕ) → IsOnHost m.script.settings.host (inside frame) → (before : List Step) (way : _) → Ensures before (λ steps host. ProtectsHost frame before steps host) (map_value (host_side way) (handlers (inside frame) ordinal f frame))
    handled frame on before way =
        ensures_map before (λ steps (out : Outcome). Protects m (IsMadeIn (inside frame)) before steps out.records) (λ steps host. ProtectsHost frame before steps host) (host_side way)
        (handlers (inside frame) ordinal f frame) (hosts frame on before) (λ steps out h. h)

    taken_or_not : (frame : ℕ) → IsOnHost m.script.settings.host (inside frame) → (status : Option ℕ) (before : List Step) → Ensures before (λ steps host. ProtectsHost frame before steps host) (unless_taken (handlers (inside frame) ordinal f frame) status)
    taken_or_not frame on (Some status) before =
        ensures_ret before (λ steps host. ProtectsHost frame before steps host) (record { way = Taken; status = record { 0 = status }; records = [] }) (protects_none m (IsMadeIn (inside frame)) before [] tt)
    taken_or_not frame on None before = handled frame on before Fallback

    role_first : (frame : ℕ) → IsOnHost m.script.settings.host (inside frame) → (b : Bool) (before : List Step) → Ensures before (λ steps host. ProtectsHost frame before steps host)
        (if b then and_then (caller (ocall_pool m.script.settings) (offered_word ordinal frame)) (unless_taken (handlers (inside frame) ordinal f frame)) else map_value (host_side Ordinary) (handlers (inside frame) ordinal f frame))
    role_first frame on true before =
        elsewhere_then m cx before (λ steps host. ProtectsHost frame before steps host) (caller (ocall_pool m.script.settings) (offered_word ordinal frame)) (unless_taken (handlers (inside frame) ordinal f frame))
        (caller_elsewhere (ocall_pool m.script.settings) (offered_word ordinal frame)) (λ steps x h.
        ensures_weaker (before ++ steps) (λ more host. ProtectsHost frame (before ++ steps) more host) (λ more host. ProtectsHost frame before (steps ++ more) host)
        (unless_taken (handlers (inside frame) ordinal f frame) x) (λ more host g. others_before m (IsMadeIn (inside frame)) before steps more host.records h g) (taken_or_not frame on x (before ++ steps)))
    role_first frame on false before = handled frame on before Ordinary

    host_ran : (frame : ℕ) → IsOnHost m.script.settings.host (inside frame) → (before : List Step) → Ensures before (λ steps host. ProtectsHost frame before steps host) (host_run m handlers (inside frame) ordinal f frame)
    host_ran frame on before = role_first frame on (f.switchless && nat_lt 0 m.script.settings.uworkers) before

    -- what was loaded after the host side
    record IsAnswerLoaded (frame : ℕ) (host : HostSide) (log steps : List Step) (done : OcallDone) : Type 0 where
      pub loading : List Event
      pub steps_are : steps ≡ steps_of loading
      pub alone : AllByRecursion IsEnclaveLoad steps
      pub replied : IsReply f arguments frame host.status loading done.reply
      pub turn_is : (last : ℕ) → last ≡ length (log ++ steps) → unwrap_or done.turn last ≡ length log
      pub frame_is : done.frame ≡ frame
      pub host_is : done.host ≡ host

    answer_by : (frame : ℕ) (host : HostSide) (log : List Step) (b : Bool) → is_success host.status ≡ b → Ensures log (λ steps done. IsAnswerLoaded frame host log steps done)
        (if b then here (λ turn. map_value (λ reply. record { frame = frame; host = host; turn = Some turn; reply = reply }) (read_reply f arguments frame))
        else ret (record { frame = frame; host = host; turn = None; reply = no_reply }))
    answer_by frame host log true e =
        ensures_here log (λ steps done. IsAnswerLoaded frame host log steps done) _
        (ensures_map log (λ steps reply. (events : List Event) × (steps ≡ steps_of events) × IsRun (read_reply f arguments frame) events reply) (λ steps done. IsAnswerLoaded frame host log steps done)
        (λ reply. record { frame = frame; host = host; turn = Some (length log); reply = reply }) (read_reply f arguments frame) (λ events reply h places. (events, refl, h)) (λ steps reply h. record {
          loading = h.0;
          steps_are = h.1;
          alone = subst (λ (l : List Step). AllByRecursion IsEnclaveLoad l) (sym h.1) (load_steps (steps_of h.0) (steps_of_run IsLoad (read_reply f arguments frame) (ret reply) h.0 (reply_loads f arguments frame) h.2));
          replied = inl (e, reply_run f arguments frame h.0 reply h.2);
          turn_is = λ last same. refl;
          frame_is = refl;
          host_is = refl;
        }))
    answer_by frame host log false e = ensures_ret log (λ steps done. IsAnswerLoaded frame host log steps done) (record { frame = frame; host = host; turn = None; reply = no_reply }) (record {
      loading = [];
      steps_are = refl;
      alone = tt;
      replied = inr (e, refl, refl);
      turn_is = λ last same. same ∙ ap (λ l. length l) (append-nil log);
      frame_is = refl;
      host_is = refl;
    })

    answer_loaded : (frame : ℕ) (host : HostSide) (log : List Step) → Ensures log (λ steps done. IsAnswerLoaded frame host log steps done) (answer_loads f arguments frame host)
    answer_loaded frame host log = answer_by frame host log (is_success host.status) refl

    -- the three parts of an OCALL that is made
    abbrev frame_at : ℕ
    frame_at = ocall_frame cx f arguments

    record HasParts (before steps : List Step) (done : OcallDone) : Type 0 where
      pub entering : List Event
      pub entered : AreStores frame_at (frame_bytes f arguments frame_at) entering
      pub hosting : List Step
      pub host : HostSide
      pub hosted : ProtectsHost frame_at (before ++ steps_of entering) hosting host
      pub answering : List Step
      pub answered : IsAnswerLoaded frame_at host ((before ++ steps_of entering) ++ hosting) answering done
      pub steps_are : steps ≡ steps_of entering ++ (hosting ++ answering)

    has_parts : first_row (ocall_rows cx f arguments) ≡ None → (before : List Step) → Ensures before (λ steps done. HasParts before steps done) (unrefused_ocall m handlers cx ordinal arguments f)
    has_parts allowed before =
        let host : Interaction HostSide = host_run m handlers (inside frame_at) ordinal f frame_at in
        ensures_then before (λ steps u. (events : List Event) × (steps ≡ steps_of events) × AreStores frame_at (frame_bytes f arguments frame_at) events) (λ steps done. HasParts before steps done)
        (stores Enclave frame_at (frame_bytes f arguments frame_at)) (λ stored. and_then host (answer_loads f arguments frame_at))
        (λ events u h places. (events, refl, stores_run frame_at (frame_bytes f arguments frame_at) events u h)) (λ steps u s.
        ensures_then (before ++ steps) (λ more h. ProtectsHost frame_at (before ++ steps) more h) (λ more done. HasParts before (steps ++ more) done) host (answer_loads f arguments frame_at)
        (host_ran frame_at (handler_on m.script.settings.host cx stack f arguments runnable allowed ordinal) (before ++ steps)) (λ hosting h p.
        ensures_weaker ((before ++ steps) ++ hosting) (λ more done. IsAnswerLoaded frame_at h ((before ++ steps) ++ hosting) more done) (λ more done. HasParts before (steps ++ (hosting ++ more)) done)
        (answer_loads f arguments frame_at h) (λ more done a. record {
          entering = s.0;
          entered = s.2;
          hosting = hosting;
          host = h;
          hosted = subst (λ (l : List Step). ProtectsHost frame_at (before ++ l) hosting h) s.1 p;
          answering = more;
          answered = subst (λ (l : List Step). IsAnswerLoaded frame_at h ((before ++ l) ++ hosting) more done) s.1 a;
          steps_are = ap (λ l. l ++ (hosting ++ more)) s.1;
        }) (answer_loaded frame_at h ((before ++ steps) ++ hosting))))

    module _ (allowed : first_row (ocall_rows cx f arguments) ≡ None) (before : List Step) (done : OcallDone)
        (entering : List Event) (entered : AreStores frame_at (frame_bytes f arguments frame_at) entering)
        (hosting : List Step) (hosted : ProtectsHost frame_at (before ++ steps_of entering) hosting done.host) (answering : List Step)
        (answered : IsAnswerLoaded frame_at done.host ((before ++ steps_of entering) ++ hosting) answering done) where
      abbrev steps_in : List Step
      steps_in = steps_of entering ++ (hosting ++ answering)

      abbrev log : List Step
      log = before ++ steps_in

      abbrev inner : List Call
      inner = hosted.calls

      abbrev this : Call
      this = record { made = ocall_record cx ordinal done.frame done.host.way done.host.status (length before) (unwrap_or done.turn (length log)) (length log); context = cx }

      abbrev all_calls : List Call
      all_calls = this ∷ inner

      abbrev out_is : OcallOutcome
      out_is = ocall_outcome cx ordinal (length before) (length log) (Ok done)

      host_log_grown : IsGrown ((before ++ steps_of entering) ++ hosting) log
      host_log_grown = record { more = answering; new_is = sym (append_assoc (before ++ steps_of entering) hosting answering ∙ append_assoc before (steps_of entering) (hosting ++ answering)) }

      log_length : length log ≡ length before + length (steps_of entering) + length hosting + length answering
      log_length =
          let a : length log ≡ length before + length steps_in = length-append before steps_in in
          let b : length steps_in ≡ length (steps_of entering) + length (hosting ++ answering) = length-append (steps_of entering) (hosting ++ answering) in
          let c : length (hosting ++ answering) ≡ length hosting + length answering = length-append hosting answering in
          omega (arith, a, b, c)

      steps_length : length steps_in ≡ length (steps_of entering) + length hosting + length answering
      steps_length =
          let b : length steps_in ≡ length (steps_of entering) + length (hosting ++ answering) = length-append (steps_of entering) (hosting ++ answering) in
          let c : length (hosting ++ answering) ≡ length hosting + length answering = length-append hosting answering in
          omega (arith, b, c)

      turn_at : unwrap_or done.turn (length log) ≡ length before + length (steps_of entering) + length hosting
      unfolding host_log_grown
      turn_at =
          let whole : length log ≡ length (((before ++ steps_of entering) ++ hosting) ++ answering) = ap (λ l. length l) host_log_grown.new_is in
          let a : length ((before ++ steps_of entering) ++ hosting) ≡ length (before ++ steps_of entering) + length hosting = length-append (before ++ steps_of entering) hosting in
          let b : length (before ++ steps_of entering) ≡ length before + length (steps_of entering) = length-append before (steps_of entering) in
          answered.turn_is (length log) whole ∙ a ∙ ap (λ n. n + length hosting) b

      stored_at : AreStores done.frame (frame_bytes f arguments done.frame) entering
      stored_at = subst (λ n. AreStores n (frame_bytes f arguments n) entering) (sym answered.frame_is) entered

      abbrev told : IsMadeOcall m this arguments steps_in out_is
      told = record {
        function = f;
        found = found;
        allowed = allowed;
        frame_is = answered.frame_is;
        entering = entering;
        entered = stored_at;
        hosting = hosting;
        loading = answered.loading;
        reply = done.reply;
        replied = subst (λ n. IsReply f arguments n done.host.status answered.loading done.reply) (sym answered.frame_is) answered.replied;
        value_is = refl;
        loaded_is = refl;
        steps_are = ap (λ l. steps_of entering ++ (hosting ++ l)) answered.steps_are;
        turn_is = turn_at;
      }

      there : StandAt log (length before) steps_in
      there = record { before = before; later = []; log_is = ap (λ l. before ++ l) (sym (append-nil steps_in)); place_is = refl }

      did : IsOcall m log this arguments steps_in out_is
      did = record { status_is = refl; there = there; last_is = length-append before steps_in; how = inr told }

      this_protected : IsProtectedCall m all_calls log this
      this_protected = record {
        depth_is = refl;
        ecall = λ kind way. let no : Ocall ≡ Ecall = kind in cc;
        taken = λ kind way. let no : Ocall ≡ Ecall = kind in cc;
        ocall = λ kind. (arguments, steps_in, out_is, did);
      }

      inner_within : (c : Call) → IsWithin (before ++ steps_of entering) hosting c → (length before ≤ c.made.first) × (c.made.last ≤ length log)
      inner_within c w =
          let b : length (before ++ steps_of entering) ≡ length before + length (steps_of entering) = length-append before (steps_of entering) in
          let low : length (before ++ steps_of entering) ≤ c.made.first = w.0 in
          let high : c.made.last ≤ length (before ++ steps_of entering) + length hosting = w.1 in
          (omega (arith, b, low), omega (arith, b, high, log_length))

      inner_context : (c : Call) → IsWithin (before ++ steps_of entering) hosting c × (IsMadeIn (inside frame_at) c ⊎ IsNested m inner ((before ++ steps_of entering) ++ hosting) c)
          → (c ≡ this) ⊎ IsNested m all_calls log c
      inner_context c (w, inl k) = inr (record {
        outer = this;
        is_call = at_head this inner;
        how = inl (record {
          is_ocall = refl;
          function = f;
          found = found;
          context_is = subst (λ n. IsMadeIn (inside n) c) (sym answered.frame_is) k;
          from_first = (inner_within c w).0;
          to_last = (inner_within c w).1;
        });
      })
      inner_context c (w, inr n) = inr (nested_grown m ((before ++ steps_of entering) ++ hosting) log host_log_grown inner all_calls (among_tail this inner) c n)

      frame_stores : AreAccountedFor m NoStep all_calls log (length before) (steps_of entering)
      frame_stores =
          let size : length (frame_bytes f arguments done.frame) ≡ ocall_size f arguments = frame_length f arguments done.frame runnable in
          let P : Step → Type 0 = λ s. IsWordIn done.frame (length (frame_bytes f arguments done.frame)) s.index in
          each_weaker (λ place s. (length before ≤ place) × (place < length before + length (steps_of entering)) × (IsSwap s × P s))
          (λ place s. s.side ≡ Enclave → NoStep s ⊎ IsAccountedFor m all_calls log place s)
          (λ place s h w. inr (record {
            call = this;
            is_call = at_head this inner;
            how = inr (inr (inl (record {
              is_ocall = refl;
              is_store = h.2.0;
              in_host = frame_word m.script.settings.host cx stack f arguments runnable allowed s.index
                  (subst (λ a. IsWordIn a (ocall_size f arguments) s.index) answered.frame_is (subst (λ n. IsWordIn done.frame n s.index) size h.2.1));
              arguments = arguments;
              steps = steps_in;
              out = out_is;
              there = there;
              made_it = told;
              from_first = h.0;
              before_host = h.1;
              inside = subst (λ n. IsWordIn done.frame n s.index) size h.2.1;
            })));
          })) (length before) (steps_of entering)
          (each_between (λ s. IsSwap s × P s) (length before) (length before + length (steps_of entering)) (length before) (steps_of entering) (omega arith) (omega arith)
          (all_both IsSwap P (steps_of entering) (stores_swap done.frame (frame_bytes f arguments done.frame) entering stored_at)
          (recursion_from_All P (steps_of entering) (stores_within done.frame (frame_bytes f arguments done.frame) entering stored_at))))

      reply_accounted : AreAccountedFor m NoStep all_calls log (length before + length (steps_of entering) + length hosting) answering
      reply_accounted =
          let low : ℕ = length before + length (steps_of entering) + length hosting in
          let turn : unwrap_or done.turn (length log) ≡ length before + length (steps_of entering) + length hosting = turn_at in
          let P : Step → Type 0 = λ s. IsWordIn frame_at (ocall_size f arguments) s.index in
          let within : AllByRecursion P answering =
          subst (λ l. AllByRecursion P l) (sym answered.steps_are) (reply_inside f arguments frame_at done.host.status answered.loading done.reply runnable fit answered.replied) in
          each_weaker (λ place s. (low ≤ place) × (place < length log) × (IsEnclaveLoad s × P s)) (λ place s. s.side ≡ Enclave → NoStep s ⊎ IsAccountedFor m all_calls log place s)
          (λ place s h w. inr (record {
            call = this;
            is_call = at_head this inner;
            how = inr (inr (inr (inl (record {
              is_ocall = refl;
              is_load = h.2.0.1;
              in_host = frame_word m.script.settings.host cx stack f arguments runnable allowed s.index h.2.1;
              arguments = arguments;
              steps = steps_in;
              out = out_is;
              there = there;
              made_it = told;
              from_turn = subst (λ n. n ≤ place) (sym turn) h.0;
              to_last = h.1;
              inside = subst (λ a. IsWordIn a (ocall_size f arguments) s.index) (sym answered.frame_is) h.2.1;
            }))));
          })) low answering
          (each_between (λ s. IsEnclaveLoad s × P s) low (length log) low answering (omega arith) (omega (arith, log_length)) (all_both IsEnclaveLoad P answering answered.alone within))

      all_accesses : AreAccountedFor m NoStep all_calls log (length before) steps_in
      all_accesses =
          let P : ℕ → Step → Type 0 = λ place s. s.side ≡ Enclave → NoStep s ⊎ IsAccountedFor m all_calls log place s in
          let begin : length (before ++ steps_of entering) ≡ length before + length (steps_of entering) = length-append before (steps_of entering) in
          each_append P (length before) (steps_of entering) (hosting ++ answering) frame_stores
          (each_append P (length before + length (steps_of entering)) hosting answering
          (subst (λ n. AreAccountedFor m NoStep all_calls log n hosting) begin
          (accesses_grown m NoStep NoStep (λ s t. t) ((before ++ steps_of entering) ++ hosting) log host_log_grown inner all_calls (among_tail this inner) (length (before ++ steps_of entering)) hosting hosted.are.accesses))
          reply_accounted)

      made_in : OcallRan m cx ordinal arguments before steps_in out_is
      made_in =
          let old : List Step = (before ++ steps_of entering) ++ hosting in
          let begin : length (before ++ steps_of entering) ≡ length before + length (steps_of entering) = length-append before (steps_of entering) in
          record {
            call = this;
            inner = inner;
            records_are = ap (λ l. this.made ∷ l) hosted.records_are;
            is_ocall = refl;
            ordinal_is = refl;
            context_is = refl;
            begins = refl;
            did = did;
            are = record {
              contexts = All-cons (λ c. (c ≡ this) ⊎ IsNested m all_calls log c) this inner (inl refl) (λ k d below. inner_context _ (hosted.are.within k d below, hosted.are.contexts k d below));
              within = All-cons (IsWithin before steps_in) this inner (omega arith, omega (arith, log_length, steps_length))
                  (within_wider (before ++ steps_of entering) hosting before steps_in (omega (arith, begin)) (omega (arith, begin, steps_length)) inner hosted.are.within);
              protected = All-cons (IsProtectedCall m all_calls log) this inner this_protected
                  (All-weaker (IsProtectedCall m inner old) (IsProtectedCall m all_calls log) (λ c h. call_grown m old log host_log_grown inner all_calls (among_tail this inner) c h) inner hosted.are.protected);
              accesses = all_accesses;
            };
          }

    made_ran : first_row (ocall_rows cx f arguments) ≡ None → (before steps : List Step) (done : OcallDone) → HasParts before steps done
        → OcallRan m cx ordinal arguments before steps (ocall_outcome cx ordinal (length before) (length (before ++ steps)) (Ok done))
    made_ran allowed before steps done p =
        subst (λ (l : List Step). OcallRan m cx ordinal arguments before l (ocall_outcome cx ordinal (length before) (length (before ++ l)) (Ok done))) (sym p.steps_are)
        (made_in allowed before done p.entering p.entered p.hosting
        (subst (λ (h : HostSide). ProtectsHost frame_at (before ++ steps_of p.entering) p.hosting h) (sym p.answered.host_is) p.hosted) p.answering
        (subst (λ (h : HostSide). IsAnswerLoaded frame_at h ((before ++ steps_of p.entering) ++ p.hosting) p.answering done) (sym p.answered.host_is) p.answered))

  -- what is said of a whole OCALL's result
  abbrev ResultRan : List Step → List Step → Result OcallDone Status → Type 0
  ResultRan before steps result = OcallRan m cx ordinal arguments before steps (ocall_outcome cx ordinal (length before) (length (before ++ steps)) result)

  module _ (runnable : (f : Function) → slice_get m.interface.ocalls ordinal ≡ Some f → IsRunnableFunction false f) (fits : FitOcall m.interface ordinal arguments)
      (hosts : (f : Function) → slice_get m.interface.ocalls ordinal ≡ Some f → (frame : ℕ) → IsOnHost m.script.settings.host (handler_context cx ordinal f frame) → (before : List Step)
      → ProtectsOutcome m (handler_context cx ordinal f frame) before (handlers (handler_context cx ordinal f frame) ordinal f frame)) where
    by_rows : (f : Function) → slice_get m.interface.ocalls ordinal ≡ Some f → (row : Option Status) → first_row (ocall_rows cx f arguments) ≡ row → (before : List Step)
        → Ensures before (λ steps result. ResultRan before steps result) (go_on_if_ok {B = OcallDone} (λ allowed. map_value (λ done. Ok done) (unrefused_ocall m handlers cx ordinal arguments f)) (unless_refused row))
    by_rows f found None e before =
        ensures_map before (λ steps done. HasParts f found (runnable f found) (fits f found) (hosts f found) before steps done) (λ steps result. ResultRan before steps result) (λ done. Ok done) (unrefused_ocall m handlers cx ordinal arguments f)
        (has_parts f found (runnable f found) (fits f found) (hosts f found) e before) (λ steps done p. made_ran f found (runnable f found) (fits f found) (hosts f found) e before steps done p)
    by_rows f found (Some status) e before =
        ensures_ret before (λ steps result. ResultRan before steps result) (Err status)
        (refused_ocall before status (Some f) found (λ c cx_is status_is. subst (λ k. first_row (ocall_rows k f arguments) ≡ Some c.made.status) (sym cx_is) (e ∙ ap (λ s. Some s) (sym status_is))))

    by_found : (o : Option Function) → slice_get m.interface.ocalls ordinal ≡ o → (before : List Step) → Ensures before (λ steps result. ResultRan before steps result) (ocall_or_refusal m handlers cx ordinal arguments o)
    by_found None found before = ensures_ret before (λ steps result. ResultRan before steps result) (Err INVALID_FUNCTION) (refused_ocall before INVALID_FUNCTION None found (λ c cx_is status_is. status_is))
    by_found (Some f) found before = by_rows f found (first_row (ocall_rows cx f arguments)) refl before

    -- a whole OCALL
    pub ocall_ran : (before : List Step) → Ensures before (λ steps out. OcallRan m cx ordinal arguments before steps out) (ocall_by m handlers cx ordinal arguments)
    unfolding ocall_by
    ocall_ran before =
        let Q : List Step → OcallOutcome → Type 0 = λ steps out. OcallRan m cx ordinal arguments before steps out in
        ensures_tick before Q new_record _ (ensures_here before Q _ (ensures_then before (λ steps result. ResultRan before steps result) Q
        (ocall_or_refusal m handlers cx ordinal arguments (slice_get m.interface.ocalls ordinal)) (λ result. here (λ last. ret (ocall_outcome cx ordinal (length before) last result)))
        (by_found (slice_get m.interface.ocalls ordinal) refl before) (λ steps result h.
        ensures_here (before ++ steps) (λ more out. Q (steps ++ more) out) _
        (ensures_ret (before ++ steps) (λ more out. Q (steps ++ more) out) (ocall_outcome cx ordinal (length before) (length (before ++ steps)) result)
        (subst (λ (l : List Step). Q l (ocall_outcome cx ordinal (length before) (length (before ++ steps)) result)) (sym (append-nil steps)) h)))))
