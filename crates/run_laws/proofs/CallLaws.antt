-- The host's calls are protected, where entries are.
use Rattle.std.proofs.Common.{ℕ, ◌+◌, ◌≡◌, ◌≢◌, ◌<◌, ◌≤◌, ◌&&◌, nat_lt, ◌⊎◌, inl, inr, Bool, true, false, if◌then◌else◌, List, [], ◌∷◌, ◌++◌, length, zip, Option, Some, None, slice_get, refl, ap, sym, ◌∙◌, subst, arith, append-nil, length-append}
use Rattle.std.proofs.lemmas.List.Elements.{All-weaker}
use Rattle.std.proofs.lemmas.Bool.{ltb-true}
use Rattle.sgx_base.specs.declared.TheConstants.Status.{UNEXPECTED}
use Rattle.edl_interface.specs.declared.Function.{Function}
use Rattle.edl_interface.specs.Parameters.{has_frame, return_size}
use Rattle.word_port.specs.declared.Step.{Step}
use Rattle.word_port.specs.declared.Side.TheVariants.{Host}
use Rattle.word_port.specs.Events.{new_record}
use Rattle.word_port.specs.Interaction.{Interaction, ret, here, and_then, map_value}
use Rattle.word_port.specs.Accesses.{loads, stores}
use Rattle.word_port.proofs.RequestLaws.{AllSteps}
use Rattle.ocall_frames.specs.Stack.{frame_below}
use Rattle.switchless.specs.Slots.{offered_word}
use Rattle.switchless.specs.Caller.{caller}
use Rattle.call_script.specs.declared.CallArg.{CallArg}
use Rattle.call_report.specs.declared.CallRecord.{CallRecord}
use Rattle.call_report.specs.declared.CallKind.TheVariants.{Ecall, Ocall}
use Rattle.call_report.specs.declared.Way.{Way}
use Rattle.call_report.specs.declared.Way.TheVariants.{Ordinary, Fallback, Taken}
use Rattle.bridge_program.specs.Entry.{is_empty}
use Rattle.call_machine.specs.declared.Machine.{Machine}
use Rattle.call_machine.specs.Context.{Context}
use Rattle.call_machine.specs.Result.{Outcome, is_success}
use Rattle.call_machine.specs.Ecall.{Ecalls, ecall_record}
use Rattle.call_machine.specs.Calls.{string_lengths, call_frame, ecall_pool, with_record, taken_record, unless_taken, entry, with_return, call_in_frame, call_where, call_to, host_call, raw_call}
use Rattle.run_laws.specs.Calls.{Call, IsMadeIn}
use Rattle.run_laws.specs.Protected.{IsNested, IsProtectedCall}
use Rattle.run_laws.proofs.Triples.{Ensures, ensures_ret, ensures_then, ensures_map, ensures_here, ensures_tick, ensures_requests, ensures_weaker}
use Rattle.run_laws.proofs.Protects.{Protects, IsElsewhere, protects_none, protects_one, protects_then}
use Rattle.run_laws.proofs.HostStack.{IsOnHost, with_frame}
use Rattle.run_laws.proofs.ActLaws.{ProtectsRecords, elsewhere_then, host_loads, host_stores}
use Rattle.run_laws.proofs.CallerLaws.{host_other, caller_elsewhere, lengths_elsewhere}

-- the call was made in this context, with its frame at this address
abbrev pub IsMadeAt : Context → ℕ → Call → Type 0
IsMadeAt cx address c = (c.context ≡ cx) × (c.made.frame ≡ address)

-- entries in contexts whose stack has so many entries at least, up to 16, are protected
abbrev pub EcallsProtect : Machine → ℕ → Ecalls → Type 0
EcallsProtect m room ecalls = (before : List Step) (cx : Context) (ordinal address : ℕ) (way : Way) → way ≢ Taken → 16 ≤ length cx.stack + room → IsOnHost m.script.settings.host cx
    → Ensures before (λ steps (out : Outcome). Protects m (IsMadeAt cx address) before steps out.records) (ecalls cx ordinal address way)

-- where more is known of the outermost calls
pub top_weaker : (m : Machine) (P Q : Call → Type 0) → ((c : Call) → P c → Q c) → (before steps : List Step) (records : List CallRecord) → Protects m P before steps records → Protects m Q before steps records
top_weaker m P Q f before steps records h = record {
  calls = h.calls;
  records_are = h.records_are;
  are = record {
    contexts = All-weaker (λ c. P c ⊎ IsNested m h.calls (before ++ steps) c) (λ c. Q c ⊎ IsNested m h.calls (before ++ steps) c) (λ c e. elim e [ inl t ↦ inl (f c t) | inr n ↦ inr n ]) h.calls h.are.contexts;
    within = h.are.within;
    protected = h.are.protected;
    accesses = h.are.accesses;
  };
}

-- steps by others before, and after
pub others_before : (m : Machine) (Top : Call → Type 0) (before first more : List Step) (records : List CallRecord)
    → AllSteps IsElsewhere first → Protects m Top (before ++ first) more records → Protects m Top before (first ++ more) records
others_before m Top before first more records p q = protects_then m Top before first more [] records (protects_none m Top before first p) q

pub others_after : (m : Machine) (Top : Call → Type 0) (before first more : List Step) (records : List CallRecord)
    → Protects m Top before first records → AllSteps IsElsewhere more → Protects m Top before (first ++ more) records
others_after m Top before first more records p q =
    subst (λ l. Protects m Top before (first ++ more) l) (append-nil records) (protects_then m Top before first more records [] p (protects_none m Top (before ++ first) more q))

pub not_taken_first : Ordinary ≢ Taken
not_taken_first e = cc

not_taken_back : Fallback ≢ Taken
not_taken_back e = cc

some_workers : (empty switchless : Bool) (workers : ℕ) → (empty && (switchless && nat_lt 0 workers)) ≡ true → 0 < workers
some_workers true true workers e = ltb-true 0 workers e
some_workers true false workers e = cc
some_workers false switchless workers e = cc

module _ (m : Machine) (ecalls : Ecalls) (room : ℕ) (entries : EcallsProtect m room ecalls) where
  module _ (cx : Context) (deep : 16 ≤ length cx.stack + room) (on : IsOnHost m.script.settings.host cx) where
    taken_protected : (ordinal frame status first last : ℕ) (log : List Step) (among : List Call) → 0 < m.script.settings.tworkers
        → IsProtectedCall m among log (record { made = taken_record cx ordinal frame status first last; context = cx })
    taken_protected ordinal frame status first last log among workers = record {
      depth_is = refl;
      ecall = λ kind way. absurd (way refl);
      taken = λ kind way. workers;
      ocall = λ kind. let no : Ecall ≡ Ocall = kind in cc;
    }

    -- after a caller's role with these steps
    taken_or_not : (ordinal frame : ℕ) (status : Option ℕ) (before role : List Step) → AllSteps IsElsewhere role → 0 < m.script.settings.tworkers
        → Ensures (before ++ role) (λ steps (out : Outcome). Protects m (IsMadeAt cx frame) before (role ++ steps) out.records) (unless_taken ecalls cx ordinal frame (length before) status)
    taken_or_not ordinal frame None before role h workers =
        ensures_weaker (before ++ role) (λ more (out : Outcome). Protects m (IsMadeAt cx frame) (before ++ role) more out.records) (λ more (out : Outcome). Protects m (IsMadeAt cx frame) before (role ++ more) out.records)
        (ecalls cx ordinal frame Fallback) (λ more out g. others_before m (IsMadeAt cx frame) before role more out.records h g) (entries (before ++ role) cx ordinal frame Fallback not_taken_back deep on)
    taken_or_not ordinal frame (Some status) before role h workers =
        let Q : List Step → Outcome → Type 0 = λ steps out. Protects m (IsMadeAt cx frame) before (role ++ steps) out.records in
        let last : ℕ = length (before ++ role) in
        let grown : length (before ++ role) ≡ length before + length role = length-append before role in
        let out : Outcome = record { status = record { 0 = status }; records = taken_record cx ordinal frame status (length before) last ∷ [] } in
        ensures_here (before ++ role) Q _ (ensures_ret (before ++ role) Q out
        (subst (λ l. Protects m (IsMadeAt cx frame) before l out.records) (sym (append-nil role))
        (protects_one m (IsMadeAt cx frame) before role (record { made = taken_record cx ordinal frame status (length before) last; context = cx }) h (refl, refl) (omega arith, omega (arith, grown))
        (taken_protected ordinal frame status (length before) last (before ++ role) _ workers))))

    role_first : (f : Function) (ordinal frame : ℕ) (b : Bool) (before : List Step) → (b ≡ true → 0 < m.script.settings.tworkers)
        → Ensures before (λ steps (out : Outcome). Protects m (IsMadeAt cx frame) before steps out.records)
        (if b then here (λ first. and_then (caller (ecall_pool m.script.settings) (offered_word ordinal frame)) (unless_taken ecalls cx ordinal frame first)) else ecalls cx ordinal frame Ordinary)
    role_first f ordinal frame true before workers =
        let Q : List Step → Outcome → Type 0 = λ steps out. Protects m (IsMadeAt cx frame) before steps out.records in
        let role : Interaction (Option ℕ) = caller (ecall_pool m.script.settings) (offered_word ordinal frame) in
        ensures_here before Q (λ first. and_then role (unless_taken ecalls cx ordinal frame first))
        (elsewhere_then m cx before Q role (unless_taken ecalls cx ordinal frame (length before)) (caller_elsewhere (ecall_pool m.script.settings) (offered_word ordinal frame))
        (λ steps x h. taken_or_not ordinal frame x before steps h (workers refl)))
    role_first f ordinal frame false before workers = entries before cx ordinal frame Ordinary not_taken_first deep on

    pub entry_protected : (ordinal : ℕ) (f : Function) (frame : ℕ) (before : List Step)
        → Ensures before (λ steps (out : Outcome). Protects m (IsMadeAt cx frame) before steps out.records) (entry m ecalls cx ordinal f frame)
    entry_protected ordinal f frame before =
        ensures_tick before (λ steps (out : Outcome). Protects m (IsMadeAt cx frame) before steps out.records) new_record _
        (role_first f ordinal frame (is_empty cx.stack && (f.switchless && nat_lt 0 m.script.settings.tworkers)) before
        (some_workers (is_empty cx.stack) f.switchless m.script.settings.tworkers))

  module _ (cx : Context) (deep : 16 ≤ length cx.stack + room) (on : IsOnHost m.script.settings.host cx) where
    -- after the entry, the return is loaded
    return_loaded : (f : Function) (frame : ℕ) (out : Outcome) (b : Bool) (before : List Step)
        → Ensures before (λ steps records. (records ≡ out.records) × AllSteps IsElsewhere steps) (if b then map_value (λ bytes. out.records) (loads Host frame (return_size f)) else ret out.records)
    return_loaded f frame out true before =
        ensures_map before (λ steps bytes. AllSteps IsElsewhere steps) (λ steps (records : List CallRecord). (records ≡ out.records) × AllSteps IsElsewhere steps) (λ bytes. out.records) (loads Host frame (return_size f))
        (ensures_requests before IsElsewhere (loads Host frame (return_size f)) (host_loads Host host_other frame (return_size f))) (λ steps bytes h. (refl, h))
    return_loaded f frame out false before = ensures_ret before (λ steps (records : List CallRecord). (records ≡ out.records) × AllSteps IsElsewhere steps) out.records (refl, tt)

    at_frame : (size frame : ℕ) → frame_below cx.base cx.top size ≡ Some frame → (c : Call) → IsMadeAt (record cx { top = frame }) frame c → IsMadeIn cx c
    at_frame size frame fits c h = inr (record { size = size; fits = fits ∙ ap (λ n. Some n) (sym h.1); context_is = h.0 ∙ ap (λ n. record cx { top = n }) (sym h.1) })

    in_frame : (ordinal : ℕ) (f : Function) (bytes : List ℕ) (frame : ℕ) → frame_below cx.base cx.top f.frame_size ≡ Some frame → (before : List Step) → ProtectsRecords m cx before (call_in_frame m ecalls cx ordinal f bytes frame)
    in_frame ordinal f bytes frame fits before =
        let Q : List Step → List CallRecord → Type 0 = λ steps records. Protects m (IsMadeIn cx) before steps records in
        let enters : Interaction Outcome = entry m ecalls (record cx { top = frame }) ordinal f frame in
        elsewhere_then m cx before Q (stores Host frame bytes) (λ stored. and_then enters (with_return f frame)) (host_stores Host host_other frame bytes) (λ steps stored h.
        ensures_then (before ++ steps) (λ more (out : Outcome). Protects m (IsMadeAt (record cx { top = frame }) frame) (before ++ steps) more out.records) (λ more records. Q (steps ++ more) records) enters (with_return f frame)
        (entry_protected (record cx { top = frame }) deep (with_frame m.script.settings.host cx f.frame_size frame on fits) ordinal f frame (before ++ steps)) (λ more out g.
        ensures_weaker ((before ++ steps) ++ more) (λ last records. (records ≡ out.records) × AllSteps IsElsewhere last) (λ last records. Q (steps ++ (more ++ last)) records) (with_return f frame out)
        (λ last records e.
        subst (λ l. Q (steps ++ (more ++ last)) l) (sym e.0)
        (others_before m (IsMadeIn cx) before steps (more ++ last) out.records h
        (others_after m (IsMadeIn cx) (before ++ steps) more last out.records
        (top_weaker m (IsMadeAt (record cx { top = frame }) frame) (IsMadeIn cx) (at_frame f.frame_size frame fits) (before ++ steps) more out.records g) e.1)))
        (return_loaded f frame out (is_success out.status) ((before ++ steps) ++ more))))

    unfit_protected : (ordinal : ℕ) (f : Function) (place : ℕ) (log : List Step) (among : List Call) → slice_get m.interface.ecalls ordinal ≡ Some f → frame_below cx.base cx.top f.frame_size ≡ None
        → IsProtectedCall m among log (record { made = ecall_record cx ordinal 0 Ordinary UNEXPECTED place place place; context = cx })
    unfit_protected ordinal f place log among found none = record {
      depth_is = refl;
      ecall = λ kind way. inl (record {
        function = f;
        found = found;
        no_room = none;
        no_frame = refl;
        way_is = refl;
        status_is = refl;
        turn_is = refl;
        last_is = refl;
      });
      taken = λ kind way. absurd (not_taken_first way);
      ocall = λ kind. let no : Ecall ≡ Ocall = kind in cc;
    }

    where_it_fits : (ordinal : ℕ) (f : Function) (bytes : ℕ → List ℕ) → slice_get m.interface.ecalls ordinal ≡ Some f → (o : Option ℕ) → frame_below cx.base cx.top f.frame_size ≡ o → (before : List Step)
        → ProtectsRecords m cx before (call_where m ecalls cx ordinal f bytes o)
    where_it_fits ordinal f bytes found None e before =
        let Q : List Step → List CallRecord → Type 0 = λ steps records. Protects m (IsMadeIn cx) before steps records in
        ensures_tick before Q new_record _ (ensures_here before Q _ (ensures_ret before Q (ecall_record cx ordinal 0 Ordinary UNEXPECTED (length before) (length before) (length before) ∷ [])
        (protects_one m (IsMadeIn cx) before [] (record { made = ecall_record cx ordinal 0 Ordinary UNEXPECTED (length before) (length before) (length before); context = cx }) tt (inl refl) (omega arith, omega arith)
        (unfit_protected ordinal f (length before) (before ++ []) _ found e))))
    where_it_fits ordinal f bytes found (Some frame) e before = in_frame ordinal f (bytes frame) frame e before

    made_in : (address : ℕ) (c : Call) → IsMadeAt cx address c → IsMadeIn cx c
    made_in address c h = inl h.0

    call_by : (handler_frame ordinal : ℕ) (args : List CallArg) (f : Function) → slice_get m.interface.ecalls ordinal ≡ Some f → (b : Bool) (before : List Step)
        → ProtectsRecords m cx before (if b
        then and_then (string_lengths m.script.settings.host handler_frame (zip f.params args)) (λ lengths.
        call_where m ecalls cx ordinal f (λ frame. call_frame f handler_frame args lengths) (frame_below cx.base cx.top f.frame_size))
        else map_value (λ out. out.records) (entry m ecalls cx ordinal f 0))
    call_by handler_frame ordinal args f found true before =
        let Q : List Step → List CallRecord → Type 0 = λ steps records. Protects m (IsMadeIn cx) before steps records in
        elsewhere_then m cx before Q (string_lengths m.script.settings.host handler_frame (zip f.params args))
        (λ lengths. call_where m ecalls cx ordinal f (λ frame. call_frame f handler_frame args lengths) (frame_below cx.base cx.top f.frame_size))
        (lengths_elsewhere m.script.settings.host handler_frame (zip f.params args)) (λ steps lengths h.
        ensures_weaker (before ++ steps) (λ more records. Protects m (IsMadeIn cx) (before ++ steps) more records) (λ more records. Q (steps ++ more) records)
        (call_where m ecalls cx ordinal f (λ frame. call_frame f handler_frame args lengths) (frame_below cx.base cx.top f.frame_size))
        (λ more records g. others_before m (IsMadeIn cx) before steps more records h g)
        (where_it_fits ordinal f (λ frame. call_frame f handler_frame args lengths) found (frame_below cx.base cx.top f.frame_size) refl (before ++ steps)))
    call_by handler_frame ordinal args f found false before =
        ensures_map before (λ steps (out : Outcome). Protects m (IsMadeAt cx 0) before steps out.records) (λ steps records. Protects m (IsMadeIn cx) before steps records) (λ out. out.records) (entry m ecalls cx ordinal f 0)
        (entry_protected cx deep on ordinal f 0 before) (λ steps out h. top_weaker m (IsMadeAt cx 0) (IsMadeIn cx) (made_in 0) before steps out.records h)

    call_found : (handler_frame ordinal : ℕ) (args : List CallArg) (o : Option Function) → slice_get m.interface.ecalls ordinal ≡ o → (before : List Step)
        → ProtectsRecords m cx before (call_to m ecalls cx handler_frame ordinal args o)
    call_found handler_frame ordinal args None e before = ensures_ret before (λ steps records. Protects m (IsMadeIn cx) before steps records) [] (protects_none m (IsMadeIn cx) before [] tt)
    call_found handler_frame ordinal args (Some f) e before = call_by handler_frame ordinal args f e (has_frame f) before

    -- a call by its ordinal
    pub calls_protected : (handler_frame : ℕ) (before : List Step) (ordinal : ℕ) (args : List CallArg) → ProtectsRecords m cx before (host_call m ecalls cx handler_frame ordinal args)
    calls_protected handler_frame before ordinal args = call_found handler_frame ordinal args (slice_get m.interface.ecalls ordinal) refl before

    -- a call at an address of the script's own
    pub raw_protected : (before : List Step) (ordinal address : ℕ) → ProtectsRecords m cx before (raw_call ecalls cx ordinal address)
    raw_protected before ordinal address =
        ensures_map before (λ steps (out : Outcome). Protects m (IsMadeAt cx address) before steps out.records) (λ steps records. Protects m (IsMadeIn cx) before steps records) (λ out. out.records)
        (with_record (ecalls cx ordinal address Ordinary))
        (ensures_tick before (λ steps (out : Outcome). Protects m (IsMadeAt cx address) before steps out.records) new_record (ecalls cx ordinal address Ordinary) (entries before cx ordinal address Ordinary not_taken_first deep on))
        (λ steps out h. top_weaker m (IsMadeAt cx address) (IsMadeIn cx) (made_in address) before steps out.records h)
