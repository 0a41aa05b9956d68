-- An ECALL is protected, where its OCALLs are.
use Rattle.std.proofs.Common.{ℕ, suc, ◌+◌, ◌≡◌, ◌≢◌, ◌<◌, ◌≤◌, ◌⊎◌, inl, inr, List, [], ◌∷◌, ◌++◌, length, true, zip, Some, None, slice_get, Result, Ok, Err, refl, ap, sym, ◌∙◌, subst, arith, append-nil, append_assoc, length-append}
use Rattle.std.specs.List.{All, AllByRecursion, Contains}
use Rattle.std.proofs.lemmas.List.Elements.{All-cons, All-weaker, recursion_from_All}
use Rattle.sgx_base.specs.Bytes.{low_bytes}
use Rattle.sgx_base.specs.Rows.{first_row}
use Rattle.sgx_base.specs.declared.Status.{Status}
use Rattle.sgx_base.specs.declared.TheConstants.Status.{SUCCESS}
use Rattle.edl_interface.specs.declared.Function.{Function}
use Rattle.edl_interface.specs.Parameters.{marshalled, return_size}
use Rattle.edl_interface.specs.Runnable.{IsRunnableFunction}
use Rattle.word_port.specs.declared.Step.{Step}
use Rattle.word_port.specs.declared.Side.TheVariants.{Enclave}
use Rattle.word_port.specs.Events.{Event, placed, steps_of, HasPlaces}
use Rattle.word_port.specs.Interaction.{ret, here}
use Rattle.word_port.proofs.Laws.{steps_of-append}
use Rattle.enclave_memory.specs.Arguments.{Argument}
use Rattle.body_vm.specs.Execution.{Execution}
use Rattle.bridge_program.specs.Entry.{entry_rows}
use Rattle.call_report.specs.declared.CallKind.TheVariants.{Ecall, Ocall}
use Rattle.call_report.specs.declared.Way.{Way}
use Rattle.call_report.specs.declared.Way.TheVariants.{Taken}
use Rattle.call_machine.specs.declared.Machine.{Machine}
use Rattle.call_machine.specs.Context.{Context, context_in_ecall}
use Rattle.call_machine.specs.Result.{Outcome}
use Rattle.call_machine.specs.Sound.{IsSoundBody}
use Rattle.call_machine.specs.Ecall.{Ocalls, OcallOutcome, Answered, body_of, ecall_record, ecall_outcome, entered, ecall_by}
use Rattle.call_laws.specs.Transfers.{loads_of}
use Rattle.call_laws.specs.Answering.{IsAnsweredRun}
use Rattle.call_machine.specs.Entry.{IsEnclaveLoad}
use Rattle.call_laws.specs.Refusing.{IsRefusedRun}
use Rattle.call_laws.proofs.Lengths.{OcallsKeepLengths}
use Rattle.call_laws.specs.Within.{IsInAnswer}
use Rattle.call_laws.proofs.EntryLaws.{EntryRun, entered_run}
use Rattle.call_laws.proofs.LoadsAlone.{loads_append, loads_of_alone, copying_alone, refused_alone}
use Rattle.call_laws.proofs.KeepingLaws.{copies_kept}
use Rattle.call_laws.proofs.WithinLaws.{answer_within}
use Rattle.run_laws.specs.Calls.{Call}
use Rattle.run_laws.specs.Bodies.{IsCarriedOut}
use Rattle.run_laws.specs.Ecalls.{IsRefused, IsAnswered}
use Rattle.run_laws.specs.Protected.{IsNested, IsProtectedCall, IsAccountedFor}
use Rattle.run_laws.proofs.Triples.{Ensures, places_split, ensures_ret, ensures_then, ensures_here}
use Rattle.run_laws.proofs.Growth.{IsGrown, carried_grown, nested_grown, call_grown}
use Rattle.run_laws.proofs.Protects.{EachFrom, NoStep, each_append, each_weaker, AreAccountedFor, IsWithin, Protects, among_tail, within_wider, accesses_grown, one_protected}
use Rattle.run_laws.proofs.InHost.{InHost, refused_in, arguments_in, answer_in}
use Rattle.run_laws.proofs.Stored.{IsSwap, all_both, answer_swap}
use Rattle.run_laws.proofs.RefusalLaws.{refusal_other}
use Rattle.run_laws.proofs.FitLaws.{FitOcall, body_fits}
use Rattle.run_laws.proofs.BodyLaws.{OcallRan, IsOffHost, BodyRan, body_ran, at_head}
use Rattle.run_laws.proofs.CallLaws.{IsMadeAt}

-- what holds of each step holds of it at its place between two others
pub each_between : (P : Step → Type 0) (low high n : ℕ) (steps : List Step) → low ≤ n → n + length steps ≤ high → AllByRecursion P steps → EachFrom (λ place s. (low ≤ place) × (place < high) × P s) n steps
each_between P low high n [] from upto h = tt
each_between P low high n (s ∷ steps) from upto h =
    let more : n + suc (length steps) ≤ high = upto in
    ((from, omega (arith, more), h.0), each_between P low high (n + 1) steps (omega (arith, from)) (omega (arith, more)) h.1)

each_both : (P Q : ℕ → Step → Type 0) (n : ℕ) (steps : List Step) → EachFrom P n steps → EachFrom Q n steps → EachFrom (λ place s. P place s × Q place s) n steps
each_both P Q n [] p q = tt
each_both P Q n (s ∷ steps) p q = ((p.0, q.0), each_both P Q (n + 1) steps p.1 q.1)

all_any : (steps : List Step) → AllByRecursion (λ s. Unit {0}) steps
all_any [] = tt
all_any (s ∷ steps) = (tt, all_any steps)

module _ (m : Machine) (ocalls : Ocalls) (cx : Context) (ordinal address : ℕ) (way : Way) (ordinary : way ≢ Taken)
    (answers : first_row (entry_rows m.interface cx.stack ordinal) ≡ None → (before : List Step) (room o : ℕ) (arguments : List Argument) → FitOcall m.interface o arguments
    → Ensures before (λ steps (out : OcallOutcome). OcallRan m (context_in_ecall cx ordinal room) o arguments before steps out) (ocalls (context_in_ecall cx ordinal room) o arguments))
    (sound : IsSoundBody m ordinal) (runnable : (f : Function) → slice_get m.interface.ecalls ordinal ≡ Some f → IsRunnableFunction true f) (keeping : first_row (entry_rows m.interface cx.stack ordinal) ≡ None → OcallsKeepLengths m ocalls) where
  -- a refused entry
  refused_protected : (before : List Step) (events : List Event) (status : Status) → IsRefusedRun m cx ordinal address events status
      → Protects m (IsMadeAt cx address) before (steps_of events) (ecall_record cx ordinal address way status (length before) (length (before ++ steps_of events)) (length (before ++ steps_of events)) ∷ [])
  refused_protected before events status r =
      let steps : List Step = steps_of events in
      let last : ℕ = length (before ++ steps) in
      let lengths : length (before ++ steps) ≡ length before + length steps = length-append before steps in
      let c : Call = record { made = ecall_record cx ordinal address way status (length before) last last; context = cx } in
      let alone : All IsEnclaveLoad steps = refused_alone m cx ordinal address events status r in
      let told : IsRefused m (before ++ steps) c = record {
        loading = events;
        refused = r;
        loads_alone = alone;
        there = record { before = before; later = []; log_is = ap (λ l. before ++ l) (sym (append-nil steps)); place_is = refl };
        turn_is = refl;
        last_is = lengths;
      } in
      let protected : IsProtectedCall m (c ∷ []) (before ++ steps) c = record {
        depth_is = refl;
        ecall = λ kind other. inr (inl (refusal_other m cx ordinal address events status r, told));
        taken = λ kind same. absurd (ordinary same);
        ocall = λ kind. let no : Ecall ≡ Ocall = kind in cc;
      } in
      record {
        calls = c ∷ [];
        records_are = refl;
        are = one_protected m (IsMadeAt cx address) before steps c (refl, refl) (omega arith, omega (arith, lengths)) protected
            (each_weaker (λ place s. (length before ≤ place) × (place < last) × (IsEnclaveLoad s × InHost m.script.settings.host s))
            (λ place s. s.side ≡ Enclave → NoStep s ⊎ IsAccountedFor m (c ∷ []) (before ++ steps) place s)
            (λ place s h w. inr (record {
              call = c;
              is_call = at_head c [];
              how = inl (record {
                is_ecall = refl;
                is_load = h.2.0.1;
                in_host = h.2.1;
                from_first = h.0;
                before_body = inl (told, h.1);
              });
            })) (length before) steps
            (each_between (λ s. IsEnclaveLoad s × InHost m.script.settings.host s) (length before) last (length before) steps (omega arith) (omega (arith, lengths))
            (all_both IsEnclaveLoad (InHost m.script.settings.host) steps (recursion_from_All IsEnclaveLoad steps alone) (refused_in m cx ordinal address events status runnable r))));
      }

  -- an answered entry, by its parts: the loads, the body's steps, and the stores
  module _ (before : List Step) (events : List Event) (done : Answered) (run : IsAnsweredRun m ocalls cx ordinal address events done) where
    abbrev loading : List Event
    loading = loads_of address run.frame ++ run.copying

    abbrev storing : List Event
    storing = run.returning ++ run.putting

    abbrev steps_in : List Step
    steps_in = steps_of loading ++ (steps_of run.running ++ steps_of storing)

    abbrev inside : Context
    inside = context_in_ecall cx ordinal run.copies.room

    abbrev body : Execution
    body = body_of m ordinal run.function run.frame run.copies

    events_are : events ≡ loading ++ (run.running ++ placed done.turn ∷ storing)
    events_are = run.events_are ∙ sym (append_assoc (loads_of address run.frame) run.copying (run.running ++ placed done.turn ∷ storing))

    steps_are : steps_of events ≡ steps_in
    steps_are =
        ap (λ es. steps_of es) events_are
        ∙ steps_of-append loading (run.running ++ placed done.turn ∷ storing)
        ∙ ap (λ l. steps_of loading ++ l) (steps_of-append run.running (placed done.turn ∷ storing))

    all_places : HasPlaces (length before) events → HasPlaces (length before + length (steps_of loading)) run.running × (done.turn ≡ length before + length (steps_of loading) + length (steps_of run.running))
    all_places places =
        let whole : HasPlaces (length before) (loading ++ (run.running ++ placed done.turn ∷ storing)) = subst (λ es. HasPlaces (length before) es) events_are places in
        let first : HasPlaces (length before) loading × HasPlaces (length before + length (steps_of loading)) (run.running ++ placed done.turn ∷ storing) =
        places_split (length before) loading (run.running ++ placed done.turn ∷ storing) whole in
        let second : HasPlaces (length before + length (steps_of loading)) run.running
        × HasPlaces (length before + length (steps_of loading) + length (steps_of run.running)) (placed done.turn ∷ storing) =
        places_split (length before + length (steps_of loading)) run.running (placed done.turn ∷ storing) first.1 in
        (second.0, second.1.0)

    body_done : HasPlaces (length before) events → BodyRan m inside (before ++ steps_of loading) (steps_of run.running) body run.finished
    body_done places =
        body_ran m ocalls inside (λ log room o arguments fit. answers run.may_enter log room o arguments fit) body
        (body_fits m ordinal run.function run.frame run.copies run.found sound) (before ++ steps_of loading) run.running run.finished run.body_runs
        (subst (λ n. HasPlaces n run.running) (sym (length-append before (steps_of loading))) (all_places places).0)

    stores_inside : All (IsInAnswer run.function run.frame address run.copies.blocks) (steps_of storing)
    stores_inside = answer_within m ocalls cx ordinal address events done run (copies_kept m ocalls cx ordinal address events done run sound (keeping run.may_enter))

    loads_first : All IsEnclaveLoad (steps_of loading)
    loads_first =
        loads_append (loads_of address run.frame) run.copying (loads_of_alone address run.frame)
        (copying_alone run.function run.frame cx.room (marshalled run.function) run.copying run.copies.blocks run.copied)

    module _ (turn_is : done.turn ≡ length before + length (steps_of loading) + length (steps_of run.running)) (ran : BodyRan m inside (before ++ steps_of loading) (steps_of run.running) body run.finished) where
      abbrev log : List Step
      log = before ++ steps_in

      abbrev this : Call
      this = record { made = ecall_record cx ordinal address way SUCCESS (length before) done.turn (length log); context = cx }

      abbrev all_calls : List Call
      all_calls = this ∷ ran.calls

      body_log_grown : IsGrown ((before ++ steps_of loading) ++ steps_of run.running) log
      body_log_grown = record {
        more = steps_of storing;
        new_is = sym (append_assoc (before ++ steps_of loading) (steps_of run.running) (steps_of storing) ∙ append_assoc before (steps_of loading) (steps_of run.running ++ steps_of storing));
      }

      lengths : length log ≡ done.turn + length (steps_of storing)
      lengths =
          let a : length log ≡ length before + length steps_in = length-append before steps_in in
          let b : length steps_in ≡ length (steps_of loading) + length (steps_of run.running ++ steps_of storing) = length-append (steps_of loading) (steps_of run.running ++ steps_of storing) in
          let c : length (steps_of run.running ++ steps_of storing) ≡ length (steps_of run.running) + length (steps_of storing) = length-append (steps_of run.running) (steps_of storing) in
          omega (arith, a, b, c, turn_is)

      abbrev told : IsAnswered m all_calls log this
      told = record {
        function = run.function;
        found = run.found;
        may_enter = run.may_enter;
        frame_allowed = run.frame_allowed;
        frame = run.frame;
        whole_frame = run.whole_frame;
        fields_allowed = run.fields_allowed;
        copies = run.copies;
        copying = run.copying;
        copied = run.copied;
        room_left = run.room_left;
        asked = ran.asked;
        running = steps_of run.running;
        value = run.finished.value;
        blocks = run.finished.blocks;
        body = subst (λ n. IsCarriedOut m all_calls log inside n body ran.asked (steps_of run.running) run.finished.value run.finished.blocks) (length-append before (steps_of loading))
            (carried_grown m ((before ++ steps_of loading) ++ steps_of run.running) log body_log_grown ran.calls all_calls (among_tail this ran.calls) inside
            (length (before ++ steps_of loading)) body ran.asked (steps_of run.running) run.finished.value run.finished.blocks ran.carried);
        returning = run.returning;
        returned = run.returned;
        putting = run.putting;
        put_back = run.put_back;
        there = record { before = before; later = []; log_is = ap (λ l. before ++ l) (sym (append-nil steps_in)); place_is = refl };
        turn_is = turn_is;
        last_is = lengths;
      }

      inner_context : (c : Call) → Contains ran.asked c ⊎ IsNested m ran.calls ((before ++ steps_of loading) ++ steps_of run.running) c → IsMadeAt cx address c ⊎ IsNested m all_calls log c
      inner_context c (inl k) = inr (record { outer = this; is_call = at_head this ran.calls; how = inr (record { is_ecall = refl; answered = told; is_asked = k }) })
      inner_context c (inr n) = inr (nested_grown m ((before ++ steps_of loading) ++ steps_of run.running) log body_log_grown ran.calls all_calls (among_tail this ran.calls) c n)

      this_protected : IsProtectedCall m all_calls log this
      this_protected = record {
        depth_is = refl;
        ecall = λ kind other. inr (inr (refl, told));
        taken = λ kind same. absurd (ordinary same);
        ocall = λ kind. let no : Ecall ≡ Ocall = kind in cc;
      }

      argument_loads : AreAccountedFor m NoStep all_calls log (length before) (steps_of loading)
      argument_loads =
          each_weaker (λ place s. (length before ≤ place) × (place < length before + length (steps_of loading)) × (IsEnclaveLoad s × InHost m.script.settings.host s))
          (λ place s. s.side ≡ Enclave → NoStep s ⊎ IsAccountedFor m all_calls log place s)
          (λ place s h w. inr (record {
            call = this;
            is_call = at_head this ran.calls;
            how = inl (record {
              is_ecall = refl;
              is_load = h.2.0.1;
              in_host = h.2.1;
              from_first = h.0;
              before_body = inr (told, h.1);
            });
          })) (length before) (steps_of loading)
          (each_between (λ s. IsEnclaveLoad s × InHost m.script.settings.host s) (length before) (length before + length (steps_of loading)) (length before) (steps_of loading) (omega arith) (omega arith)
          (all_both IsEnclaveLoad (InHost m.script.settings.host) (steps_of loading) (recursion_from_All IsEnclaveLoad (steps_of loading) loads_first)
          (arguments_in m.script.settings.host run.function address run.frame cx.room run.copying run.copies.blocks (runnable run.function run.found) run.frame_allowed run.whole_frame run.fields_allowed run.copied)))

      answer_stores : AreAccountedFor m NoStep all_calls log done.turn (steps_of storing)
      answer_stores =
          let P : Step → Type 0 = IsInAnswer run.function run.frame address run.copies.blocks in
          each_weaker (λ place s. (done.turn ≤ place) × (place < length log) × (IsSwap s × P s))
          (λ place s. s.side ≡ Enclave → NoStep s ⊎ IsAccountedFor m all_calls log place s)
          (λ place s h w. inr (record {
            call = this;
            is_call = at_head this ran.calls;
            how = inr (inl (record {
              is_ecall = refl;
              is_store = h.2.0;
              in_host = answer_in m.script.settings.host run.function address run.frame cx.room run.copying run.copies.blocks (runnable run.function run.found) run.frame_allowed run.fields_allowed run.copied s h.2.1;
              answered = told;
              from_turn = h.0;
              to_last = h.1;
              inside = h.2.1;
            }));
          })) done.turn (steps_of storing)
          (each_between (λ s. IsSwap s × P s) done.turn (length log) done.turn (steps_of storing) (omega arith) (omega (arith, lengths))
          (all_both IsSwap P (steps_of storing)
          (answer_swap address (low_bytes (return_size run.function) run.finished.value) run.frame (zip (marshalled run.function) run.finished.blocks) run.returning run.putting run.returned run.put_back)
          (recursion_from_All P (steps_of storing) stores_inside)))

      body_steps : AreAccountedFor m NoStep all_calls log (length before + length (steps_of loading)) (steps_of run.running)
      body_steps =
          let low : ℕ = length before + length (steps_of loading) in
          let P : ℕ → Step → Type 0 = λ place s. (low ≤ place) × (place < done.turn) × Unit {0} in
          let Q : ℕ → Step → Type 0 = λ place s. s.side ≡ Enclave → IsOffHost m s ⊎ IsAccountedFor m all_calls log place s in
          let off_host : (s : Step) → IsOffHost m s → IsOffHost m s = λ s t. t in
          let inner : AreAccountedFor m (IsOffHost m) all_calls log low (steps_of run.running) =
          subst (λ n. AreAccountedFor m (IsOffHost m) all_calls log n (steps_of run.running)) (length-append before (steps_of loading))
          (accesses_grown m (IsOffHost m) (IsOffHost m) off_host ((before ++ steps_of loading) ++ steps_of run.running) log body_log_grown ran.calls all_calls (among_tail this ran.calls)
          (length (before ++ steps_of loading)) (steps_of run.running) ran.are.accesses) in
          let upto : low + length (steps_of run.running) ≤ done.turn = omega (arith, turn_is) in
          each_weaker (λ place s. P place s × Q place s) (λ place s. s.side ≡ Enclave → NoStep s ⊎ IsAccountedFor m all_calls log place s)
          (λ place s h w. elim (h.1 w) [
            | inl t ↦ inr (record {
              call = this;
              is_call = at_head this ran.calls;
              how = inr (inr (inr (inr (record {
                is_ecall = refl;
                answered = told;
                from_body = h.0.0;
                to_turn = h.0.1;
                no_host_byte = t;
              }))));
            })
            | inr a ↦ inr a
          ]) low (steps_of run.running)
          (each_both P Q low (steps_of run.running) (each_between (λ s. Unit {0}) low done.turn low (steps_of run.running) (omega arith) upto (all_any (steps_of run.running))) inner)

      all_accesses : AreAccountedFor m NoStep all_calls log (length before) steps_in
      all_accesses =
          let P : ℕ → Step → Type 0 = λ place s. s.side ≡ Enclave → NoStep s ⊎ IsAccountedFor m all_calls log place s in
          each_append P (length before) (steps_of loading) (steps_of run.running ++ steps_of storing)
          argument_loads
          (each_append P (length before + length (steps_of loading)) (steps_of run.running) (steps_of storing)
          body_steps
          (subst (λ n. AreAccountedFor m NoStep all_calls log n (steps_of storing)) turn_is answer_stores))

      answered_in : Protects m (IsMadeAt cx address) before steps_in (ecall_record cx ordinal address way SUCCESS (length before) done.turn (length log) ∷ done.records)
      answered_in =
          let old : List Step = (before ++ steps_of loading) ++ steps_of run.running in
          let begin : length (before ++ steps_of loading) ≡ length before + length (steps_of loading) = length-append before (steps_of loading) in
          let whole : length log ≡ length before + length steps_in = length-append before steps_in in
          let end : length log ≡ done.turn + length (steps_of storing) = lengths in
          record {
            calls = all_calls;
            records_are = ap (λ l. this.made ∷ l) (run.records_are ∙ ran.records_are);
            are = record {
              contexts = All-cons (λ c. IsMadeAt cx address c ⊎ IsNested m all_calls log c) this ran.calls (inl (refl, refl))
                  (All-weaker (λ c. Contains ran.asked c ⊎ IsNested m ran.calls old c) (λ c. IsMadeAt cx address c ⊎ IsNested m all_calls log c) inner_context ran.calls ran.are.contexts);
              within = All-cons (IsWithin before steps_in) this ran.calls (omega arith, omega (arith, whole))
                  (within_wider (before ++ steps_of loading) (steps_of run.running) before steps_in (omega (arith, begin)) (omega (arith, begin, whole, end, turn_is)) ran.calls ran.are.within);
              protected = All-cons (IsProtectedCall m all_calls log) this ran.calls this_protected
                  (All-weaker (IsProtectedCall m ran.calls old) (IsProtectedCall m all_calls log) (λ c h. call_grown m old log body_log_grown ran.calls all_calls (among_tail this ran.calls) c h) ran.calls ran.are.protected);
              accesses = all_accesses;
            };
          }

    answered_protected : HasPlaces (length before) events → Protects m (IsMadeAt cx address) before (steps_of events) (ecall_record cx ordinal address way SUCCESS (length before) done.turn (length (before ++ steps_of events)) ∷ done.records)
    answered_protected places =
        subst (λ (l : List Step). Protects m (IsMadeAt cx address) before l (ecall_record cx ordinal address way SUCCESS (length before) done.turn (length (before ++ l)) ∷ done.records)) (sym steps_are)
        (answered_in (all_places places).1 (body_done places))

  -- what is said of an entry's run
  abbrev EntryProtects : List Step → List Step → Result Answered Status → Type 0
  EntryProtects before steps result = Protects m (IsMadeAt cx address) before steps (ecall_outcome cx ordinal address way (length before) (length (before ++ steps)) result).records

  by_run : (before : List Step) (events : List Event) (result : Result Answered Status) → EntryRun m ocalls cx ordinal address events result → HasPlaces (length before) events → EntryProtects before (steps_of events) result
  by_run before events (Ok done) run places = answered_protected before events done run places
  by_run before events (Err status) run places = refused_protected before events status run

  entered_protected : (before : List Step) → Ensures before (λ steps result. EntryProtects before steps result) (entered m ocalls cx ordinal address)
  entered_protected before events result h places = by_run before events result (entered_run m ocalls cx ordinal address events result h) places

  -- a whole ECALL
  pub ecall_protected : (before : List Step) → Ensures before (λ steps (out : Outcome). Protects m (IsMadeAt cx address) before steps out.records) (ecall_by m ocalls cx ordinal address way)
  unfolding ecall_by
  ecall_protected before =
      let Q : List Step → Outcome → Type 0 = λ steps out. Protects m (IsMadeAt cx address) before steps out.records in
      ensures_here before Q _ (ensures_then before (λ steps result. EntryProtects before steps result) Q (entered m ocalls cx ordinal address)
      (λ result. here (λ last. ret (ecall_outcome cx ordinal address way (length before) last result))) (entered_protected before) (λ steps result h.
      ensures_here (before ++ steps) (λ more out. Q (steps ++ more) out) _
      (ensures_ret (before ++ steps) (λ more out. Q (steps ++ more) out) (ecall_outcome cx ordinal address way (length before) (length (before ++ steps)) result)
      (subst (λ (l : List Step). Q l (ecall_outcome cx ordinal address way (length before) (length (before ++ steps)) result)) (sym (append-nil steps)) h))))
