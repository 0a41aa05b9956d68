-- The runs of entries, answered or refused.
use Rattle.std.proofs.Common.{ℕ, ◌≡◌, inl, inr, Bool, true, false, if◌then◌else◌, List, [], ◌∷◌, ◌++◌, length, zip, Option, Some, None, is_none, slice_get, Result, Ok, Err, refl, ap, sym, ◌∙◌, subst, append-nil}
use Rattle.sgx_base.specs.Bytes.{low_bytes}
use Rattle.sgx_base.specs.Rows.{first_row}
use Rattle.sgx_base.specs.declared.Status.{Status}
use Rattle.edl_interface.specs.declared.Function.{Function}
use Rattle.edl_interface.specs.declared.Param.{Param}
use Rattle.edl_interface.specs.Parameters.{marshalled, is_out, address_in, return_size}
use Rattle.word_port.specs.declared.Side.TheVariants.{Enclave}
use Rattle.word_port.specs.Events.{Event, placed}
use Rattle.word_port.specs.Interaction.{Interaction, here, and_then, map_value, IsRun}
use Rattle.word_port.specs.Accesses.{loads, stores}
use Rattle.bridge_program.specs.Entry.{entry_rows}
use Rattle.call_copy.specs.Copies.{bytes_back, copy_out}
use Rattle.call_machine.specs.declared.Machine.{Machine}
use Rattle.call_machine.specs.Context.{Context, context_in_ecall}
use Rattle.call_machine.specs.Refusal.{frame_rows, field_rows}
use Rattle.call_machine.specs.Result.{go_on_if_ok}
use Rattle.call_machine.specs.Ecall.{Ocalls, Copies, Finished, Answered, shape_of, copies_in, copies_out, interpret, body_of, put_answer, body_and_answer, loaded_entry, admitted_entry, entry_at, entered}
use Rattle.call_laws.specs.Transfers.{loads_of, AreStores}
use Rattle.call_laws.specs.Copying.{room_after, AreCopiedIn}
use Rattle.call_laws.specs.Answering.{AreStoredIf, ArePutBack, IsAnsweredRun}
use Rattle.call_laws.specs.Refusing.{IsRefusedCopying, IsRefusedLoaded, IsRefusedRun}
use Rattle.call_laws.proofs.RunParts.{IsTwoRuns, two_runs, ret_run, IsMappedRun, mapped_run, IsPlacedRun, placed_run, IsAllowedRun, allowed_run, row_fails}
use Rattle.call_laws.proofs.TransferLaws.{loads_run, stores_run}
use Rattle.call_laws.proofs.CopyingLaws.{CopiesRun, copies_run}

-- one block is put back, or not
put_run : (out : Bool) (frame : List ℕ) (p : Param) (block : List ℕ) (rest : List (Param × Option (List ℕ))) (events : List Event) (u : Unit {0})
    → ((es : List Event) (v : Unit {0}) → IsRun (copies_out frame rest) es v → ArePutBack frame rest es)
    → IsRun (if out then and_then (copy_out (shape_of p.class) (address_in frame p) block) (λ done. copies_out frame rest) else copies_out frame rest) events u
    → (first : List Event) × (more : List Event) × (events ≡ first ++ more) × AreStoredIf out (address_in frame p) (bytes_back (shape_of p.class) block) first × ArePutBack frame rest more
unfolding copy_out
put_run true frame p block rest events u more h =
    let r : IsTwoRuns (copy_out (shape_of p.class) (address_in frame p) block) (λ done. copies_out frame rest) events u =
    two_runs (copy_out (shape_of p.class) (address_in frame p) block) (λ done. copies_out frame rest) events u h in
    (r.first, r.rest, r.events_are, stores_run (address_in frame p) (bytes_back (shape_of p.class) block) r.first r.middle r.first_run, more r.rest u r.rest_run)
put_run false frame p block rest events u more h = ([], events, refl, refl, more events u h)

-- all blocks
copies_out_run : (frame : List ℕ) (blocks : List (Param × Option (List ℕ))) (events : List Event) (u : Unit {0}) → IsRun (copies_out frame blocks) events u → ArePutBack frame blocks events
copies_out_run frame [] events u h = (ret_run tt events u h).0
copies_out_run frame ((p, None) ∷ rest) events u h = copies_out_run frame rest events u h
copies_out_run frame ((p, Some block) ∷ rest) events u h = put_run (is_out p.class) frame p block rest events u (λ es v g. copies_out_run frame rest es v g) h

-- a body and its answer
record IsAnsweredBody (m : Machine) (ocalls : Ocalls) (cx : Context) (ordinal : ℕ) (f : Function) (address : ℕ) (frame : List ℕ) (copies : Copies) (events : List Event) (done : Answered) : Type 0 where
  pub running : List Event
  pub finished : Finished
  pub body_runs : IsRun (interpret m ocalls (context_in_ecall cx ordinal copies.room) (body_of m ordinal f frame copies)) running finished
  pub records_are : done.records ≡ finished.records
  pub returning : List Event
  pub returned : AreStores address (low_bytes (return_size f) finished.value) returning
  pub putting : List Event
  pub put_back : ArePutBack frame (zip (marshalled f) finished.blocks) putting
  pub events_are : events ≡ running ++ placed done.turn ∷ (returning ++ putting)

-- where the rows for table and stack allow it, there is a function
some_function : (o : Option Function) → is_none o ≡ false → o ≡ None → ⊥
some_function None e n = cc
some_function (Some f) e n = cc

module _ (m : Machine) (ocalls : Ocalls) (cx : Context) (ordinal address : ℕ) where
  module _ (f : Function) (frame : List ℕ) where
    body_run : (copies : Copies) (events : List Event) (y : Result Answered Status)
        → IsRun (body_and_answer m ocalls cx ordinal f address frame copies) events y → (done : Answered) × (Ok done ≡ y) × IsAnsweredBody m ocalls cx ordinal f address frame copies events done
    body_run copies events y h =
        let body : Interaction Finished = interpret m ocalls (context_in_ecall cx ordinal copies.room) (body_of m ordinal f frame copies) in
        let answer : Finished → ℕ → Interaction (Result Answered Status) =
        λ out turn. map_value (λ stored. Ok (record { turn = turn; records = out.records })) (put_answer f address frame out) in
        let r : IsTwoRuns body (λ out. here (answer out)) events y = two_runs body (λ out. here (answer out)) events y h in
        let p : IsPlacedRun (answer r.middle) r.rest y = placed_run (answer r.middle) r.rest y r.rest_run in
        let done : Answered = record { turn = p.place; records = r.middle.records } in
        let q : IsMappedRun (λ stored. Ok done) (put_answer f address frame r.middle) p.rest y =
        mapped_run (λ stored. Ok done) (put_answer f address frame r.middle) p.rest y p.run in
        let bytes : List ℕ = low_bytes (return_size f) r.middle.value in
        let back : Unit {0} → Interaction (Unit {0}) = λ stored. copies_out frame (zip (marshalled f) r.middle.blocks) in
        let s : IsTwoRuns (stores Enclave address bytes) back p.rest q.value = two_runs (stores Enclave address bytes) back p.rest q.value q.run in
        let answer_is : r.rest ≡ placed p.place ∷ (s.first ++ s.rest) = p.events_are ∙ ap (λ l. placed p.place ∷ l) s.events_are in (
          done,
          q.value_is,
          record {
            running = r.first;
            finished = r.middle;
            body_runs = r.first_run;
            records_are = refl;
            returning = s.first;
            returned = stores_run address bytes s.first s.middle s.first_run;
            putting = s.rest;
            put_back = copies_out_run frame (zip (marshalled f) r.middle.blocks) s.rest q.value s.rest_run;
            events_are = ◌∙◌ {c = r.first ++ placed p.place ∷ (s.first ++ s.rest)} r.events_are (ap (λ l. r.first ++ l) answer_is);
          },
        )

    -- after its frame was loaded
    record IsAnsweredLoaded (events : List Event) (done : Answered) : Type 0 where
      pub fields_allowed : first_row (field_rows m.script.settings.host f frame) ≡ None
      pub copying : List Event
      pub copies : Copies
      pub copied : AreCopiedIn f frame cx.room (marshalled f) copying copies.blocks
      pub room_left : copies.room ≡ room_after cx.room copies.blocks
      pub rest : List Event
      pub body : IsAnsweredBody m ocalls cx ordinal f address frame copies rest done
      pub events_are : events ≡ copying ++ rest

    abbrev LoadedRun : List Event → Result Answered Status → Type 0
    LoadedRun events (Ok done) = IsAnsweredLoaded events done
    LoadedRun events (Err status) = IsRefusedLoaded m.script.settings.host f frame cx.room events status

    copied_run : (none : first_row (field_rows m.script.settings.host f frame) ≡ None) (first rest : List Event) (middle : Result Copies Status) (y : Result Answered Status)
        → CopiesRun f frame cx.room (marshalled f) first middle → IsRun (go_on_if_ok (body_and_answer m ocalls cx ordinal f address frame) middle) rest y
        → LoadedRun (first ++ rest) y
    copied_run none first rest (Ok copies) y c h =
        let (done, same, body) = body_run copies rest y h in
        let whole : IsAnsweredLoaded (first ++ rest) done = record {
          fields_allowed = none;
          copying = first;
          copies = copies;
          copied = c.0;
          room_left = c.1;
          rest = rest;
          body = body;
          events_are = refl;
        } in
        subst (λ z. LoadedRun (first ++ rest) z) same whole
    copied_run none first rest (Err status) y c h =
        let end : (rest ≡ []) × (Err status ≡ y) = ret_run (Err status) rest y h in
        let all : first ≡ first ++ rest = sym (ap (λ l. first ++ l) end.0 ∙ append-nil first) in
        subst (λ z. LoadedRun (first ++ rest) z) end.1 (inr (none, subst (λ es. IsRefusedCopying f frame cx.room (marshalled f) es status) all c))

    loaded_run : (events : List Event) (y : Result Answered Status) → IsRun (loaded_entry m ocalls cx ordinal address f frame) events y → LoadedRun events y
    loaded_run events y h =
        let copying : Interaction (Result Copies Status) = copies_in f frame cx.room (marshalled f) in
        let after : Copies → Interaction (Result Answered Status) = λ copies. body_and_answer m ocalls cx ordinal f address frame copies in
        by_rows (allowed_run (first_row (field_rows m.script.settings.host f frame)) (λ allowed. and_then copying (go_on_if_ok after)) events y h)
      where
        by_rows : IsAllowedRun (first_row (field_rows m.script.settings.host f frame)) (λ allowed. and_then (copies_in f frame cx.room (marshalled f)) (go_on_if_ok (body_and_answer m ocalls cx ordinal f address frame))) events y
            → LoadedRun events y
        by_rows (inl q) =
            let copying : Interaction (Result Copies Status) = copies_in f frame cx.room (marshalled f) in
            let after : Copies → Interaction (Result Answered Status) = λ copies. body_and_answer m ocalls cx ordinal f address frame copies in
            let r : IsTwoRuns copying (go_on_if_ok after) events y = two_runs copying (go_on_if_ok after) events y q.1 in
            subst (λ es. LoadedRun es y) (sym r.events_are)
            (copied_run q.0 r.first r.rest r.middle y (copies_run f frame (marshalled f) cx.room r.first r.middle r.first_run) r.rest_run)
        by_rows (inr q) = subst (λ z. LoadedRun events z) q.3 (inl (q.1, q.2))

  -- what a run of an entry comes to
  abbrev pub EntryRun : List Event → Result Answered Status → Type 0
  EntryRun events (Ok done) = IsAnsweredRun m ocalls cx ordinal address events done
  EntryRun events (Err status) = IsRefusedRun m cx ordinal address events status

  -- an entry whose frame is loaded
  abbrev AdmittedRun : Function → List Event → Result Answered Status → Type 0
  AdmittedRun f events y = (frame : List ℕ) × (length frame ≡ f.frame_size) × (rest : List Event) × (events ≡ loads_of address frame ++ rest) × LoadedRun f frame rest y

  admitted_run : (f : Function) (events : List Event) (y : Result Answered Status) → IsRun (admitted_entry m ocalls cx ordinal address f) events y → AdmittedRun f events y
  admitted_run f events y h =
      let r : IsTwoRuns (loads Enclave address f.frame_size) (loaded_entry m ocalls cx ordinal address f) events y =
      two_runs (loads Enclave address f.frame_size) (loaded_entry m ocalls cx ordinal address f) events y h in
      let l : (length r.middle ≡ f.frame_size) × (r.first ≡ loads_of address r.middle) = loads_run address f.frame_size r.first r.middle r.first_run in
      (r.middle, l.0, r.rest, r.events_are ∙ ap (λ es. es ++ r.rest) l.1, loaded_run f r.middle r.rest y r.rest_run)

  module _ (f : Function) (found : slice_get m.interface.ecalls ordinal ≡ Some f) (may : first_row (entry_rows m.interface cx.stack ordinal) ≡ None) where
    admitted_ends : (allowed : first_row (frame_rows m.script.settings.host f address) ≡ None) (events : List Event) (y : Result Answered Status) → AdmittedRun f events y → EntryRun events y
    admitted_ends allowed events (Ok done) a =
        let loaded : IsAnsweredLoaded f a.0 a.2 done = a.4 in
        let body : IsAnsweredBody m ocalls cx ordinal f address a.0 loaded.copies loaded.rest done = loaded.body in
        record {
          function = f;
          found = found;
          may_enter = may;
          frame_allowed = allowed;
          frame = a.0;
          whole_frame = a.1;
          fields_allowed = loaded.fields_allowed;
          copying = loaded.copying;
          copies = loaded.copies;
          copied = loaded.copied;
          room_left = loaded.room_left;
          running = body.running;
          finished = body.finished;
          body_runs = body.body_runs;
          records_are = body.records_are;
          returning = body.returning;
          returned = body.returned;
          putting = body.putting;
          put_back = body.put_back;
          events_are = a.3 ∙ ap (λ es. loads_of address a.0 ++ es) (loaded.events_are ∙ ap (λ es. loaded.copying ++ es) body.events_are);
        }
    admitted_ends allowed events (Err status) a = inr (record {
      may_enter = may;
      function = f;
      found = found;
      refused = inr (record {
        frame_allowed = allowed;
        frame = a.0;
        whole_frame = a.1;
        copying = a.2;
        refused = a.4;
        events_are = a.3;
      });
    })

    function_run : (events : List Event) (y : Result Answered Status)
        → IsAllowedRun (first_row (frame_rows m.script.settings.host f address)) (λ allowed. admitted_entry m ocalls cx ordinal address f) events y → EntryRun events y
    function_run events y (inl q) = admitted_ends q.0 events y (admitted_run f events y q.1)
    function_run events y (inr q) = subst (λ z. EntryRun events z) q.3 (inr (record {
      may_enter = may;
      function = f;
      found = found;
      refused = inl (q.1, q.2);
    }))

  found_run : (may : first_row (entry_rows m.interface cx.stack ordinal) ≡ None) (o : Option Function) (events : List Event) (y : Result Answered Status)
      → slice_get m.interface.ecalls ordinal ≡ o → IsRun (entry_at m ocalls cx ordinal address o) events y → EntryRun events y
  found_run may None events y e h = absurd (some_function (slice_get m.interface.ecalls ordinal) (row_fails _ _ _ may) e)
  found_run may (Some f) events y e h =
      function_run f e may events y
      (allowed_run (first_row (frame_rows m.script.settings.host f address)) (λ allowed. admitted_entry m ocalls cx ordinal address f) events y h)

  entry_run : (events : List Event) (y : Result Answered Status)
      → IsAllowedRun (first_row (entry_rows m.interface cx.stack ordinal)) (λ allowed. entry_at m ocalls cx ordinal address (slice_get m.interface.ecalls ordinal)) events y → EntryRun events y
  entry_run events y (inl q) = found_run q.0 (slice_get m.interface.ecalls ordinal) events y refl q.1
  entry_run events y (inr q) = subst (λ z. EntryRun events z) q.3 (inl (q.1, q.2))

  pub entered_run : (events : List Event) (y : Result Answered Status) → IsRun (entered m ocalls cx ordinal address) events y → EntryRun events y
  entered_run events y h =
      entry_run events y
      (allowed_run (first_row (entry_rows m.interface cx.stack ordinal)) (λ allowed. entry_at m ocalls cx ordinal address (slice_get m.interface.ecalls ordinal)) events y h)
