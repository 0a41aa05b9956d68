-- The other way round: events with the parts of a run are one.
use Rattle.std.proofs.Common.{ℕ, ◌+◌, ◌-◌, ◌≡◌, ◌⊎◌, inl, inr, Bool, true, false, if◌then◌else◌, List, [], ◌∷◌, ◌++◌, length, replicate, zip, Option, Some, None, slice_get, Result, Ok, Err, refl, ap, sym, ◌∙◌, subst, append-nil, append_assoc}
use Rattle.std.proofs.lemmas.Bool.{eq-eqb, ne_eqb}
use Rattle.sgx_base.specs.Bytes.{low_bytes, rounded_size}
use Rattle.sgx_base.specs.Passing.{is_inward}
use Rattle.sgx_base.specs.Rows.{first_row, unless_refused}
use Rattle.sgx_base.specs.declared.Status.{Status}
use Rattle.edl_interface.specs.declared.Function.{Function}
use Rattle.edl_interface.specs.declared.Param.{Param}
use Rattle.edl_interface.specs.Parameters.{marshalled, is_in, is_out, address_in, return_size}
use Rattle.edl_interface.specs.Lengths.{length_in, copied_length}
use Rattle.word_port.specs.declared.Side.TheVariants.{Enclave}
use Rattle.word_port.specs.Events.{Event, made, ticked, placed}
use Rattle.word_port.specs.Interaction.{Interaction, ret, here, and_then, map_value, IsRun}
use Rattle.word_port.specs.Accesses.{loads, stores}
use Rattle.word_port.proofs.Laws.{after-and_then, run-and_then}
use Rattle.bridge_program.specs.Entry.{entry_rows}
use Rattle.call_copy.specs.declared.Shape.{Shape}
use Rattle.call_copy.specs.Copies.{block_rows, first_bytes, checked_bytes, copy_unless, copy_in, bytes_back, copy_out}
use Rattle.call_machine.specs.declared.Machine.{Machine}
use Rattle.call_machine.specs.Context.{Context, context_in_ecall}
use Rattle.call_machine.specs.Refusal.{frame_rows, field_rows}
use Rattle.call_machine.specs.Result.{go_on_if_ok, and_then_ok}
use Rattle.call_machine.specs.Ecall.{Ocalls, Copies, Finished, Answered, with_first, shape_of, copies_in, copies_out, interpret, body_of, put_answer, body_and_answer, loaded_entry, admitted_entry, entry_at, entered}
use Rattle.call_laws.specs.Transfers.{loads_of, AreStores, AreFirstBytes}
use Rattle.call_laws.specs.Copying.{room_after, IsCopiedIn, AreCopiedIn}
use Rattle.call_laws.specs.Answering.{AreStoredIf, ArePutBack, IsAnsweredRun}
use Rattle.call_laws.specs.Refusing.{IsRefusedParam, IsRefusedCopying, IsRefusedLoaded, IsRefusedAfterFrame, IsRefusedRun}
use Rattle.call_laws.proofs.CopyingLaws.{way_is}

-- a run whose value is changed
change_run : {A B : Type 0} (f : A → B) (t : Interaction A) (events : List Event) (x : A) → IsRun t events x → IsRun (map_value f t) events (f x)
change_run f t events x h = after-and_then t (ret x) (λ y. ret (f y)) events h

then_run : {A B : Type 0} (t : Interaction A) (f : A → Interaction B) (xs ys : List Event) (x : A) (y : B) → IsRun t xs x → IsRun (f x) ys y → IsRun (and_then t f) (xs ++ ys) y
then_run t f xs ys x y p q = run-and_then t f (ret y) x xs ys p q

-- loads and stores
loads_are_run : (address : ℕ) (bytes : List ℕ) → IsRun (loads Enclave address (length bytes)) (loads_of address bytes) bytes
loads_are_run address [] = refl
loads_are_run address (b ∷ bytes) = (refl, change_run (λ l. b ∷ l) (loads Enclave (address + 1) (length bytes)) (loads_of (address + 1) bytes) bytes (loads_are_run (address + 1) bytes))

loads_back : (address n : ℕ) (bytes : List ℕ) → length bytes ≡ n → IsRun (loads Enclave address n) (loads_of address bytes) bytes
loads_back address n bytes e = subst (λ k. IsRun (loads Enclave address k) (loads_of address bytes) bytes) e (loads_are_run address bytes)

stores_back : (address : ℕ) (bytes : List ℕ) (events : List Event) → AreStores address bytes events → IsRun (stores Enclave address bytes) events tt
stores_back address [] [] h = refl
stores_back address [] (e ∷ es) h = absurd h
stores_back address (b ∷ bytes) [] h = absurd h
stores_back address (b ∷ bytes) (made s ∷ es) h = (h.0, stores_back (address + 1) bytes es h.1)
stores_back address (b ∷ bytes) (ticked k ∷ es) h = absurd h
stores_back address (b ∷ bytes) (placed k ∷ es) h = absurd h

first_back : (inward : Bool) (address n : ℕ) (bytes : List ℕ) (events : List Event) → length bytes ≡ n → AreFirstBytes inward address bytes events
    → IsRun (if inward then loads Enclave address n else ret (replicate n 0)) events bytes
first_back true address n bytes events whole e = subst (λ es. IsRun (loads Enclave address n) es bytes) (sym e) (loads_back address n bytes whole)
first_back false address n bytes events whole e =
    let zeros : replicate n 0 ≡ bytes = ap (λ k. replicate k 0) (sym whole) ∙ sym e.0 in
    subst (λ es. IsRun (ret (replicate n 0)) es bytes) (sym e.1) (ap (λ l. ret l) zeros)

-- a copy that is made or refused
checked_back : (shape : Shape) (address count room : ℕ) (events : List Event) (bytes : List ℕ) (y : Result (List ℕ) Status) → first_row (block_rows shape count room) ≡ None
    → IsRun (first_bytes shape address count) events bytes → checked_bytes shape bytes ≡ y → IsRun (copy_in shape address count room) events y
unfolding copy_in
checked_back shape address count room events bytes y none h checked =
    subst (λ o. IsRun (copy_unless o shape address count) events y) (sym none)
    (subst (λ z. IsRun (map_value (checked_bytes shape) (first_bytes shape address count)) events z) checked
    (change_run (checked_bytes shape) (first_bytes shape address count) events bytes h))

row_back : (shape : Shape) (address count room : ℕ) (status : Status) → first_row (block_rows shape count room) ≡ Some status → IsRun (copy_in shape address count room) [] (Err status)
unfolding copy_in
row_back shape address count room status row = subst (λ o. IsRun (copy_unless o shape address count) [] (Err status)) (sym row) refl

module _ (f : Function) (frame : List ℕ) where
  -- the copy of a parameter
  abbrev copy_of : ℕ → Param → Interaction (Result (List ℕ) Status)
  copy_of room p = copy_in (shape_of p.class) (address_in frame p) (length_in f frame p) room

  param_back : (room : ℕ) (p : Param) (events : List Event) (bytes : List ℕ) (y : Result (List ℕ) Status) → ¬ (copied_length f frame p ≡ 0)
      → first_row (block_rows (shape_of p.class) (length_in f frame p) room) ≡ None → length bytes ≡ length_in f frame p
      → AreFirstBytes (is_in p.class) (address_in frame p) bytes events → checked_bytes (shape_of p.class) bytes ≡ y → IsRun (copy_of room p) events y
  param_back room p events bytes y some none whole first checked =
      let as_shaped : AreFirstBytes (is_inward (shape_of p.class).way) (address_in frame p) bytes events =
      subst (λ b. AreFirstBytes b (address_in frame p) bytes events) (sym (way_is f frame p p.class some)) first in
      checked_back (shape_of p.class) (address_in frame p) (length_in f frame p) room events bytes y none
      (first_back (is_inward (shape_of p.class).way) (address_in frame p) (length_in f frame p) bytes events whole as_shaped) checked

  copied_back : (room : ℕ) (p : Param) (events : List Event) (block : List ℕ) → IsCopiedIn f frame room p events block → IsRun (copy_of room p) events (Ok block)
  copied_back room p events block c = param_back room p events c.bytes (Ok block) c.has_block c.allowed c.whole c.first c.checked

  refused_back : (room : ℕ) (p : Param) (events : List Event) (status : Status) → ¬ (copied_length f frame p ≡ 0) → IsRefusedParam f frame room p events status
      → IsRun (copy_of room p) events (Err status)
  refused_back room p events status some (inl h) =
      subst (λ es. IsRun (copy_of room p) es (Err status)) (sym h.1) (row_back (shape_of p.class) (address_in frame p) (length_in f frame p) room status h.0)
  refused_back room p events status some (inr c) = param_back room p events c.bytes (Err status) some c.allowed c.whole c.first c.refused

  -- what follows a block
  abbrev after_copy : ℕ → List Param → List ℕ → Interaction (Result Copies Status)
  after_copy room rest bytes = map_value (with_first (Some bytes)) (copies_in f frame (room - rounded_size (length bytes)) rest)

  -- one more parameter, with no block or with one
  abbrev OneMore : ℕ → Param → List Param → Bool → Interaction (Result Copies Status)
  OneMore room p rest none = if none then map_value (with_first None) (copies_in f frame room rest) else and_then_ok (copy_of room p) (after_copy room rest)

  none_more : (room : ℕ) (p : Param) (rest : List Param) (events : List Event) (y : Result Copies Status) → copied_length f frame p ≡ 0 → IsRun (copies_in f frame room rest) events y
      → IsRun (copies_in f frame room (p ∷ rest)) events (with_first None y)
  none_more room p rest events y none h =
      subst (λ b. IsRun (OneMore room p rest b) events (with_first None y)) (sym (eq-eqb (copied_length f frame p) 0 none))
      (change_run (with_first None) (copies_in f frame room rest) events y h)

  some_more : (room : ℕ) (p : Param) (rest : List Param) (first more : List Event) (block : List ℕ) (y : Result Copies Status) → IsCopiedIn f frame room p first block
      → IsRun (copies_in f frame (room - rounded_size (length block)) rest) more y → IsRun (copies_in f frame room (p ∷ rest)) (first ++ more) (with_first (Some block) y)
  some_more room p rest first more block y c h =
      subst (λ b. IsRun (OneMore room p rest b) (first ++ more) (with_first (Some block) y)) (sym (ne_eqb (copied_length f frame p) 0 c.has_block))
      (then_run (copy_of room p) (go_on_if_ok (after_copy room rest)) first more (Ok block) (with_first (Some block) y) (copied_back room p first block c)
      (change_run (with_first (Some block)) (copies_in f frame (room - rounded_size (length block)) rest) more y h))

  refused_more : (room : ℕ) (p : Param) (rest : List Param) (events : List Event) (status : Status) → ¬ (copied_length f frame p ≡ 0) → IsRefusedParam f frame room p events status
      → IsRun (copies_in f frame room (p ∷ rest)) events (Err status)
  refused_more room p rest events status some h =
      subst (λ b. IsRun (OneMore room p rest b) events (Err status)) (sym (ne_eqb (copied_length f frame p) 0 some))
      (subst (λ es. IsRun (and_then_ok (copy_of room p) (after_copy room rest)) es (Err status)) (append-nil events)
      (then_run (copy_of room p) (go_on_if_ok (after_copy room rest)) events [] (Err status) (Err status) (refused_back room p events status some h) refl))

  -- all parameters are copied in
  copies_back : (room : ℕ) (params : List Param) (events : List Event) (blocks : List (Option (List ℕ))) → AreCopiedIn f frame room params events blocks
      → IsRun (copies_in f frame room params) events (Ok (record { blocks = blocks; room = room_after room blocks }))
  copies_back room [] events [] h = subst (λ es. IsRun (copies_in f frame room []) es (Ok (record { blocks = []; room = room }))) (sym h) refl
  copies_back room [] events (b ∷ blocks) h = absurd h
  copies_back room (p ∷ params) events [] h = absurd h
  copies_back room (p ∷ params) events (None ∷ blocks) h =
      none_more room p params events (Ok (record { blocks = blocks; room = room_after room blocks })) h.0 (copies_back room params events blocks h.1)
  copies_back room (p ∷ params) events (Some block ∷ blocks) h =
      let (first, more, events_are, copied, others) = h in
      let left : ℕ = room - rounded_size (length block) in
      subst (λ es. IsRun (copies_in f frame room (p ∷ params)) es (Ok (record { blocks = Some block ∷ blocks; room = room_after left blocks }))) (sym events_are)
      (some_more room p params first more block (Ok (record { blocks = blocks; room = room_after left blocks })) copied (copies_back left params more blocks others))

  -- some first parameters are copied in, and the next one is refused
  stopped_back : (room : ℕ) (before : List Param) (next : Param) (later : List Param) (copying ending : List Event) (blocks : List (Option (List ℕ))) (status : Status)
      → AreCopiedIn f frame room before copying blocks → ¬ (copied_length f frame next ≡ 0) → IsRefusedParam f frame (room_after room blocks) next ending status
      → IsRun (copies_in f frame room (before ++ next ∷ later)) (copying ++ ending) (Err status)
  stopped_back room [] next later copying ending [] status h some refused =
      subst (λ es. IsRun (copies_in f frame room (next ∷ later)) (es ++ ending) (Err status)) (sym h) (refused_more room next later ending status some refused)
  stopped_back room [] next later copying ending (b ∷ blocks) status h some refused = absurd h
  stopped_back room (p ∷ before) next later copying ending [] status h some refused = absurd h
  stopped_back room (p ∷ before) next later copying ending (None ∷ blocks) status h some refused =
      none_more room p (before ++ next ∷ later) (copying ++ ending) (Err status) h.0 (stopped_back room before next later copying ending blocks status h.1 some refused)
  stopped_back room (p ∷ before) next later copying ending (Some block ∷ blocks) status h some refused =
      let (first, more, events_are, copied, others) = h in
      let left : ℕ = room - rounded_size (length block) in
      let all : first ++ (more ++ ending) ≡ copying ++ ending = sym (append_assoc first more ending) ∙ ap (λ es. es ++ ending) (sym events_are) in
      subst (λ es. IsRun (copies_in f frame room (p ∷ (before ++ next ∷ later))) es (Err status)) all
      (some_more room p (before ++ next ∷ later) first (more ++ ending) block (Err status) copied
      (stopped_back left before next later more ending blocks status others some refused))

  copying_back : (room : ℕ) (params : List Param) (events : List Event) (status : Status) → IsRefusedCopying f frame room params events status
      → IsRun (copies_in f frame room params) events (Err status)
  copying_back room params events status r =
      subst (λ ps. IsRun (copies_in f frame room ps) events (Err status)) (sym r.params_are)
      (subst (λ es. IsRun (copies_in f frame room (r.before ++ r.next ∷ r.later)) es (Err status)) (sym r.events_are)
      (stopped_back room r.before r.next r.later r.copying r.ending r.blocks status r.copied r.has_block r.refused))

-- blocks that are put back
stored_back : (out : Bool) (frame : List ℕ) (p : Param) (block : List ℕ) (rest : List (Param × Option (List ℕ))) (first more : List Event)
    → AreStoredIf out (address_in frame p) (bytes_back (shape_of p.class) block) first → IsRun (copies_out frame rest) more tt
    → IsRun (if out then and_then (copy_out (shape_of p.class) (address_in frame p) block) (λ done. copies_out frame rest) else copies_out frame rest) (first ++ more) tt
unfolding copy_out
stored_back true frame p block rest first more stored h =
    then_run (copy_out (shape_of p.class) (address_in frame p) block) (λ done. copies_out frame rest) first more tt tt
    (stores_back (address_in frame p) (bytes_back (shape_of p.class) block) first stored) h
stored_back false frame p block rest first more stored h = subst (λ es. IsRun (copies_out frame rest) (es ++ more) tt) (sym stored) h

put_run_back : (frame : List ℕ) (blocks : List (Param × Option (List ℕ))) (events : List Event) → ArePutBack frame blocks events → IsRun (copies_out frame blocks) events tt
put_run_back frame [] events h = subst (λ es. IsRun (copies_out frame []) es tt) (sym h) refl
put_run_back frame ((p, None) ∷ rest) events h = put_run_back frame rest events h
put_run_back frame ((p, Some block) ∷ rest) events h =
    let (first, more, events_are, stored, others) = h in
    subst (λ es. IsRun (copies_out frame ((p, Some block) ∷ rest)) es tt) (sym events_are)
    (stored_back (is_out p.class) frame p block rest first more stored (put_run_back frame rest more others))

module _ {B : Type 0} (o : Option Status) (next : Unit {0} → Interaction (Result B Status)) where
  -- no row holds, or one does
  allowed_back : (events : List Event) (y : Result B Status) → o ≡ None → IsRun (next tt) events y → IsRun (go_on_if_ok next (unless_refused o)) events y
  allowed_back events y none h = subst (λ q. IsRun (go_on_if_ok next (unless_refused q)) events y) (sym none) h

  row_refuses : (events : List Event) (status : Status) → o ≡ Some status → events ≡ [] → IsRun (go_on_if_ok next (unless_refused o)) events (Err status)
  row_refuses events status row none =
      let refused : Interaction (Result B Status) = ret (Err status) in
      subst (λ q. IsRun (go_on_if_ok next (unless_refused q)) events (Err status)) (sym row) (subst (λ es. IsRun refused es (Err status)) (sym none) refl)

module _ (m : Machine) (ocalls : Ocalls) (cx : Context) (ordinal address : ℕ) where
  -- a function that is found, and is entered
  entered_back : (f : Function) (events : List Event) (y : Result Answered Status) → slice_get m.interface.ecalls ordinal ≡ Some f → first_row (entry_rows m.interface cx.stack ordinal) ≡ None
      → IsRun (entry_at m ocalls cx ordinal address (Some f)) events y → IsRun (entered m ocalls cx ordinal address) events y
  entered_back f events y found may h =
      allowed_back (first_row (entry_rows m.interface cx.stack ordinal)) (λ allowed. entry_at m ocalls cx ordinal address (slice_get m.interface.ecalls ordinal)) events y may
      (subst (λ o. IsRun (entry_at m ocalls cx ordinal address o) events y) (sym found) h)

  -- its frame is loaded
  frame_back : (f : Function) (frame : List ℕ) (rest : List Event) (y : Result Answered Status) → first_row (frame_rows m.script.settings.host f address) ≡ None
      → length frame ≡ f.frame_size → IsRun (loaded_entry m ocalls cx ordinal address f frame) rest y
      → IsRun (entry_at m ocalls cx ordinal address (Some f)) (loads_of address frame ++ rest) y
  frame_back f frame rest y allowed whole h =
      allowed_back (first_row (frame_rows m.script.settings.host f address)) (λ ok. admitted_entry m ocalls cx ordinal address f) (loads_of address frame ++ rest) y allowed
      (then_run (loads Enclave address f.frame_size) (loaded_entry m ocalls cx ordinal address f) (loads_of address frame) rest frame y (loads_back address f.frame_size frame whole) h)

  -- its fields are allowed, and its parameters are copied in or refused
  abbrev copies_then : Function → List ℕ → Interaction (Result Answered Status)
  copies_then f frame = and_then (copies_in f frame cx.room (marshalled f)) (go_on_if_ok (body_and_answer m ocalls cx ordinal f address frame))

  fields_back : (f : Function) (frame : List ℕ) (events : List Event) (y : Result Answered Status) → first_row (field_rows m.script.settings.host f frame) ≡ None
      → IsRun (copies_then f frame) events y → IsRun (loaded_entry m ocalls cx ordinal address f frame) events y
  fields_back f frame events y none h = allowed_back (first_row (field_rows m.script.settings.host f frame)) (λ allowed. copies_then f frame) events y none h

  -- a body and its answer
  body_back : (f : Function) (frame : List ℕ) (copies : Copies) (running returning putting : List Event) (finished : Finished) (done : Answered)
      → IsRun (interpret m ocalls (context_in_ecall cx ordinal copies.room) (body_of m ordinal f frame copies)) running finished → done.records ≡ finished.records
      → AreStores address (low_bytes (return_size f) finished.value) returning → ArePutBack frame (zip (marshalled f) finished.blocks) putting
      → IsRun (body_and_answer m ocalls cx ordinal f address frame copies) (running ++ placed done.turn ∷ (returning ++ putting)) (Ok done)
  body_back f frame copies running returning putting finished done runs records returned put =
      let body : Interaction Finished = interpret m ocalls (context_in_ecall cx ordinal copies.room) (body_of m ordinal f frame copies) in
      let answer : Finished → ℕ → Interaction (Result Answered Status) =
      λ out turn. map_value (λ stored. Ok (record { turn = turn; records = out.records })) (put_answer f address frame out) in
      let bytes : List ℕ = low_bytes (return_size f) finished.value in
      let stored : IsRun (put_answer f address frame finished) (returning ++ putting) tt =
      then_run (stores Enclave address bytes) (λ stored. copies_out frame (zip (marshalled f) finished.blocks)) returning putting tt tt (stores_back address bytes returning returned)
      (put_run_back frame (zip (marshalled f) finished.blocks) putting put) in
      let answered : IsRun (answer finished done.turn) (returning ++ putting) (Ok done) =
      subst (λ rs. IsRun (answer finished done.turn) (returning ++ putting) (Ok (record { turn = done.turn; records = rs }))) (sym records)
      (change_run (λ stored. Ok (record { turn = done.turn; records = finished.records })) (put_answer f address frame finished) (returning ++ putting) tt stored) in
      then_run body (λ out. here (answer out)) running (placed done.turn ∷ (returning ++ putting)) finished (Ok done) runs answered

  pub answered_back : (events : List Event) (done : Answered) → IsAnsweredRun m ocalls cx ordinal address events done → IsRun (entered m ocalls cx ordinal address) events (Ok done)
  answered_back events done run =
      let f : Function = run.function in
      let rest : List Event = run.running ++ placed done.turn ∷ (run.returning ++ run.putting) in
      let copies_are : record { blocks = run.copies.blocks; room = room_after cx.room run.copies.blocks } ≡ run.copies =
      ap (λ r. record run.copies { room = r }) (sym run.room_left) in
      let copied : IsRun (copies_in f run.frame cx.room (marshalled f)) run.copying (Ok run.copies) =
      subst (λ c. IsRun (copies_in f run.frame cx.room (marshalled f)) run.copying (Ok c)) copies_are (copies_back f run.frame cx.room (marshalled f) run.copying run.copies.blocks run.copied) in
      let body : IsRun (body_and_answer m ocalls cx ordinal f address run.frame run.copies) rest (Ok done) =
      body_back f run.frame run.copies run.running run.returning run.putting run.finished done run.body_runs run.records_are run.returned run.put_back in
      let loaded : IsRun (copies_then f run.frame) (run.copying ++ rest) (Ok done) =
      then_run (copies_in f run.frame cx.room (marshalled f)) (go_on_if_ok (body_and_answer m ocalls cx ordinal f address run.frame)) run.copying rest (Ok run.copies) (Ok done) copied body in
      subst (λ es. IsRun (entered m ocalls cx ordinal address) es (Ok done)) (sym run.events_are)
      (entered_back f (loads_of address run.frame ++ (run.copying ++ rest)) (Ok done) run.found run.may_enter
      (frame_back f run.frame (run.copying ++ rest) (Ok done) run.frame_allowed run.whole_frame
      (fields_back f run.frame (run.copying ++ rest) (Ok done) run.fields_allowed loaded)))

  loaded_back : (f : Function) (frame : List ℕ) (events : List Event) (status : Status) → IsRefusedLoaded m.script.settings.host f frame cx.room events status
      → IsRun (loaded_entry m ocalls cx ordinal address f frame) events (Err status)
  loaded_back f frame events status (inl h) = row_refuses (first_row (field_rows m.script.settings.host f frame)) (λ allowed. copies_then f frame) events status h.0 h.1
  loaded_back f frame events status (inr h) =
      fields_back f frame events (Err status) h.0
      (subst (λ es. IsRun (copies_then f frame) es (Err status)) (append-nil events)
      (then_run (copies_in f frame cx.room (marshalled f)) (go_on_if_ok (body_and_answer m ocalls cx ordinal f address frame)) events [] (Err status) (Err status)
      (copying_back f frame cx.room (marshalled f) events status h.1) refl))

  after_frame_back : (f : Function) (events : List Event) (status : Status) → IsRefusedAfterFrame m cx address f events status
      → IsRun (entry_at m ocalls cx ordinal address (Some f)) events (Err status)
  after_frame_back f events status r =
      subst (λ es. IsRun (entry_at m ocalls cx ordinal address (Some f)) es (Err status)) (sym r.events_are)
      (frame_back f r.frame r.copying (Err status) r.frame_allowed r.whole_frame (loaded_back f r.frame r.copying status r.refused))

  function_back : (f : Function) (events : List Event) (status : Status)
      → ((first_row (frame_rows m.script.settings.host f address) ≡ Some status) × (events ≡ [])) ⊎ IsRefusedAfterFrame m cx address f events status
      → IsRun (entry_at m ocalls cx ordinal address (Some f)) events (Err status)
  function_back f events status (inl h) = row_refuses (first_row (frame_rows m.script.settings.host f address)) (λ allowed. admitted_entry m ocalls cx ordinal address f) events status h.0 h.1
  function_back f events status (inr r) = after_frame_back f events status r

  pub refused_run_back : (events : List Event) (status : Status) → IsRefusedRun m cx ordinal address events status → IsRun (entered m ocalls cx ordinal address) events (Err status)
  refused_run_back events status (inl h) =
      row_refuses (first_row (entry_rows m.interface cx.stack ordinal)) (λ allowed. entry_at m ocalls cx ordinal address (slice_get m.interface.ecalls ordinal)) events status h.0 h.1
  refused_run_back events status (inr r) = entered_back r.function events (Err status) r.found r.may_enter (function_back r.function events status r.refused)
