-- Where no other participant writes, copies are bytes of the words, and the words in the end have the answer.
use Rattle.std.proofs.Common.{ℕ, zero, suc, ◌+◌, ◌-◌, ◌≡◌, Bool, true, false, List, [], ◌∷◌, ◌++◌, length, zip, Option, Some, None, slice_get, slice_set, refl, ap, sym, ◌∙◌, subst}
use Rattle.sgx_base.specs.Bytes.{low_bytes, rounded_size}
use Rattle.edl_interface.specs.declared.Function.{Function}
use Rattle.edl_interface.specs.declared.Param.{Param}
use Rattle.edl_interface.specs.Parameters.{marshalled, is_in, is_out, address_in, return_size}
use Rattle.word_port.specs.declared.Step.{Step}
use Rattle.word_port.specs.Events.{Event, made, ticked, placed, steps_of}
use Rattle.word_port.specs.Interaction.{IsRun}
use Rattle.word_port.specs.Accesses.{word_at}
use Rattle.word_port.specs.History.{IsLegal, history_of, words_after, words_in_the_end}
use Rattle.word_port.proofs.Laws.{steps_of-append}
use Rattle.body_vm.specs.Execution.{Execution, returned, on_cell, on_ocall}
use Rattle.call_copy.specs.Copies.{bytes_back}
use Rattle.call_machine.specs.declared.Machine.{Machine}
use Rattle.call_machine.specs.Context.{Context, context_in_ecall}
use Rattle.call_machine.specs.Ecall.{Ocalls, Finished, Answered, shape_of, interpret, body_of}
use Rattle.call_laws.specs.Transfers.{loads_of, AreStores, AreFirstBytes}
use Rattle.call_laws.specs.Copying.{AreCopiedIn}
use Rattle.call_laws.specs.Answering.{AreStoredIf, ArePutBack, IsAnsweredRun}
use Rattle.call_laws.specs.Undisturbed.{AreLegal, words_at_end, AreAt, AreBytesOf, AreCopiesOf, written, written_if, with_blocks, with_answer, IsUndisturbedRun, AsksNothing, IsQuiet, IsDirectCall}
use Rattle.call_laws.proofs.RunParts.{ret_run}

-- a word that is set to itself
set_same : (words : List ℕ) (k b : ℕ) → slice_get words k ≡ Some b → slice_set words k b ≡ words
set_same [] k b e = refl
set_same (w ∷ words) zero b e = let q : w ≡ b = cc in ap (λ z. z ∷ words) (sym q)
set_same (w ∷ words) (suc k) b e = ap (λ l. w ∷ l) (set_same words k b e)

-- a legal history in two parts
legal_parts : (words : List ℕ) (xs ys : List Step) → IsLegal words (history_of (xs ++ ys))
    → IsLegal words (history_of xs) × IsLegal (words_in_the_end words (history_of xs)) (history_of ys)
legal_parts words [] ys h = (tt, h)
legal_parts words (s ∷ xs) ys h =
    let rest : IsLegal (words_after words s) (history_of xs) × IsLegal (words_in_the_end (words_after words s) (history_of xs)) (history_of ys) =
    legal_parts (words_after words s) xs ys h.1 in
    ((h.0, rest.0), rest.1)

end_parts : (words : List ℕ) (xs ys : List Step) → words_in_the_end words (history_of (xs ++ ys)) ≡ words_in_the_end (words_in_the_end words (history_of xs)) (history_of ys)
end_parts words [] ys = refl
end_parts words (s ∷ xs) ys = end_parts (words_after words s) xs ys

pub legal_events : (words : List ℕ) (xs ys : List Event) → AreLegal words (xs ++ ys) → AreLegal words xs × AreLegal (words_at_end words xs) ys
legal_events words xs ys h = legal_parts words (steps_of xs) (steps_of ys) (subst (λ l. IsLegal words (history_of l)) (steps_of-append xs ys) h)

pub end_events : (words : List ℕ) (xs ys : List Event) → words_at_end words (xs ++ ys) ≡ words_at_end (words_at_end words xs) ys
end_events words xs ys = ap (λ l. words_in_the_end words (history_of l)) (steps_of-append xs ys) ∙ end_parts words (steps_of xs) (steps_of ys)

-- loads give what is there, and change nothing
pub loads_there : (words : List ℕ) (address : ℕ) (bytes : List ℕ) → AreLegal words (loads_of address bytes)
    → AreAt words address bytes × (words_at_end words (loads_of address bytes) ≡ words)
loads_there words address [] h = (tt, refl)
loads_there words address (b ∷ bytes) h =
    let later : List Event = loads_of (address + 1) bytes in
    let same : slice_set words (word_at address) b ≡ words = set_same words (word_at address) b h.0 in
    let rest : AreAt words (address + 1) bytes × (words_at_end words later ≡ words) =
    loads_there words (address + 1) bytes (subst (λ w. AreLegal w later) same h.1) in
    ((h.0, rest.0), ap (λ w. words_at_end w later) same ∙ rest.1)

first_there : (inward : Bool) (words : List ℕ) (address : ℕ) (bytes : List ℕ) (events : List Event) → AreFirstBytes inward address bytes events → AreLegal words events
    → AreBytesOf words inward address bytes × (words_at_end words events ≡ words)
first_there true words address bytes events e h =
    let r : AreAt words address bytes × (words_at_end words (loads_of address bytes) ≡ words) = loads_there words address bytes (subst (λ es. AreLegal words es) e h) in
    (r.0, ap (λ es. words_at_end words es) e ∙ r.1)
first_there false words address bytes events e h = (e.0, ap (λ es. words_at_end words es) e.1)

pub copying_there : (f : Function) (frame : List ℕ) (room : ℕ) (params : List Param) (events : List Event) (blocks : List (Option (List ℕ))) (words : List ℕ)
    → AreCopiedIn f frame room params events blocks → AreLegal words events → AreCopiesOf words f frame params blocks × (words_at_end words events ≡ words)
copying_there f frame room [] events [] words c h = (tt, ap (λ es. words_at_end words es) c)
copying_there f frame room [] events (b ∷ blocks) words c h = absurd c
copying_there f frame room (p ∷ params) events [] words c h = absurd c
copying_there f frame room (p ∷ params) events (None ∷ blocks) words c h =
    let rest : AreCopiesOf words f frame params blocks × (words_at_end words events ≡ words) = copying_there f frame room params events blocks words c.1 h in
    ((c.0, rest.0), rest.1)
copying_there f frame room (p ∷ params) events (Some block ∷ blocks) words c h =
    let (first, more, events_are, copied, others) = c in
    let parts : AreLegal words first × AreLegal (words_at_end words first) more = legal_events words first more (subst (λ es. AreLegal words es) events_are h) in
    let (there, same) = first_there (is_in p.class) words (address_in frame p) copied.bytes first copied.first parts.0 in
    let rest : AreCopiesOf words f frame params blocks × (words_at_end words more ≡ words) =
    copying_there f frame (room - rounded_size (length block)) params more blocks words others (subst (λ w. AreLegal w more) same parts.1) in (
      (
        record {
          bytes = copied.bytes;
          whole = copied.whole;
          there = there;
          checked = copied.checked;
        },
        rest.0,
      ),
      ap (λ es. words_at_end words es) events_are ∙ end_events words first more ∙ ap (λ w. words_at_end w more) same ∙ rest.1,
    )

-- stores write their bytes
pub stores_write : (words : List ℕ) (address : ℕ) (bytes : List ℕ) (events : List Event) → AreStores address bytes events → words_at_end words events ≡ written words address bytes
stores_write words address [] [] h = refl
stores_write words address [] (e ∷ es) h = absurd h
stores_write words address (b ∷ bytes) [] h = absurd h
stores_write words address (b ∷ bytes) (made s ∷ es) h =
    let one : words_after words s ≡ slice_set words (word_at address) b = ap (λ v. words_after words v) h.0 in
    ap (λ w. words_at_end w es) one ∙ stores_write (slice_set words (word_at address) b) (address + 1) bytes es h.1
stores_write words address (b ∷ bytes) (ticked k ∷ es) h = absurd h
stores_write words address (b ∷ bytes) (placed k ∷ es) h = absurd h

stored_if_writes : (out : Bool) (words : List ℕ) (address : ℕ) (bytes : List ℕ) (events : List Event) → AreStoredIf out address bytes events
    → words_at_end words events ≡ written_if out words address bytes
stored_if_writes true words address bytes events h = stores_write words address bytes events h
stored_if_writes false words address bytes events h = ap (λ es. words_at_end words es) h

pub put_back_writes : (frame : List ℕ) (blocks : List (Param × Option (List ℕ))) (words : List ℕ) (events : List Event) → ArePutBack frame blocks events
    → words_at_end words events ≡ with_blocks frame blocks words
put_back_writes frame [] words events h = ap (λ es. words_at_end words es) h
put_back_writes frame ((p, None) ∷ rest) words events h = put_back_writes frame rest words events h
put_back_writes frame ((p, Some block) ∷ rest) words events h =
    let (first, more, events_are, stored, others) = h in
    let back : List ℕ = bytes_back (shape_of p.class) block in
    ap (λ es. words_at_end words es) events_are ∙ end_events words first more
    ∙ ap (λ w. words_at_end w more) (stored_if_writes (is_out p.class) words (address_in frame p) back first stored)
    ∙ put_back_writes frame rest (written_if (is_out p.class) words (address_in frame p) back) more others

-- an answered run with no write of another between its steps
pub undisturbed_run : (m : Machine) (ocalls : Ocalls) (cx : Context) (ordinal address : ℕ) (words : List ℕ) (events : List Event) (done : Answered)
    → IsAnsweredRun m ocalls cx ordinal address events done → AreLegal words events → IsUndisturbedRun m ocalls cx ordinal address words events
undisturbed_run m ocalls cx ordinal address words events done run legal =
    let answer : List Event = run.returning ++ run.putting in
    let after : List Event = placed done.turn ∷ answer in
    let body : List Event = run.running ++ after in
    let inner : List Event = run.copying ++ body in
    let loading : List Event = loads_of address run.frame in
    let all : AreLegal words (loading ++ inner) = subst (λ es. AreLegal words es) run.events_are legal in
    let one : AreLegal words loading × AreLegal (words_at_end words loading) inner = legal_events words loading inner all in
    let (frame_there, frame_same) = loads_there words address run.frame one.0 in
    let two : AreLegal words run.copying × AreLegal (words_at_end words run.copying) body = legal_events words run.copying body (subst (λ w. AreLegal w inner) frame_same one.1) in
    let (copies_there, copies_same) = copying_there run.function run.frame cx.room (marshalled run.function) run.copying run.copies.blocks words run.copied two.0 in
    let three : AreLegal words run.running × AreLegal (words_at_end words run.running) after = legal_events words run.running after (subst (λ w. AreLegal w body) copies_same two.1) in
    let mid : List ℕ = words_at_end words run.running in
    let stored : List ℕ = written mid address (low_bytes (return_size run.function) run.finished.value) in
    let to_inner : words_at_end words (loading ++ inner) ≡ words_at_end words inner = end_events words loading inner ∙ ap (λ w. words_at_end w inner) frame_same in
    let to_body : words_at_end words inner ≡ words_at_end words body = end_events words run.copying body ∙ ap (λ w. words_at_end w body) copies_same in
    let to_answer : words_at_end words body ≡ words_at_end mid answer = end_events words run.running after in
    let to_putting : words_at_end mid answer ≡ words_at_end stored run.putting =
    end_events mid run.returning run.putting
    ∙ ap (λ w. words_at_end w run.putting) (stores_write mid address (low_bytes (return_size run.function) run.finished.value) run.returning run.returned) in
    let put : words_at_end stored run.putting ≡ with_blocks run.frame (zip (marshalled run.function) run.finished.blocks) stored =
    put_back_writes run.frame (zip (marshalled run.function) run.finished.blocks) stored run.putting run.put_back in
    record {
      function = run.function;
      found = run.found;
      frame = run.frame;
      whole_frame = run.whole_frame;
      frame_there = frame_there;
      copies = run.copies;
      copies_there = copies_there;
      room_left = run.room_left;
      running = run.running;
      finished = run.finished;
      body_runs = run.body_runs;
      body_legal = three.0;
      words_are = ap (λ es. words_at_end words es) run.events_are ∙ to_inner ∙ to_body ∙ to_answer ∙ to_putting ∙ put;
    }

-- a body that asks for nothing has no events
pub record IsReturned (body : Execution) (events : List Event) (done : Finished) : Type 0 where
  pub value : ℕ
  pub blocks : List (Option (List ℕ))
  pub body_is : body ≡ returned value blocks
  pub no_events : events ≡ []
  pub done_is : record { value = value; blocks = blocks; records = [] } ≡ done

pub returned_run : (m : Machine) (ocalls : Ocalls) (cx : Context) (body : Execution) (events : List Event) (done : Finished) → AsksNothing body → IsRun (interpret m ocalls cx body) events done
    → IsReturned body events done
returned_run m ocalls cx (returned value blocks) events done quiet h =
    let end : (events ≡ []) × (record { value = value; blocks = blocks; records = [] } ≡ done) = ret_run (record { value = value; blocks = blocks; records = [] }) events done h in
    record {
      value = value;
      blocks = blocks;
      body_is = refl;
      no_events = end.0;
      done_is = end.1;
    }
returned_run m ocalls cx (on_cell q next) events done quiet h = absurd quiet
returned_run m ocalls cx (on_ocall q next) events done quiet h = absurd quiet

pub direct_call : (m : Machine) (ocalls : Ocalls) (cx : Context) (ordinal address : ℕ) (words : List ℕ) (events : List Event) → IsQuiet m ordinal
    → IsUndisturbedRun m ocalls cx ordinal address words events → IsDirectCall m cx ordinal address words events
direct_call m ocalls cx ordinal address words events quiet run =
    let body : Execution = body_of m ordinal run.function run.frame run.copies in
    let end : IsReturned body run.running run.finished =
    returned_run m ocalls (context_in_ecall cx ordinal run.copies.room) body run.running run.finished (quiet run.function run.frame run.copies) run.body_runs in
    let answer : Finished → List ℕ → List ℕ = λ done w. with_answer run.function address run.frame done.value done.blocks w in
    record {
      function = run.function;
      found = run.found;
      frame = run.frame;
      whole_frame = run.whole_frame;
      frame_there = run.frame_there;
      copies = run.copies;
      copies_there = run.copies_there;
      room_left = run.room_left;
      value = end.value;
      blocks = end.blocks;
      body_is = end.body_is;
      words_are = run.words_are ∙ ap (λ es. answer run.finished (words_at_end words es)) end.no_events ∙ ap (λ done. answer done words) (sym end.done_is);
    }
