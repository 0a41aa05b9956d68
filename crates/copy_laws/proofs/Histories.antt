-- An answered entry whose middle may be anything.
use Rattle.std.proofs.Common.{ℕ, ◌≡◌, List, [], ◌∷◌, ◌++◌, zip, slice_set, refl, ap, ◌∙◌, subst}
use Rattle.sgx_base.specs.Bytes.{low_bytes}
use Rattle.edl_interface.specs.Parameters.{marshalled, return_size}
use Rattle.word_port.specs.Events.{Event, steps_of}
use Rattle.word_port.specs.History.{Operation, step, race_write, IsLegal, history_of, words_after, words_in_the_end}
use Rattle.call_machine.specs.declared.Machine.{Machine}
use Rattle.call_machine.specs.Context.{Context}
use Rattle.call_machine.specs.Ecall.{Ocalls, Answered}
use Rattle.call_laws.specs.Transfers.{loads_of}
use Rattle.call_laws.specs.Answering.{IsAnsweredRun}
use Rattle.call_laws.specs.Undisturbed.{AreLegal, words_at_end, AreAt, AreCopiesOf, written, with_answer}
use Rattle.call_laws.proofs.UndisturbedLaws.{legal_events, end_events, loads_there, copying_there, stores_write, put_back_writes}
use Rattle.copy_laws.specs.Passing.{history_with, IsPassedByCopy}

-- a legal history in two parts
pub legal_parts : (words : List ℕ) (xs ys : List Operation) → IsLegal words (xs ++ ys) → IsLegal words xs × IsLegal (words_in_the_end words xs) ys
legal_parts words [] ys h = (tt, h)
legal_parts words (step s ∷ xs) ys h =
    let rest : IsLegal (words_after words s) xs × IsLegal (words_in_the_end (words_after words s) xs) ys = legal_parts (words_after words s) xs ys h.1 in
    ((h.0, rest.0), rest.1)
legal_parts words (race_write i n ∷ xs) ys h = legal_parts (slice_set words i n) xs ys h

pub end_parts : (words : List ℕ) (xs ys : List Operation) → words_in_the_end words (xs ++ ys) ≡ words_in_the_end (words_in_the_end words xs) ys
end_parts words [] ys = refl
end_parts words (step s ∷ xs) ys = end_parts (words_after words s) xs ys
end_parts words (race_write i n ∷ xs) ys = end_parts (slice_set words i n) xs ys

-- the loads before a body find the words that it began with
pub loading_there : (m : Machine) (ocalls : Ocalls) (cx : Context) (ordinal address : ℕ) (words : List ℕ) (events : List Event) (done : Answered)
    (run : IsAnsweredRun m ocalls cx ordinal address events done) → AreLegal words (loads_of address run.frame ++ run.copying)
    → AreAt words address run.frame × AreCopiesOf words run.function run.frame (marshalled run.function) run.copies.blocks
    × (words_at_end words (loads_of address run.frame ++ run.copying) ≡ words)
loading_there m ocalls cx ordinal address words events done run legal =
    let loading : List Event = loads_of address run.frame in
    let one : AreLegal words loading × AreLegal (words_at_end words loading) run.copying = legal_events words loading run.copying legal in
    let (frame_there, frame_same) = loads_there words address run.frame one.0 in
    let (copies_there, copies_same) =
    copying_there run.function run.frame cx.room (marshalled run.function) run.copying run.copies.blocks words run.copied (subst (λ w. AreLegal w run.copying) frame_same one.1) in
    (frame_there, copies_there, end_events words loading run.copying ∙ ap (λ w. words_at_end w run.copying) frame_same ∙ copies_same)

-- the stores after it write its answer
pub storing_writes : (m : Machine) (ocalls : Ocalls) (cx : Context) (ordinal address : ℕ) (words : List ℕ) (events : List Event) (done : Answered)
    (run : IsAnsweredRun m ocalls cx ordinal address events done)
    → words_at_end words (run.returning ++ run.putting) ≡ with_answer run.function address run.frame run.finished.value run.finished.blocks words
storing_writes m ocalls cx ordinal address words events done run =
    let bytes : List ℕ = low_bytes (return_size run.function) run.finished.value in
    end_events words run.returning run.putting
    ∙ ap (λ w. words_at_end w run.putting) (stores_write words address bytes run.returning run.returned)
    ∙ put_back_writes run.frame (zip (marshalled run.function) run.finished.blocks) (written words address bytes) run.putting run.put_back

-- the parts of a legal history
pub record IsInParts {m : Machine} {ocalls : Ocalls} {cx : Context} {ordinal address : ℕ} {events : List Event} {done : Answered}
    (words : List ℕ) (middle : List Operation) (run : IsAnsweredRun m ocalls cx ordinal address events done) : Type 0 where
  pub frame_there : AreAt words address run.frame
  pub copies_there : AreCopiesOf words run.function run.frame (marshalled run.function) run.copies.blocks
  pub middle_legal : IsLegal words middle
  pub storing_legal : AreLegal (words_in_the_end words middle) (run.returning ++ run.putting)
  pub end_is : words_in_the_end words (history_with middle run) ≡ words_at_end (words_in_the_end words middle) (run.returning ++ run.putting)

pub in_parts : (m : Machine) (ocalls : Ocalls) (cx : Context) (ordinal address : ℕ) (words : List ℕ) (events : List Event) (done : Answered) (middle : List Operation)
    (run : IsAnsweredRun m ocalls cx ordinal address events done) → IsLegal words (history_with middle run) → IsInParts words middle run
in_parts m ocalls cx ordinal address words events done middle run legal =
    let loading : List Operation = history_of (steps_of (loads_of address run.frame ++ run.copying)) in
    let storing : List Operation = history_of (steps_of (run.returning ++ run.putting)) in
    let one : IsLegal words loading × IsLegal (words_in_the_end words loading) (middle ++ storing) = legal_parts words loading (middle ++ storing) legal in
    let (frame_there, copies_there, same) = loading_there m ocalls cx ordinal address words events done run one.0 in
    let two : IsLegal words middle × IsLegal (words_in_the_end words middle) storing = legal_parts words middle storing (subst (λ w. IsLegal w (middle ++ storing)) same one.1) in
    record {
      frame_there = frame_there;
      copies_there = copies_there;
      middle_legal = two.0;
      storing_legal = two.1;
      end_is = end_parts words loading (middle ++ storing) ∙ ap (λ w. words_in_the_end w (middle ++ storing)) same ∙ end_parts words middle storing;
    }

pub passed_by_copy : (m : Machine) (ocalls : Ocalls) (cx : Context) (ordinal address : ℕ) (words : List ℕ) (events : List Event) (done : Answered) (middle : List Operation)
    (run : IsAnsweredRun m ocalls cx ordinal address events done) → IsLegal words (history_with middle run) → IsPassedByCopy words middle run
passed_by_copy m ocalls cx ordinal address words events done middle run legal =
    let parts : IsInParts words middle run = in_parts m ocalls cx ordinal address words events done middle run legal in
    record {
      frame_there = parts.frame_there;
      copies_there = parts.copies_there;
      middle_legal = parts.middle_legal;
      words_are = parts.end_is ∙ storing_writes m ocalls cx ordinal address (words_in_the_end words middle) events done run;
    }
