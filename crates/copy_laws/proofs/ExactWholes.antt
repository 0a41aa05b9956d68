-- What a whole ECALL with SUCCESS changes.
use Rattle.std.proofs.Common.{ℕ, ◌≡◌, List, [], ◌∷◌, ◌++◌, refl, ap, sym, ◌∙◌, subst, append_assoc}
use Rattle.sgx_base.specs.declared.TheConstants.Status.{SUCCESS}
use Rattle.word_port.specs.declared.Step.{Step}
use Rattle.word_port.specs.Events.{Event, placed, steps_of}
use Rattle.word_port.specs.Interaction.{IsRun}
use Rattle.word_port.specs.History.{Operation, step, IsLegal, history_of, words_in_the_end}
use Rattle.word_port.proofs.Laws.{steps_of-append}
use Rattle.body_vm.specs.Execution.{Execution}
use Rattle.call_report.specs.declared.Way.{Way}
use Rattle.call_machine.specs.declared.Machine.{Machine}
use Rattle.call_machine.specs.Context.{Context, context_in_ecall}
use Rattle.call_machine.specs.Result.{Outcome}
use Rattle.call_machine.specs.Sound.{IsSoundMachine}
use Rattle.call_machine.specs.Ecall.{Ocalls, Answered, Finished, body_of, ecall_by}
use Rattle.call_machine.specs.Ocall.{Handlers, ocall_by}
use Rattle.call_laws.specs.Transfers.{loads_of}
use Rattle.call_laws.specs.Answering.{IsAnsweredRun}
use Rattle.call_laws.specs.Undisturbed.{AreLegal, words_at_end, with_answer, IsUndisturbedRun, IsQuiet}
use Rattle.call_laws.proofs.UndisturbedLaws.{IsReturned, returned_run}
use Rattle.copy_laws.specs.Passing.{history_with}
use Rattle.copy_laws.specs.Changing.{IsExactChange, ChangesItsAnswer, ChangesItsAnswerAlone}
use Rattle.copy_laws.proofs.Histories.{IsInParts, in_parts, storing_writes}
use Rattle.copy_laws.proofs.Parts.{HasAnswered, has_answered}
use Rattle.copy_laws.proofs.Wholes.{same_legal, same_end}
use Rattle.copy_laws.proofs.ExactLaws.{middle_exact}

pub history_append : (xs ys : List Step) → history_of (xs ++ ys) ≡ history_of xs ++ history_of ys
history_append [] ys = refl
history_append (s ∷ xs) ys = ap (λ l. step s ∷ l) (history_append xs ys)

parts_history : (loading running storing : List Event) (turn : ℕ)
    → history_of (steps_of (loading ++ (running ++ placed turn ∷ storing))) ≡ history_of (steps_of loading) ++ (history_of (steps_of running) ++ history_of (steps_of storing))
parts_history loading running storing turn =
    ap (λ l. history_of l) (steps_of-append loading (running ++ placed turn ∷ storing))
    ∙ history_append (steps_of loading) (steps_of (running ++ placed turn ∷ storing))
    ∙ ap (λ l. history_of (steps_of loading) ++ history_of l) (steps_of-append running (placed turn ∷ storing))
    ∙ ap (λ l. history_of (steps_of loading) ++ l) (history_append (steps_of running) (steps_of storing))

-- the history of a run whose middle is its body alone
pub own_history : (m : Machine) (ocalls : Ocalls) (cx : Context) (ordinal address : ℕ) (inner : List Event) (done : Answered) (run : IsAnsweredRun m ocalls cx ordinal address inner done)
    → history_of (steps_of inner) ≡ history_with (history_of (steps_of run.running)) run
own_history m ocalls cx ordinal address inner done run =
    let storing : List Event = run.returning ++ run.putting in
    let rest : List Event = run.running ++ placed done.turn ∷ storing in
    ap (λ es. history_of (steps_of es)) (run.events_are ∙ sym (append_assoc (loads_of address run.frame) run.copying rest))
    ∙ parts_history (loads_of address run.frame ++ run.copying) run.running storing done.turn

module _ (m : Machine) (handlers : Handlers) (cx : Context) (ordinal address : ℕ) (way : Way) where
  changes_by : (sound : IsSoundMachine m) (words : List ℕ) (events inner : List Event) (done : Answered) (run : IsAnsweredRun m (ocall_by m handlers) cx ordinal address inner done)
      → words_at_end words events ≡ words_at_end words inner → AreLegal words inner → ChangesItsAnswer m (ocall_by m handlers) cx ordinal address words events
  changes_by sound words events inner done run same legal =
      let middle : List Operation = history_of (steps_of run.running) in
      let own : history_of (steps_of inner) ≡ history_with middle run = own_history m (ocall_by m handlers) cx ordinal address inner done run in
      let whole : IsLegal words (history_with middle run) = subst (λ l. IsLegal words l) own legal in
      let ends : words_at_end words events ≡ words_in_the_end words (history_with middle run) = same ∙ ap (λ l. words_in_the_end words l) own in
      let parts : IsInParts words middle run = in_parts m (ocall_by m handlers) cx ordinal address words inner done middle run whole in
      record {
        run = record {
          function = run.function;
          found = run.found;
          frame = run.frame;
          whole_frame = run.whole_frame;
          frame_there = parts.frame_there;
          copies = run.copies;
          copies_there = parts.copies_there;
          room_left = run.room_left;
          running = run.running;
          finished = run.finished;
          body_runs = run.body_runs;
          body_legal = parts.middle_legal;
          words_are = ends ∙ parts.end_is ∙ storing_writes m (ocall_by m handlers) cx ordinal address (words_in_the_end words middle) inner done run;
        };
        change = subst (λ after. IsExactChange run.function address run.frame run.copies.blocks run.finished.value run.finished.blocks (words_in_the_end words middle) after) (sym ends)
            (middle_exact m handlers cx ordinal address sound words inner done middle run whole);
      }

  pub changes_its_answer : (words : List ℕ) (events : List Event) (outcome : Outcome) → IsSoundMachine m
      → IsRun (ecall_by m (ocall_by m handlers) cx ordinal address way) events outcome → AreLegal words events → outcome.status ≡ SUCCESS
      → ChangesItsAnswer m (ocall_by m handlers) cx ordinal address words events
  changes_its_answer words events outcome sound h legal e =
      let a : HasAnswered m (ocall_by m handlers) cx ordinal address events = has_answered m (ocall_by m handlers) cx ordinal address way events outcome h e in
      changes_by sound words events a.inner a.done a.run (same_end words events a.inner a.steps_are) (same_legal words events a.inner a.steps_are legal)

-- a body that asks for nothing
pub changes_alone : (m : Machine) (ocalls : Ocalls) (cx : Context) (ordinal address : ℕ) (words : List ℕ) (events : List Event) → IsQuiet m ordinal
    → ChangesItsAnswer m ocalls cx ordinal address words events → ChangesItsAnswerAlone m cx ordinal address words events
changes_alone m ocalls cx ordinal address words events quiet c =
    let run : IsUndisturbedRun m ocalls cx ordinal address words events = c.run in
    let body : Execution = body_of m ordinal run.function run.frame run.copies in
    let end : IsReturned body run.running run.finished =
    returned_run m ocalls (context_in_ecall cx ordinal run.copies.room) body run.running run.finished (quiet run.function run.frame run.copies) run.body_runs in
    let answer : Finished → List ℕ → List ℕ = λ done w. with_answer run.function address run.frame done.value done.blocks w in
    let after : List ℕ = words_at_end words events in
    let change : Finished → List ℕ → Type 0 = λ done w. IsExactChange run.function address run.frame run.copies.blocks done.value done.blocks w after in
    record {
      call = record {
        function = run.function;
        found = run.found;
        frame = run.frame;
        whole_frame = run.whole_frame;
        frame_there = run.frame_there;
        copies = run.copies;
        copies_there = run.copies_there;
        room_left = run.room_left;
        value = end.value;
        blocks = end.blocks;
        body_is = end.body_is;
        words_are = run.words_are ∙ ap (λ es. answer run.finished (words_at_end words es)) end.no_events ∙ ap (λ done. answer done words) (sym end.done_is);
      };
      change = subst (λ done. change done words) (sym end.done_is) (subst (λ es. change run.finished (words_at_end words es)) end.no_events c.change);
    }
