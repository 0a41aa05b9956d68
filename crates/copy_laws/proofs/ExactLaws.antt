-- What an answered ECALL changes.
use Rattle.std.proofs.Common.{ℕ, zero, true, ◌≡◌, ◌≢◌, [], ◌∷◌, ◌++◌, List, zip, Some, suc, slice_get, All, Result, Ok, Err, refl, sym, ◌∙◌, subst}
use Rattle.std.specs.List.{AllByRecursion}
use Rattle.std.proofs.lemmas.List.Elements.{All-weaker, recursion_from_All}
use Rattle.sgx_base.specs.declared.Status.{Status}
use Rattle.sgx_base.specs.declared.TheConstants.Status.{SUCCESS}
use Rattle.edl_interface.specs.declared.Function.{Function}
use Rattle.edl_interface.specs.Parameters.{marshalled}
use Rattle.edl_interface.specs.Runnable.{IsRunnableFunction}
use Rattle.word_port.specs.declared.Step.{Step}
use Rattle.word_port.specs.Events.{Event, steps_of}
use Rattle.word_port.specs.Interaction.{IsRun}
use Rattle.word_port.specs.History.{Operation, IsLegal, words_in_the_end}
use Rattle.call_report.specs.declared.Way.{Way}
use Rattle.call_machine.specs.declared.Machine.{Machine}
use Rattle.call_machine.specs.Bodies.{KeepLengths}
use Rattle.call_machine.specs.Context.{Context}
use Rattle.call_machine.specs.Result.{Outcome}
use Rattle.call_machine.specs.Sound.{IsSoundMachine}
use Rattle.call_machine.specs.Entry.{IsEnclaveLoad}
use Rattle.call_machine.specs.Ecall.{Ocalls, Answered, ecall_by}
use Rattle.call_machine.specs.Ocall.{Handlers, ocall_by}
use Rattle.call_laws.specs.Answering.{IsAnsweredRun}
use Rattle.call_laws.specs.Undisturbed.{AreLegal, words_at_end}
use Rattle.call_laws.specs.Within.{IsInAnswer}
use Rattle.call_laws.proofs.EntryLaws.{EntryRun, entered_run}
use Rattle.call_laws.proofs.KeepingLaws.{copies_kept}
use Rattle.call_laws.proofs.LoadsAlone.{refused_alone}
use Rattle.call_laws.proofs.OcallLaws.{ocalls_keep}
use Rattle.call_laws.proofs.WithinLaws.{answer_within}
use Rattle.run_laws.proofs.InHost.{all_placed, frame_in}
use Rattle.copy_laws.specs.Passing.{history_with}
use Rattle.copy_laws.specs.Changing.{parts_of, IsInAnswerRange, IsExactChange}
use Rattle.copy_laws.proofs.Histories.{IsInParts, in_parts}
use Rattle.copy_laws.proofs.Parts.{HasEntry, has_entry, status_of}
use Rattle.copy_laws.proofs.Wholes.{same_legal, same_end}
use Rattle.copy_laws.proofs.Changes.{loads_keep, untouched, put_parts, parts_stand, return_based, outs_based}

function_at : (P : Function → Type 0) (functions : List Function) → AllByRecursion P functions → (ordinal : ℕ) (f : Function) → slice_get functions ordinal ≡ Some f → P f
function_at P [] h ordinal f e = cc
function_at P (g ∷ functions) h zero f e = let same : g ≡ f = cc in subst P same h.0
function_at P (g ∷ functions) h (suc n) f e = function_at P functions h.1 n f e

module _ (m : Machine) (handlers : Handlers) (cx : Context) (ordinal address : ℕ) (sound : IsSoundMachine m) where
  -- the stores of an answer, from the words after the middle
  stores_exact : (before : List ℕ) (events : List Event) (done : Answered) (run : IsAnsweredRun m (ocall_by m handlers) cx ordinal address events done)
      → AreLegal before (run.returning ++ run.putting)
      → IsExactChange run.function address run.frame run.copies.blocks run.finished.value run.finished.blocks before (words_at_end before (run.returning ++ run.putting))
  stores_exact before events done run legal =
      let f : Function = run.function in
      let kept : KeepLengths run.copies.blocks run.finished.blocks =
      copies_kept m (ocall_by m handlers) cx ordinal address events done run (sound.bodies ordinal) (ocalls_keep m handlers) in
      let runnable : IsRunnableFunction true f =
      function_at (IsRunnableFunction true) m.interface.ecalls (recursion_from_All (IsRunnableFunction true) m.interface.ecalls sound.runnable.ecalls) ordinal f run.found in
      let within : All (IsInAnswer f run.frame address run.copies.blocks) (steps_of (run.returning ++ run.putting)) =
      answer_within m (ocall_by m handlers) cx ordinal address events done run kept in
      record {
        others = λ index h.
            untouched index (steps_of (run.returning ++ run.putting))
            (recursion_from_All (λ (s : Step). s.index ≢ index) (steps_of (run.returning ++ run.putting))
            (All-weaker (IsInAnswer f run.frame address run.copies.blocks) (λ (s : Step). s.index ≢ index)
            (λ s in_it e. h (subst (λ n. IsInAnswerRange f address run.frame run.copies.blocks n) e in_it)) (steps_of (run.returning ++ run.putting)) within)) before;
        stand = parts_stand before (parts_of f address run.frame run.finished.value run.finished.blocks) (run.returning ++ run.putting) (
          return_based m.script.settings.host f address run.finished.value runnable (frame_in m.script.settings.host f address runnable run.frame_allowed),
          outs_based m.script.settings.host f run.frame cx.room (marshalled f) run.copying run.copies.blocks run.finished.blocks
              (all_placed m.script.settings.host f run.frame run.fields_allowed) run.copied kept,
        )
            (run.returning, run.putting, refl, run.returned, put_parts run.frame (zip (marshalled f) run.finished.blocks) run.putting run.put_back) legal;
      }

  pub middle_exact : (words : List ℕ) (events : List Event) (done : Answered) (middle : List Operation) (run : IsAnsweredRun m (ocall_by m handlers) cx ordinal address events done)
      → IsLegal words (history_with middle run)
      → IsExactChange run.function address run.frame run.copies.blocks run.finished.value run.finished.blocks (words_in_the_end words middle) (words_in_the_end words (history_with middle run))
  middle_exact words events done middle run legal =
      let parts : IsInParts words middle run = in_parts m (ocall_by m handlers) cx ordinal address words events done middle run legal in
      subst (λ after. IsExactChange run.function address run.frame run.copies.blocks run.finished.value run.finished.blocks (words_in_the_end words middle) after)
      (sym parts.end_is) (stores_exact (words_in_the_end words middle) events done run parts.storing_legal)

-- a refused one
refused_keeps : (m : Machine) (ocalls : Ocalls) (cx : Context) (ordinal address : ℕ) (words : List ℕ) (inner : List Event) (result : Result Answered Status)
    → EntryRun m ocalls cx ordinal address inner result → status_of result ≢ SUCCESS → AreLegal words inner → words_at_end words inner ≡ words
refused_keeps m ocalls cx ordinal address words inner (Ok done) run other legal = absurd (other refl)
refused_keeps m ocalls cx ordinal address words inner (Err status) run other legal =
    loads_keep words (steps_of inner) (recursion_from_All IsEnclaveLoad (steps_of inner) (refused_alone m cx ordinal address inner status run)) legal

pub refused_exact : (m : Machine) (ocalls : Ocalls) (cx : Context) (ordinal address : ℕ) (way : Way) (words : List ℕ) (events : List Event) (outcome : Outcome)
    → IsRun (ecall_by m ocalls cx ordinal address way) events outcome → AreLegal words events → outcome.status ≢ SUCCESS → words_at_end words events ≡ words
refused_exact m ocalls cx ordinal address way words events outcome h legal other =
    let e : HasEntry m ocalls cx ordinal address events outcome.status = has_entry m ocalls cx ordinal address way events outcome h in
    same_end words events e.inner e.steps_are
    ∙ refused_keeps m ocalls cx ordinal address words e.inner e.result (entered_run m ocalls cx ordinal address e.inner e.result e.run) (λ s. other (e.status_is ∙ s))
    (same_legal words events e.inner e.steps_are legal)
