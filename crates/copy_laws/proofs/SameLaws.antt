-- Two ECALLs with the same arguments.
use Rattle.std.proofs.Common.{ℕ, ◌≡◌, List, [], ◌∷◌, Result, Ok, Err, refl, ap, sym, ◌∙◌, subst}
use Rattle.sgx_base.specs.declared.Status.{Status}
use Rattle.edl_interface.specs.declared.Function.{Function}
use Rattle.edl_interface.specs.declared.Param.{Param}
use Rattle.edl_interface.specs.Parameters.{marshalled}
use Rattle.word_port.specs.Events.{Event}
use Rattle.word_port.specs.Interaction.{IsRun}
use Rattle.call_report.specs.declared.Way.{Way}
use Rattle.call_machine.specs.declared.Machine.{Machine}
use Rattle.call_machine.specs.Context.{Context}
use Rattle.call_machine.specs.Result.{Outcome}
use Rattle.call_machine.specs.Ecall.{Ocalls, Answered, entered, ecall_by}
use Rattle.call_laws.specs.Undisturbed.{AreLegal}
use Rattle.call_laws.proofs.EntryLaws.{EntryRun, entered_run}
use Rattle.copy_laws.specs.Repeating.{AreAlikeAt, HaveSameRanges, AreSameCalls}
use Rattle.copy_laws.proofs.Changes.{at_kept}
use Rattle.copy_laws.proofs.Parts.{HasEntry, has_entry, status_of}
use Rattle.copy_laws.proofs.Repeats.{AreCalm, refused_both, only_run}
use Rattle.copy_laws.proofs.Wholes.{same_legal}

-- the other way round
ranges_back : (words others : List ℕ) (f : Function) (frame : List ℕ) (params : List Param) → HaveSameRanges words others f frame params → HaveSameRanges others words f frame params
ranges_back words others f frame [] h = tt
ranges_back words others f frame (p ∷ params) h = (λ inward index w. sym (h.0 inward index w), ranges_back words others f frame params h.1)

same_back : (m : Machine) (ordinal address : ℕ) (words others : List ℕ) → AreSameCalls m ordinal address words others → AreSameCalls m ordinal address others words
same_back m ordinal address words others h = λ f found. record {
  frames = λ index w. sym ((h f found).frames index w);
  ranges = λ frame whole at.
      ranges_back words others f frame (marshalled f)
      ((h f found).ranges frame whole (at_kept others words address frame (subst (λ n. AreAlikeAt words others address n) (sym whole) (h f found).frames) at));
}

module _ (m : Machine) (ocalls : Ocalls) (cx : Context) (ordinal address : ℕ) where
  refused_same : (words others : List ℕ) (inner later : List Event) (status : Status) (other : Result Answered Status) → AreSameCalls m ordinal address words others
      → IsRun (entered m ocalls cx ordinal address) inner (Err status) → EntryRun m ocalls cx ordinal address inner (Err status) → AreLegal words inner
      → IsRun (entered m ocalls cx ordinal address) later other → AreLegal others later → Err status ≡ other
  refused_same words others inner later status other same run entry legal run_later legal_later =
      let calm : AreCalm words others inner = refused_both words others m cx ordinal address inner status same entry legal in
      only_run (entered m ocalls cx ordinal address) others inner later (Err status) other run run_later calm.1.steps calm.1.legal legal_later

  by_results : (words others : List ℕ) (inner later : List Event) (result other : Result Answered Status) → AreSameCalls m ordinal address words others
      → IsRun (entered m ocalls cx ordinal address) inner result → AreLegal words inner
      → IsRun (entered m ocalls cx ordinal address) later other → AreLegal others later → status_of result ≡ status_of other
  by_results words others inner later (Ok done) (Ok more) same run legal run_later legal_later = refl
  by_results words others inner later (Err status) other same run legal run_later legal_later =
      ap (λ r. status_of r) (refused_same words others inner later status other same run (entered_run m ocalls cx ordinal address inner (Err status) run) legal run_later legal_later)
  by_results words others inner later (Ok done) (Err status) same run legal run_later legal_later =
      sym (ap (λ r. status_of r) (refused_same others words later inner status (Ok done) (same_back m ordinal address words others same) run_later
      (entered_run m ocalls cx ordinal address later (Err status) run_later) legal_later run legal))

pub same_status : (m : Machine) (ocalls : Ocalls) (cx : Context) (ordinal address : ℕ) (way : Way) (words others : List ℕ) (events later : List Event) (outcome other : Outcome)
    → IsRun (ecall_by m ocalls cx ordinal address way) events outcome → AreLegal words events
    → IsRun (ecall_by m ocalls cx ordinal address way) later other → AreLegal others later
    → AreSameCalls m ordinal address words others → outcome.status ≡ other.status
same_status m ocalls cx ordinal address way words others events later outcome other run legal run_later legal_later same =
    let a : HasEntry m ocalls cx ordinal address events outcome.status = has_entry m ocalls cx ordinal address way events outcome run in
    let b : HasEntry m ocalls cx ordinal address later other.status = has_entry m ocalls cx ordinal address way later other run_later in
    a.status_is
    ∙ by_results m ocalls cx ordinal address words others a.inner b.inner a.result b.result same a.run (same_legal words events a.inner a.steps_are legal)
    b.run (same_legal others later b.inner b.steps_are legal_later)
    ∙ sym b.status_is
