-- A whole ECALL as its entry, between two places of the log.
use Rattle.std.proofs.Common.{ℕ, ◌≡◌, List, [], ◌++◌, Result, Ok, Err, refl, ap, sym, ◌∙◌, append-nil}
use Rattle.sgx_base.specs.declared.Status.{Status}
use Rattle.sgx_base.specs.declared.TheConstants.Status.{SUCCESS}
use Rattle.word_port.specs.Events.{Event, steps_of}
use Rattle.word_port.specs.Interaction.{Interaction, ret, here, and_then, IsRun}
use Rattle.word_port.proofs.Laws.{steps_of-append}
use Rattle.call_report.specs.declared.Way.{Way}
use Rattle.call_machine.specs.declared.Machine.{Machine}
use Rattle.call_machine.specs.Context.{Context}
use Rattle.call_machine.specs.Result.{Outcome}
use Rattle.call_machine.specs.Ecall.{Ocalls, Answered, ecall_outcome, entered, ecall_by}
use Rattle.call_laws.specs.Answering.{IsAnsweredRun}
use Rattle.call_laws.proofs.RunParts.{IsTwoRuns, two_runs, ret_run, IsPlacedRun, placed_run}
use Rattle.call_laws.proofs.EntryLaws.{EntryRun, entered_run}
use Rattle.run_laws.proofs.RefusalLaws.{refusal_other}

abbrev pub status_of : Result Answered Status → Status
status_of (Ok done) = SUCCESS
status_of (Err status) = status

-- its entry's run has the same steps
pub record HasEntry (m : Machine) (ocalls : Ocalls) (cx : Context) (ordinal address : ℕ) (events : List Event) (status : Status) : Type 0 where
  pub inner : List Event
  pub result : Result Answered Status
  pub run : IsRun (entered m ocalls cx ordinal address) inner result
  pub steps_are : steps_of events ≡ steps_of inner
  pub status_is : status ≡ status_of result

module _ (m : Machine) (ocalls : Ocalls) (cx : Context) (ordinal address : ℕ) (way : Way) where
  outcome_status : (first last : ℕ) (result : Result Answered Status) → (ecall_outcome cx ordinal address way first last result).status ≡ status_of result
  outcome_status first last (Ok done) = refl
  outcome_status first last (Err status) = refl

  pub has_entry : (events : List Event) (outcome : Outcome) → IsRun (ecall_by m ocalls cx ordinal address way) events outcome → HasEntry m ocalls cx ordinal address events outcome.status
  unfolding ecall_by
  has_entry events outcome h =
      let ends : ℕ → Result Answered Status → ℕ → Interaction Outcome = λ first result last. ret (ecall_outcome cx ordinal address way first last result) in
      let begins : ℕ → Interaction Outcome = λ first. and_then (entered m ocalls cx ordinal address) (λ result. here (ends first result)) in
      let p : IsPlacedRun begins events outcome = placed_run begins events outcome h in
      let r : IsTwoRuns (entered m ocalls cx ordinal address) (λ result. here (ends p.place result)) p.rest outcome =
      two_runs (entered m ocalls cx ordinal address) (λ result. here (ends p.place result)) p.rest outcome p.run in
      let q : IsPlacedRun (ends p.place r.middle) r.rest outcome = placed_run (ends p.place r.middle) r.rest outcome r.rest_run in
      let end : (q.rest ≡ []) × (ecall_outcome cx ordinal address way p.place q.place r.middle ≡ outcome) =
      ret_run (ecall_outcome cx ordinal address way p.place q.place r.middle) q.rest outcome q.run in
      let nothing : steps_of r.rest ≡ [] = ap (λ es. steps_of es) q.events_are ∙ ap (λ es. steps_of es) end.0 in
      let first_status : outcome.status ≡ (ecall_outcome cx ordinal address way p.place q.place r.middle).status = ap (λ (o : Outcome). o.status) (sym end.1) in
      let outer : steps_of events ≡ steps_of p.rest = ap (λ es. steps_of es) p.events_are in
      let split : steps_of p.rest ≡ steps_of r.first ++ steps_of r.rest = ap (λ es. steps_of es) r.events_are ∙ steps_of-append r.first r.rest in
      let last : steps_of r.first ++ steps_of r.rest ≡ steps_of r.first = ap (λ l. steps_of r.first ++ l) nothing ∙ append-nil (steps_of r.first) in
      let whole : steps_of events ≡ steps_of r.first = outer ∙ split ∙ last in
      record {
        inner = r.first;
        result = r.middle;
        run = r.first_run;
        steps_are = whole;
        status_is = first_status ∙ outcome_status p.place q.place r.middle;
      }

-- an entry with status SUCCESS was answered
pub record HasAnswered (m : Machine) (ocalls : Ocalls) (cx : Context) (ordinal address : ℕ) (events : List Event) : Type 0 where
  pub inner : List Event
  pub done : Answered
  pub run : IsAnsweredRun m ocalls cx ordinal address inner done
  pub entry : IsRun (entered m ocalls cx ordinal address) inner (Ok done)
  pub steps_are : steps_of events ≡ steps_of inner

answered_by : (m : Machine) (ocalls : Ocalls) (cx : Context) (ordinal address : ℕ) (events inner : List Event) (result : Result Answered Status)
    → IsRun (entered m ocalls cx ordinal address) inner result → EntryRun m ocalls cx ordinal address inner result → steps_of events ≡ steps_of inner → status_of result ≡ SUCCESS
    → HasAnswered m ocalls cx ordinal address events
answered_by m ocalls cx ordinal address events inner (Ok done) entry run steps e = record {
  inner = inner;
  done = done;
  run = run;
  entry = entry;
  steps_are = steps;
}
answered_by m ocalls cx ordinal address events inner (Err status) entry run steps e = absurd (refusal_other m cx ordinal address inner status run e)

pub has_answered : (m : Machine) (ocalls : Ocalls) (cx : Context) (ordinal address : ℕ) (way : Way) (events : List Event) (outcome : Outcome)
    → IsRun (ecall_by m ocalls cx ordinal address way) events outcome → outcome.status ≡ SUCCESS → HasAnswered m ocalls cx ordinal address events
has_answered m ocalls cx ordinal address way events outcome h e =
    let entry : HasEntry m ocalls cx ordinal address events outcome.status = has_entry m ocalls cx ordinal address way events outcome h in
    answered_by m ocalls cx ordinal address events entry.inner entry.result entry.run (entered_run m ocalls cx ordinal address entry.inner entry.result entry.run) entry.steps_are
    (sym entry.status_is ∙ e)
