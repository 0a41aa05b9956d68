-- An ECALL with its record.
use Rattle.std.proofs.Common.{ℕ, ◌+◌, ◌-◌, ◌≡◌, ◌≢◌, ◌<◌, List, [], ◌∷◌, length, slice_set, Result, refl, ap, sym, ◌∙◌, subst}
use Rattle.sgx_base.specs.declared.Status.{Status}
use Rattle.sgx_base.specs.declared.TheConstants.Status.{SUCCESS}
use Rattle.word_port.specs.declared.RunFull.{RunFull}
use Rattle.word_port.specs.declared.RunFull.TheVariants.{Records}
use Rattle.word_port.specs.Events.{new_record}
use Rattle.word_port.specs.Interaction.{Interaction, ret, here, tick, and_then}
use Rattle.word_port.specs.Port.{PortState}
use Rattle.word_port.specs.Limits.{progress}
use Rattle.word_port.specs.Runs.{Runs, StopsAt}
use Rattle.word_port.proofs.Laws.{runs_ret, runs_then, stops_first}
use Rattle.word_port.proofs.EventLaws.{record_then, place_then, record_stop, place_stop, no_record}
use Rattle.call_report.specs.declared.CallKind.TheVariants.{Ecall}
use Rattle.call_report.specs.declared.Way.{Way}
use Rattle.call_report.specs.declared.CallRecord.{CallRecord}
use Rattle.call_report.specs.RecordList.{RecordList, records_left, with_records}
use Rattle.call_machine.specs.declared.Machine.{Machine}
use Rattle.call_machine.specs.declared.entry.Entered.{Entered}
use Rattle.call_machine.specs.declared.entry.Entered.TheVariants.{Answered as answered, Refused}
use Rattle.call_machine.specs.Calls.{with_record}
use Rattle.call_machine.specs.Context.{Context, depth_of}
use Rattle.call_machine.specs.Ecall.{Answered, Ecalls, Ocalls, entered, ecall_by, ecall_outcome}
use Rattle.call_machine.specs.Entry.{EntryRuns, IsRefusal, OnlyLoads, ends_as, ended_record}
use Rattle.call_machine.specs.Result.{Outcome}
use Rattle.call_machine.specs.Tcs.{TcsState, context_of, moment}
use Rattle.call_machine.specs.Thread.{ecall, entry_ocalls}
use Rattle.call_machine.proofs.Nesting.{ecalls_are}
use Rattle.call_machine.proofs.RecordPlace.{one_record_less, record_set, set_left, no_records}

module _ (m : Machine) (cx : Context) (ordinal address : ℕ) (way : Way) where
  abbrev the_ocalls : Ocalls
  the_ocalls = entry_ocalls m cx

  abbrev the_entry : Interaction (Result Answered Status)
  the_entry = entered m the_ocalls cx ordinal address

  abbrev ending : ℕ → Result Answered Status → Interaction Outcome
  ending first result = here (λ last. ret (ecall_outcome cx ordinal address way first last result))

  ecall_is : ecall m cx ordinal address way ≡ tick new_record (ecall_by m the_ocalls cx ordinal address way)
  unfolding ecall
  ecall_is = ap (λ (e : Ecalls). with_record (e cx ordinal address way)) (ecalls_are m (16 - length cx.stack))

  -- the entry is made, with its record
  pub ecall_runs : (result : Result Answered Status) (first last before left after waits later : ℕ) (old new : PortState)
      → before ≡ left + 1 → first ≡ length old.log → last ≡ length new.log → Runs the_entry (progress old left waits) (progress new after later) result
      → Runs (ecall m cx ordinal address way) (progress old before waits) (progress new after later) (ecall_outcome cx ordinal address way first last result)
  unfolding ecall_by
  ecall_runs result first last before left after waits later old new less begins ends entry =
      subst (λ t. Runs t (progress old before waits) (progress new after later) (ecall_outcome cx ordinal address way first last result)) (sym ecall_is)
      (record_then (ecall_by m the_ocalls cx ordinal address way) _ old before left waits _ less
      (place_then _ first _ _ _ begins
      (runs_then the_entry (ending first) (progress old left waits) (progress new after later) (progress new after later) result _ entry
      (place_then (λ last. ret (ecall_outcome cx ordinal address way first last result)) last _ _ _ ends (runs_ret _ _)))))

  -- a limit is reached in the entry
  pub ecall_stops : (full : RunFull) (first before left waits : ℕ) (old new : PortState)
      → before ≡ left + 1 → first ≡ length old.log → StopsAt full the_entry (progress old left waits) new
      → StopsAt full (ecall m cx ordinal address way) (progress old before waits) new
  unfolding ecall_by
  ecall_stops full first before left waits old new less begins entry =
      subst (λ t. StopsAt full t (progress old before waits) new) (sym ecall_is)
      (record_stop full (ecall_by m the_ocalls cx ordinal address way) old new before left waits less
      (place_stop full _ first _ _ begins (stops_first full the_entry (ending first) (progress old left waits) new entry)))

  -- no record is left
  pub ecall_unrecorded : (records waits : ℕ) (port : PortState) → records ≡ 0 → StopsAt Records (ecall m cx ordinal address way) (progress port records waits) port
  ecall_unrecorded records waits port none =
      subst (λ t. StopsAt Records t (progress port records waits) port) (sym ecall_is) (no_record _ port records waits none)

-- the record of an ECALL that begins
abbrev pub begun_record : ℕ → ℕ → ℕ → Way → CallRecord
begun_record ordinal depth address way =
    record { kind = Ecall; ordinal = ordinal; depth = depth; frame = address; way = way; status = SUCCESS; first = 0; turn = 0; last = 0 }

outcome_status : (cx : Context) (ordinal address first last : ℕ) (way : Way) (begun : CallRecord) (how : Entered) (made : List CallRecord)
    → (ecall_outcome cx ordinal address way first last (ends_as how made)).status ≡ (ended_record begun first last how).status
outcome_status cx ordinal address first last way begun (answered turn) made = refl
outcome_status cx ordinal address first last way begun (Refused status) made = refl

-- the records of the calls in an entry, of which a refused one has none
abbrev pub none_if_refused : Entered → List CallRecord → List CallRecord
none_if_refused (answered turn) made = made
none_if_refused (Refused status) made = []

outcome_records : (cx : Context) (ordinal address first last depth : ℕ) (way : Way) (how : Entered) (made : List CallRecord) → depth ≡ depth_of cx
    → (ecall_outcome cx ordinal address way first last (ends_as how made)).records
    ≡ ended_record (begun_record ordinal depth address way) first last how ∷ none_if_refused how made
outcome_records cx ordinal address first last depth way (answered turn) made e = rw e refl
outcome_records cx ordinal address first last depth way (Refused status) made e = rw e refl

records_made : (how : Entered) (pushed grown : RecordList) (made : List CallRecord) → grown ≡ with_records pushed made → (IsRefusal how → grown ≡ pushed)
    → grown ≡ with_records pushed (none_if_refused how made)
records_made (answered turn) pushed grown made more refused = more
records_made (Refused status) pushed grown made more refused = refused tt ∙ no_records pushed

-- an ECALL that was made, with its record in the list
pub ecall_ends : (m : Machine) (ordinal address depth first last place : ℕ) (way : Way) (before after : TcsState) (r pushed grown set : RecordList) (old new : PortState) (how : Entered)
    (begun ended : CallRecord)
    → depth ≡ depth_of (context_of before) → length r.list < r.limit → begun ≡ begun_record ordinal depth address way → ended ≡ ended_record begun first last how
    → pushed ≡ with_records r (begun ∷ []) → place ≡ length r.list → set ≡ record grown { list = slice_set grown.list place ended }
    → first ≡ length old.log → last ≡ length new.log → (IsRefusal how → grown ≡ pushed) → EntryRuns m ordinal address old new pushed grown before after how
    → (out : Outcome) × (out.status ≡ ended.status) × Runs (ecall m (context_of before) ordinal address way) (moment old r before) (moment new set after) out
    × (set ≡ with_records r out.records) × (after ≡ record before { waits = after.waits })
ecall_ends m ordinal address depth first last place way before after r pushed grown set old new how begun ended depth_is less begun_is ended_is push_is place_is set_is begins ends refused (made, entry, more, kept) =
    let cx : Context = context_of before in
    let out : Outcome = ecall_outcome cx ordinal address way first last (ends_as how made) in
    let inner : List CallRecord = none_if_refused how made in
    let all : grown ≡ with_records pushed inner = records_made how pushed grown made more refused in
    let listed : set ≡ with_records r (ended ∷ inner) = record_set r pushed grown begun inner place push_is place_is all set ended set_is in
    let left : records_left set ≡ records_left grown = set_left r pushed grown begun inner place push_is place_is all set ended set_is in
    let runs : Runs (ecall m cx ordinal address way) (moment old r before) (moment new grown after) out =
    ecall_runs m cx ordinal address way (ends_as how made) first last (records_left r) (records_left pushed) (records_left grown) before.waits after.waits old new
    (one_record_less r pushed begun push_is less) begins ends entry in
    let these : ended ∷ inner ≡ out.records =
    ap (λ (x : CallRecord). x ∷ inner) (ended_is ∙ ap (λ (b : CallRecord). ended_record b first last how) begun_is) ∙ sym (outcome_records cx ordinal address first last depth way how made depth_is) in (
      out,
      outcome_status cx ordinal address first last way begun how made ∙ ap (λ (x : CallRecord). x.status) (sym ended_is),
      subst (λ n. Runs (ecall m cx ordinal address way) (moment old r before) (progress new n after.waits) out) (sym left) runs,
      listed ∙ ap (λ l. with_records r l) these,
      kept,
    )

-- an entry whose status is not SUCCESS is a refused one
pub not_answered : (begun : CallRecord) (first last : ℕ) (status : Status) (how : Entered) → status ≡ (ended_record begun first last how).status → status ≢ SUCCESS → IsRefusal how
not_answered begun first last status (answered turn) is other = absurd (other is)
not_answered begun first last status (Refused refusal) is other = tt
