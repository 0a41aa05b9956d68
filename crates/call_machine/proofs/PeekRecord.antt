-- The record of a peek, from its place in the list to its end.
use Rattle.std.proofs.Common.{ℕ, ◌+◌, ◌≡◌, ◌<◌, List, [], ◌∷◌, length, slice_set, refl, ap, ◌∙◌}
use Rattle.sgx_base.specs.declared.TheConstants.Status.{SUCCESS}
use Rattle.word_port.specs.declared.Side.TheVariants.{Host}
use Rattle.word_port.specs.declared.RunFull.TheVariants.{Steps, Records}
use Rattle.word_port.specs.Port.{PortState}
use Rattle.word_port.specs.Interaction.{Interaction, ret, here, and_then}
use Rattle.word_port.specs.Limits.{progress}
use Rattle.word_port.specs.Runs.{Makes, StopsFull, Runs, StopsAt}
use Rattle.word_port.proofs.Laws.{runs_ret}
use Rattle.word_port.proofs.EventLaws.{record_then, place_then, steps_then, record_stop, place_stop, steps_full_then, no_record}
use Rattle.call_report.specs.declared.CallKind.TheVariants.{Peek}
use Rattle.call_report.specs.declared.Way.TheVariants.{Ordinary}
use Rattle.call_report.specs.declared.CallRecord.{CallRecord}
use Rattle.call_report.specs.RecordList.{RecordList, records_left, with_records}
use Rattle.call_machine.specs.Acts.{mapped_loads, peek_record, peek}
use Rattle.call_machine.specs.Made.{MakesCalls}
use Rattle.call_machine.specs.Tcs.{TcsState}
use Rattle.call_machine.proofs.RecordPlace.{record_set, one_record_less, no_records}

module _ (host depth address count : ℕ) where
  abbrev peeking : Interaction (List CallRecord)
  peeking = peek Host host depth address count

  abbrev peeked_from : ℕ → Interaction (List CallRecord)
  peeked_from first = and_then (mapped_loads Host host address count) (λ done. here (λ last. ret (peek_record depth address first last ∷ [])))

  peek_runs : (first last before after waits : ℕ) (old new : PortState) → before ≡ after + 1 → first ≡ length old.log → last ≡ length new.log → Makes (mapped_loads Host host address count) old new tt
      → Runs peeking (progress old before waits) (progress new after waits) (peek_record depth address first last ∷ [])
  peek_runs first last before after waits old new e begins ends made =
      record_then (here peeked_from) _ old before after waits _ e
      (place_then peeked_from first _ _ _ begins
      (steps_then (mapped_loads Host host address count) (λ done. here (λ last. ret (peek_record depth address first last ∷ []))) _ old new after waits _ tt made
      (place_then (λ last. ret (peek_record depth address first last ∷ [])) last _ _ _ ends (runs_ret _ _))))

  -- no record is left
  pub peek_unrecorded : (records waits : ℕ) (port : PortState) → records ≡ 0 → StopsAt Records peeking (progress port records waits) port
  peek_unrecorded records waits port none = no_record (here peeked_from) port records waits none

  -- the log is full among the loads
  pub peek_stops : (first before after waits : ℕ) (old new : PortState) → before ≡ after + 1 → first ≡ length old.log → StopsFull (mapped_loads Host host address count) old new
      → StopsAt Steps peeking (progress old before waits) new
  peek_stops first before after waits old new e begins stopped =
      record_stop Steps (here peeked_from) old new before after waits e
      (place_stop Steps peeked_from first (progress old after waits) new begins
      (steps_full_then (mapped_loads Host host address count) (λ done. here (λ last. ret (peek_record depth address first last ∷ []))) old new after waits stopped))

  -- a peek that was made, with its record in the list
  pub peek_ends : (first last place d : ℕ) (t : TcsState) (before pushed set : RecordList) (old new : PortState) (begun ended : CallRecord)
      → d ≡ depth → length before.list < before.limit
      → ended ≡ record { kind = Peek; ordinal = 0; depth = d; frame = address; way = Ordinary; status = SUCCESS; first = first; turn = first; last = last }
      → pushed ≡ with_records before (begun ∷ []) → place ≡ length before.list → set ≡ record pushed { list = slice_set pushed.list place ended }
      → first ≡ length old.log → last ≡ length new.log → Makes (mapped_loads Host host address count) old new tt
      → MakesCalls peeking old new before set t t
  peek_ends first last place d t before pushed set old new begun ended depth_is less ended_is push_is place_is set_is begins ends made =
      let listed : set ≡ with_records before (ended ∷ []) = record_set before pushed pushed begun [] place push_is place_is (no_records pushed) set ended set_is in
      let one : ended ∷ [] ≡ peek_record depth address first last ∷ [] =
      ap (λ (x : CallRecord). x ∷ []) ended_is ∙ ap (λ n. peek_record n address first last ∷ []) depth_is in (
        peek_record depth address first last ∷ [],
        peek_runs first last (records_left before) (records_left set) t.waits old new (one_record_less before set ended listed less) begins ends made,
        listed ∙ ap (λ l. with_records before l) one,
        refl,
      )
