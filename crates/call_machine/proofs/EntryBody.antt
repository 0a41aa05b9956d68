-- An admitted entry: its body, and its answer.
use Rattle.std.proofs.Common.{ℕ, ◌≡◌, ◌<◌, ◌≤◌, ◌+◌, List, [], ◌∷◌, length, map, Option, Some, None, Result, Ok, Err, slice_get, IsTrue, refl, ap, sym, ◌∙◌, subst}
use Rattle.std.proofs.lemmas.List.{length-map}
use Rattle.sgx_base.specs.Ranges.{is_mapped, host_start}
use Rattle.sgx_base.specs.declared.Status.{Status}
use Rattle.edl_interface.specs.declared.Function.{Function}
use Rattle.edl_interface.specs.Parameters.{marshalled, return_size, value_in}
use Rattle.word_port.specs.declared.RunFull.{RunFull}
use Rattle.word_port.specs.Interaction.{Interaction, ret, here, and_then}
use Rattle.word_port.specs.Port.{PortState}
use Rattle.word_port.specs.Limits.{Progress, progress}
use Rattle.word_port.specs.Runs.{Leads, Makes, Reaches, Runs, StopsAt, StopsFull}
use Rattle.word_port.proofs.Laws.{reaches_on, reaches_then, runs_ret, stops_on, stops_first, stops_second}
use Rattle.word_port.proofs.EventLaws.{steps_reach, steps_then, steps_full_then, steps_stop, place_then, place_stop}
use Rattle.enclave_memory.specs.declared.Block.{Block}
use Rattle.enclave_memory.specs.Memory.{Memory, room_of}
use Rattle.body_vm.specs.Places.{blocks_in}
use Rattle.bridge_program.specs.Entry.{Entered as OnStack}
use Rattle.bridge_program.specs.Standing.{IsInEnclave}
use Rattle.call_copy.specs.Stops.{IsCutShort}
use Rattle.call_report.specs.declared.CallRecord.{CallRecord}
use Rattle.call_report.specs.RecordList.{RecordList, records_left}
use Rattle.call_machine.specs.declared.Machine.{Machine}
use Rattle.call_machine.specs.declared.admission.Admitted.{Admitted}
use Rattle.call_machine.specs.declared.entry.Entered.TheVariants.{Answered as answered, Refused}
use Rattle.call_machine.specs.Admitted.{HasFields, LiesOn, IsAdmitted}
use Rattle.call_machine.specs.Bodies.{HasParameters, BodyRan, body_on, copies_held}
use Rattle.call_machine.specs.Context.{Context, context_in_ecall}
use Rattle.call_machine.specs.Ecall.{Answered, Finished, Ocalls, finished, interpret, body_of, put_answer, body_and_answer, entered}
use Rattle.call_machine.specs.Entry.{EntryRuns, HasBlocks, HasGrown, AreCopiesOf, ends_as}
use Rattle.call_machine.specs.Refusal.{AreAllowed}
use Rattle.call_machine.specs.Tcs.{TcsState, context_of, moment, HasStackInHost, IsPortOf}
use Rattle.call_machine.specs.Thread.{entry_ocalls, no_ocalls}
use Rattle.call_machine.proofs.BlockLengths.{still_copies}
use Rattle.call_machine.proofs.HeldBlocks.{still_grown}
use Rattle.call_machine.proofs.Nesting.{inner_ocalls}
use Rattle.call_machine.proofs.RecordPlace.{no_records}

-- a refused entry made steps alone
pub refusal_runs : (m : Machine) (ordinal address : ℕ) (old new : PortState) (r : RecordList) (first last : TcsState) (status : Status)
    → ((ocalls : Ocalls) → Makes (entered m ocalls (context_of first) ordinal address) old new (Err status)) → last ≡ first
    → EntryRuns m ordinal address old new r r first last (Refused status)
refusal_runs m ordinal address old new r first last status made same =
    let ocalls : Ocalls = entry_ocalls m (context_of first) in
    let runs : Runs (entered m ocalls (context_of first) ordinal address) (moment old r first) (moment new r first) (Err status) =
    steps_reach (entered m ocalls (context_of first) ordinal address) (ret (Err status)) old new (records_left r) first.waits (made ocalls) in (
      [],
      subst (λ (t : TcsState). Runs (entered m ocalls (context_of first) ordinal address) (moment old r first) (moment new r t) (Err status)) (sym same) runs,
      no_records r,
      same ∙ ap (λ (w : ℕ). record first { waits = w }) (ap (λ (t : TcsState). t.waits) (sym same)),
    )

-- an entry that is cut before its body
pub entry_cut_early : (m : Machine) (ordinal address : ℕ) (old new : PortState) (r : RecordList) (first : TcsState) (full : RunFull)
    → ((ocalls : Ocalls) → IsCutShort (entered m ocalls (context_of first) ordinal address) old new full)
    → StopsAt full (entered m (entry_ocalls m (context_of first)) (context_of first) ordinal address) (moment old r first) new
entry_cut_early m ordinal address old new r first full cut =
    let t : Interaction (Result Answered Status) = entered m (entry_ocalls m (context_of first)) (context_of first) ordinal address in
    let c : IsCutShort t old new full = cut (entry_ocalls m (context_of first)) in
    subst (λ k. StopsAt k t (moment old r first) new) (sym c.0) (steps_stop t old new (records_left r) first.waits c.1)

module _ (m : Machine) (ordinal address : ℕ) (old mid : PortState) (first now : TcsState) (admitted : Admitted) (blocks : List (Option Block))
    (is : IsAdmitted m ordinal address old mid first now admitted blocks) where
  abbrev the_function : Function
  the_function = admitted.function.now

  -- ---- what its body is given

  pub in_enclave : IsInEnclave now.stack
  in_enclave = subst (λ (s : List OnStack). IsInEnclave s) (sym (ap (λ (t : TcsState). t.stack) is.lies.grown)) refl

  pub stack_stays : HasStackInHost m first → HasStackInHost m now
  stack_stays h = (
    subst (λ b. host_start ≤ b) (sym (ap (λ (t : TcsState). t.base) is.lies.grown)) h.0,
    subst (λ b. b ≤ host_start + m.script.settings.host) (sym (ap (λ (t : TcsState). t.top) is.lies.grown)) h.1,
  )

  pub port_stays : IsPortOf m old → IsPortOf m mid
  port_stays port = record {
    host_is = ap (λ (q : PortState). q.host) (is.leads no_ocalls).grown ∙ port.host_is;
    words_are = ap (λ (q : PortState). q.words) (is.leads no_ocalls).grown ∙ port.words_are;
  }

  pub has_parameters : (values : List ℕ) → values ≡ map (value_in is.fields) the_function.params → HasParameters m ordinal (length values) (length blocks)
  has_parameters values values_are = (
    the_function,
    is.found,
    ap (λ (l : List ℕ). length l) values_are ∙ length-map the_function.params (value_in is.fields),
    is.count,
  )

  -- ---- its body

  abbrev outside : Context
  outside = context_of first

  abbrev within : Context
  within = context_in_ecall outside ordinal (room_of now.arena)

  abbrev the_ocalls : Ocalls
  the_ocalls = entry_ocalls m outside

  abbrev the_body : Interaction Finished
  the_body = interpret m the_ocalls within (body_of m ordinal the_function is.fields (copies_held now.arena is.numbers))

  abbrev put_back : Finished → Interaction (Unit {0})
  put_back done = put_answer the_function address is.fields done

  abbrev answer_at : Finished → ℕ → Interaction (Result Answered Status)
  answer_at done turn = and_then (put_back done) (λ stored. ret (Ok (record { turn = turn; records = done.records })))

  abbrev after_body : Finished → Interaction (Result Answered Status)
  after_body done = here (answer_at done)

  abbrev the_entry : Interaction (Result Answered Status)
  the_entry = entered m the_ocalls outside ordinal address

  body_is : (values : List ℕ) → values ≡ map (value_in is.fields) the_function.params → body_on m (context_of now) ordinal values now.arena is.numbers ≡ the_body
  body_is values values_are =
      ap (λ (t : TcsState). body_on m (context_of t) ordinal values now.arena is.numbers) is.lies.grown
      ∙ ap (λ vs. body_on m within ordinal vs now.arena is.numbers) values_are
      ∙ ap (λ (o : Ocalls). interpret m o within (body_of m ordinal the_function is.fields (copies_held now.arena is.numbers)))
      (sym (inner_ocalls m outside ordinal (room_of now.arena) is.shallow))

  -- the entry has come to its body
  reaches_body : (r : RecordList) → Reaches the_entry (moment old r first) (moment mid r now) (and_then the_body after_body)
  reaches_body r =
      subst (λ w. Reaches the_entry (moment old r first) (progress mid (records_left r) w) (and_then the_body after_body)) (sym is.waits)
      (steps_reach the_entry (and_then the_body after_body) old mid (records_left r) first.waits (is.leads the_ocalls))

  -- a limit is reached in its body
  pub entry_cut_inside : (values : List ℕ) (r : RecordList) (new : PortState) (full : RunFull) → values ≡ map (value_in is.fields) the_function.params
      → StopsAt full (body_on m (context_of now) ordinal values now.arena is.numbers) (moment mid r now) new → StopsAt full the_entry (moment old r first) new
  entry_cut_inside values r new full values_are stopped =
      stops_on full the_entry (and_then the_body after_body) (moment old r first) (moment mid r now) new (reaches_body r)
      (stops_first full the_body after_body (moment mid r now) new
      (subst (λ t. StopsAt full t (moment mid r now) new) (body_is values values_are) stopped))

  -- ---- its answer

  module _ (values : List ℕ) (values_are : values ≡ map (value_in is.fields) the_function.params) (between : PortState) (before after : RecordList) (ended : TcsState)
      (later : List (Option Block)) (value : ℕ) (ran : BodyRan m ordinal values is.numbers mid between before after now ended later value) where
    abbrev done : Finished
    done = record { value = value; blocks = ran.bytes; records = ran.made }

    body_runs : Runs the_body (moment mid before now) (moment between after ended) done
    body_runs = subst (λ t. Runs t (moment mid before now) (moment between after ended) done) (body_is values values_are) ran.run

    pub host_stays : between.host ≡ mid.host
    host_stays = ap (λ (q : PortState). q.host) ran.run.grown

    frames_stay : ended.frames ≡ now.frames
    frames_stay = ap (λ (t : TcsState). t.frames) ran.kept

    pub fields_stay : HasFields ended.frames admitted.fields is.fields
    fields_stay = subst (λ (f : Memory). HasFields f admitted.fields is.fields) (sym frames_stay) is.has_fields

    pub allowed_still : IsPortOf m old → AreAllowed between.host the_function is.fields
    allowed_still port = subst (λ h. AreAllowed h the_function is.fields) (sym (host_stays ∙ (port_stays port).host_is)) is.allowed

    pub mapped_still : IsPortOf m old → IsTrue (is_mapped between.host address (return_size the_function))
    mapped_still port = subst (λ h. IsTrue (is_mapped h address (return_size the_function))) (sym (host_stays ∙ (port_stays port).host_is)) is.mapped

    pub copies_still : AreCopiesOf the_function is.fields (marshalled the_function) ran.bytes
    copies_still = still_copies the_function is.fields (marshalled the_function) (blocks_in now.arena is.numbers) ran.bytes ran.lengths is.copies

    pub lies_still : LiesOn first ended ordinal admitted.marks
    lies_still = record {
      grown = ran.kept ∙ ap (λ (t : TcsState). record t { arena = ended.arena; waits = ended.waits }) is.lies.grown
          ∙ ap (λ (f : Memory). record first {
            stack = record { ordinal = ordinal; ocall = None } ∷ first.stack;
            frames = f;
            arena = ended.arena;
            waits = ended.waits;
          }) (sym frames_stay);
      frames = subst (λ (f : Memory). HasGrown first.frames f) (sym frames_stay) is.lies.frames;
      arena = still_grown first.arena now.arena ended.arena is.numbers is.lies.arena is.behind ran.size ran.others;
      frames_mark = is.lies.frames_mark;
      arena_mark = is.lies.arena_mark;
      least = is.lies.least;
    }

    -- a limit is reached as the answer is put back
    pub entry_cut_late : (turn : ℕ) (new : PortState) (full : RunFull) → turn ≡ length between.log
        → IsCutShort (put_answer the_function address is.fields (finished value ran.bytes)) between new full → StopsAt full the_entry (moment old before first) new
    entry_cut_late turn new full turn_is cut =
        stops_on full the_entry (and_then the_body after_body) (moment old before first) (moment mid before now) new (reaches_body before)
        (stops_second full the_body after_body (moment mid before now) (moment between after ended) new done body_runs
        (place_stop full (answer_at done) turn (moment between after ended) new turn_is
        (subst (λ k. StopsAt k (answer_at done turn) (moment between after ended) new) (sym cut.0)
        (steps_full_then (put_back done) (λ stored. ret (Ok (record { turn = turn; records = ran.made }))) between new (records_left after) ended.waits cut.1))))

    -- the entry was made
    pub entry_answers : (turn : ℕ) (new : PortState) (last : TcsState) → turn ≡ length between.log
        → Makes (put_answer the_function address is.fields (finished value ran.bytes)) between new tt → last ≡ record first { waits = ended.waits }
        → EntryRuns m ordinal address old new before after first last (answered turn)
    entry_answers turn new last turn_is put left =
        let end : Result Answered Status = Ok (record { turn = turn; records = ran.made }) in
        let runs : Runs the_entry (moment old before first) (progress new (records_left after) ended.waits) end =
        reaches_on the_entry (and_then the_body after_body) (ret end) (moment old before first) (moment mid before now) (progress new (records_left after) ended.waits) (reaches_body before)
        (reaches_then the_body after_body (ret end) (moment mid before now) (moment between after ended) (progress new (records_left after) ended.waits) done body_runs
        (place_then (answer_at done) turn (ret end) (moment between after ended) (progress new (records_left after) ended.waits) turn_is
        (steps_then (put_back done) (λ stored. ret end) (ret end) between new (records_left after) ended.waits (progress new (records_left after) ended.waits) tt put
        (runs_ret end (progress new (records_left after) ended.waits))))) in (
          ran.made,
          subst (λ (t : TcsState). Runs the_entry (moment old before first) (moment new after t) end) (sym left) runs,
          ran.grown,
          left ∙ ap (λ (w : ℕ). record first { waits = w }) (ap (λ (t : TcsState). t.waits) (sym left)),
        )
