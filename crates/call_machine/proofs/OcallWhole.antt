-- A whole OCALL, from its parts: it begins, the host runs, and it ends.
use Rattle.std.proofs.Common.{ℕ, ◌+◌, ◌≡◌, ◌<◌, ◌≤◌, true, List, [], ◌∷◌, ◌++◌, length, slice_set, Option, Some, None, unwrap_or, option_map, Ok, Err, slice_get, IsTrue, refl, ap, sym, ◌∙◌, subst, arith, rules}
use Rattle.sgx_base.specs.Ranges.{host_start, is_mapped}
use Rattle.sgx_base.specs.declared.Status.{Status}
use Rattle.edl_interface.specs.declared.Param.{Param}
use Rattle.edl_interface.specs.declared.Function.{Function}
use Rattle.edl_interface.specs.Parameters.{has_frame, marshalled}
use Rattle.word_port.specs.declared.RunFull.{RunFull}
use Rattle.word_port.specs.Port.{PortState}
use Rattle.word_port.specs.Interaction.{Interaction, ret}
use Rattle.word_port.specs.Limits.{Progress, progress}
use Rattle.word_port.specs.Runs.{Reaches, Runs, StopsAt}
use Rattle.word_port.proofs.Laws.{reaches_on, stops_on}
use Rattle.enclave_memory.specs.declared.Arg.{Arg}
use Rattle.enclave_memory.specs.Memory.{Memory}
use Rattle.enclave_memory.specs.Arguments.{Argument, Passed, ArePassed, arguments_in}
use Rattle.bridge_program.specs.Entry.{Entered, MayEnter}
use Rattle.bridge_program.specs.Standing.{IsInEnclave, HasOcall, with_ocall}
use Rattle.ocall_frames.specs.declared.Frame.{Frame}
use Rattle.ocall_frames.specs.Arguments.{MayCall, checked_size}
use Rattle.ocall_frames.specs.Frames.{IsArenaAfter, ocall_size}
use Rattle.ocall_frames.specs.Replies.{KeepsBlocks}
use Rattle.call_report.specs.declared.CallRecord.{CallRecord}
use Rattle.call_report.specs.declared.Way.TheVariants.{Ordinary}
use Rattle.call_report.specs.RecordList.{RecordList, records_left, with_records}
use Rattle.call_machine.specs.declared.Machine.{Machine}
use Rattle.call_machine.specs.declared.ocalls.Asked.{Asked}
use Rattle.call_machine.specs.Context.{Context}
use Rattle.call_machine.specs.Ecall.{OcallOutcome, ocall_params}
use Rattle.call_machine.specs.Made.{MakesOutcome}
use Rattle.call_machine.specs.Result.{Outcome}
use Rattle.call_machine.specs.Ocall.{OcallDone, host_side, handler_context, answer_loads, ocall_outcome, ocall_record}
use Rattle.call_machine.specs.OcallPhases.{frame_address, top_under, top_after, handled, asked_ocall, begun_record, ended_record, IsFrameFor, IsAsked, IsUnasked, IsAnswered}
use Rattle.call_machine.specs.Tcs.{TcsState, context_of, moment, HasStackInHost}
use Rattle.call_machine.specs.Thread.{ecalls, handlers_by, ocall}
use Rattle.call_machine.proofs.OcallAnswers.{arena_stays, keeps_same}
use Rattle.call_machine.proofs.OcallRuns.{handler_stops, answer_stops, rest_runs}
use Rattle.call_machine.proofs.OcallStanding.{same_entries, left_again, in_progress, may_enter, handler_stands, same_ecalls, top_again}
use Rattle.call_machine.proofs.OcallStart.{size_allowed, may_call_at}
use Rattle.call_machine.proofs.RecordPlace.{record_there, record_set, set_left}

-- what an OCALL has given that was made
abbrev pub IsMade : Machine → ℕ → List Passed → PortState → PortState → RecordList → RecordList → TcsState → TcsState → Status → ℕ → Type 0
IsMade m ordinal passed old new before after first last status value =
    (out : OcallOutcome) × (out.status ≡ status) × (out.value ≡ value)
    × Runs (ocall m (context_of first) ordinal (arguments_in first.arena passed)) (moment old before first) (moment new after last) out
    × (after ≡ with_records before out.records)
    × IsArenaAfter (ocall_params m.interface ordinal) passed out.loaded first.arena last.arena
    × (last ≡ record first { arena = last.arena; waits = last.waits })

-- a refusal is one
pub unasked_made : (m : Machine) (ordinal : ℕ) (passed : List Passed) (old new : PortState) (before after : RecordList) (first last : TcsState) (status : Status)
    → IsUnasked m ordinal (arguments_in first.arena passed) old new before after first last status → IsMade m ordinal passed old new before after first last status 0
unasked_made m ordinal passed old new before after first last status u = (
  ocall_outcome (context_of first) ordinal (length old.log) (length new.log) (Err status),
  refl,
  refl,
  u.runs,
  u.grown,
  subst (λ (t : TcsState). IsArenaAfter (ocall_params m.interface ordinal) passed [] first.arena t.arena) (sym u.kept) (arena_stays (ocall_params m.interface ordinal) passed first.arena),
  u.kept ∙ ap (λ (t : TcsState). record first { arena = t.arena; waits = t.waits }) (sym u.kept),
)

pub unasked_keeps : (m : Machine) (ordinal : ℕ) (arguments : List Argument) (old new : PortState) (before after : RecordList) (first last : TcsState) (status : Status)
    → IsUnasked m ordinal arguments old new before after first last status → KeepsBlocks first.arena last.arena
unasked_keeps m ordinal arguments old new before after first last status u = keeps_same first.arena last.arena (ap (λ (t : TcsState). t.arena) u.kept)

holds_frame : (f : Function) (arguments : List Argument) (size : ℕ) → checked_size f arguments ≡ Ok size → f.frame_size ≤ size
holds_frame f arguments size e =
    let s = size_allowed _ (ocall_size f arguments) size e in
    let size_is : ocall_size f arguments ≡ size = s.1 in
    omega (arith, size_is)

mapped_part : (host at n size : ℕ) → n ≤ size → IsTrue (is_mapped host at size) → IsTrue (is_mapped host at n)
mapped_part host at n size less h = search rules

structure_mapped : (f : Function) (args : List Arg) (arena : Memory) (host : ℕ) (frame : Option Frame) (passed : List Passed) → ArePassed arena args passed → IsFrameFor f args arena host frame
    → has_frame f ≡ true → IsTrue (is_mapped host (frame_address frame) f.frame_size)
structure_mapped f args arena host None passed are is has = absurd (let both = sym has ∙ is in cc)
structure_mapped f args arena host (Some frame) passed are is has =
    mapped_part host frame.at f.frame_size frame.size (holds_frame f (arguments_in arena passed) frame.size (is.1 passed are)) is.2

module _ (m : Machine) (none : m.script.settings.uworkers ≡ 0) (ordinal : ℕ) (args : List Arg) (old mid : PortState) (before between : RecordList) (first second : TcsState) (asked : Asked)
    (begins : IsAsked m ordinal args old mid before between first second asked) (inside : IsInEnclave first.stack) where
  abbrev cx : Context
  cx = context_of first

  abbrev f : Function
  f = asked.function.now

  abbrev frame : ℕ
  frame = frame_address asked.frame

  -- what the handler does where it runs
  abbrev hosted : Interaction Outcome
  hosted = handlers_by m (ecalls m (context_of second)) (context_of second) asked.ordinal f frame

  hosted_is : hosted ≡ handlers_by m (ecalls m cx) (handler_context cx ordinal f frame) ordinal f frame
  hosted_is =
      let stands : context_of second ≡ record cx { stack = with_ocall (Some ordinal) cx.stack; top = top_under asked.frame cx.top } = ap (λ (t : TcsState). context_of t) begins.stands in
      let there : context_of second ≡ handler_context cx ordinal f frame = stands ∙ handler_stands cx ordinal f args first.arena mid.host asked.frame begins.frame in
      let calls : ecalls m (context_of second) ≡ ecalls m cx = ap (λ c. ecalls m c) stands ∙ same_ecalls m cx (with_ocall (Some ordinal) cx.stack) (top_under asked.frame cx.top) (same_entries (Some ordinal) cx.stack) in
      ap (λ e. handlers_by m e (context_of second) asked.ordinal f frame) calls
      ∙ ap (λ c. handlers_by m (ecalls m cx) c asked.ordinal f frame) there
      ∙ ap (λ n. handlers_by m (ecalls m cx) (handler_context cx ordinal f frame) n f frame) begins.ordinal_is

  -- what the host may rest on
  pub host_may_enter : MayEnter m.interface second.stack
  host_may_enter = subst (λ (t : TcsState). MayEnter m.interface t.stack) (sym begins.stands) (may_enter m.interface ordinal f first.stack begins.found inside)

  pub host_entries : length second.stack ≡ length first.stack
  host_entries = ap (λ (t : TcsState). length t.stack) begins.stands ∙ same_entries (Some ordinal) first.stack

  pub host_stack_in : HasStackInHost m first → HasStackInHost m second
  host_stack_in is = subst (λ t. HasStackInHost m t) (sym begins.stands) (is.0, let top = is.1 in let under = begins.within in omega (arith, top, under))

  address_under : (o : Option Frame) → top_under o first.top ≤ first.top → first.top ≤ host_start + m.script.settings.host → frame_address o ≤ host_start + m.script.settings.host
  address_under None under top = omega arith
  address_under (Some taken) under top = omega (arith, under, top)

  pub host_upto : HasStackInHost m first → frame ≤ host_start + m.script.settings.host
  host_upto is = address_under asked.frame begins.within is.1

  pub host_found : slice_get m.interface.ocalls asked.ordinal ≡ Some f
  host_found = ap (λ n. slice_get m.interface.ocalls n) begins.ordinal_is ∙ begins.found

  pub host_mapped : (passed : List Passed) → ArePassed first.arena args passed → has_frame f ≡ true → IsTrue (is_mapped m.script.settings.host frame f.frame_size)
  host_mapped passed are has =
      subst (λ n. IsTrue (is_mapped n frame f.frame_size)) begins.port.host_is (structure_mapped f args first.arena mid.host asked.frame passed are begins.frame has)

  module _ (passed : List Passed) (are : ArePassed first.arena args passed) where
    abbrev arguments : List Argument
    arguments = arguments_in first.arena passed

    -- a limit is reached by the host
    pub host_cut : (full : RunFull) (new : PortState) → StopsAt full hosted (moment mid between second) new → StopsAt full (ocall m cx ordinal arguments) (moment old before first) new
    host_cut full new stopped =
        stops_on full (ocall m cx ordinal arguments) (asked_ocall m cx ordinal arguments f frame (length old.log)) (moment old before first) (moment mid between second) new (begins.reaches passed are)
        (handler_stops m cx ordinal arguments f frame (length old.log) none full (moment mid between second) new (subst (λ t. StopsAt full t (moment mid between second) new) hosted_is stopped))

    module _ (now : PortState) (grown : RecordList) (third : TcsState) (status : Status) (ran : MakesOutcome hosted mid now between grown second third status) where
      abbrev out : Outcome
      out = ran.0

      runs : Runs (handlers_by m (ecalls m cx) (handler_context cx ordinal f frame) ordinal f frame) (moment mid between second) (moment now grown third) out
      runs = subst (λ t. Runs t (moment mid between second) (moment now grown third) out) hosted_is ran.2

      stays : third ≡ record first { stack = with_ocall (Some ordinal) first.stack; top = top_under asked.frame first.top; waits = third.waits }
      stays = ran.4 ∙ ap (λ (t : TcsState). record t { waits = third.waits }) begins.stands

      pub arena_is : third.arena ≡ first.arena
      arena_is = ap (λ (t : TcsState). t.arena) stays

      pub end_keeps : (last : Memory) → KeepsBlocks third.arena last → KeepsBlocks first.arena last
      end_keeps last keeps = subst (λ a. KeepsBlocks a last) arena_is keeps

      pub end_frame : IsFrameFor f args third.arena now.host asked.frame
      end_frame =
          let host : now.host ≡ mid.host = ap (λ (q : PortState). q.host) ran.2.grown in
          rw (arena_is, host) begins.frame

      pub end_call : (g : Function) × (slice_get m.interface.ocalls ordinal ≡ Some g) × MayCall g args first.arena → MayCall f args third.arena
      end_call (g, found, may) =
          subst (λ a. MayCall f args a) (sym arena_is) (may_call_at m.interface.ocalls ordinal g f args first.arena found begins.found may)

      pub end_place : asked.place < length grown.list
      end_place = record_there before between grown asked.begun out.records asked.place begins.grown begins.place_is ran.3

      pub end_inside : HasOcall third.stack
      end_inside = subst (λ (t : TcsState). HasOcall t.stack) (sym stays) (in_progress ordinal first.stack inside)

      pub end_cut : (full : RunFull) (new : PortState) → StopsAt full (answer_loads f (arguments_in third.arena passed) frame (handled status out.records)) (moment now grown third) new
          → StopsAt full (ocall m cx ordinal arguments) (moment old before first) new
      end_cut full new stopped =
          let loads : StopsAt full (answer_loads f arguments frame (host_side Ordinary out)) (moment now grown third) new =
          subst (λ a. StopsAt full (answer_loads f (arguments_in a passed) frame (host_side Ordinary out)) (moment now grown third) new) arena_is
          (subst (λ s. StopsAt full (answer_loads f (arguments_in third.arena passed) frame (handled s out.records)) (moment now grown third) new) (sym ran.1) stopped) in
          stops_on full (ocall m cx ordinal arguments) (asked_ocall m cx ordinal arguments f frame (length old.log)) (moment old before first) (moment mid between second) new (begins.reaches passed are)
          (answer_stops m cx ordinal arguments f frame (length old.log) none full (moment mid between second) (moment now grown third) new out runs loads)

      module _ (new : PortState) (after : RecordList) (last : TcsState) (value : ℕ) (ends : IsAnswered asked passed status now new grown after third last value) where
        abbrev done : OcallDone
        done = record { frame = frame; host = host_side Ordinary out; turn = ends.answer.turn; reply = ends.loaded.reply }

        loaded : Runs (answer_loads f arguments frame (host_side Ordinary out)) (moment now grown third) (progress new (records_left grown) third.waits) done
        loaded =
            subst (λ a. Runs (answer_loads f (arguments_in a passed) frame (host_side Ordinary out)) (moment now grown third) (progress new (records_left grown) third.waits) done) arena_is
            (subst (λ s. Runs (answer_loads f (arguments_in third.arena passed) frame (handled s out.records)) (moment now grown third) (progress new (records_left grown) third.waits)
            (record { frame = frame; host = handled s out.records; turn = ends.answer.turn; reply = ends.loaded.reply })) (sym ran.1)
            (ends.loaded.runs out.records (records_left grown) third.waits))

        abbrev whole : OcallOutcome
        whole = ocall_outcome cx ordinal (length old.log) (length new.log) (Ok done)

        waits_are : third.waits ≡ last.waits
        waits_are = sym (ap (λ (t : TcsState). t.waits) ends.stands)

        end_is : progress new (records_left grown) third.waits ≡ moment new after last
        end_is =
            let left : records_left grown ≡ records_left after = sym (set_left before between grown asked.begun out.records asked.place begins.grown begins.place_is ran.3 after _ ends.set) in
            ap (λ n. progress new n third.waits) left ∙ ap (λ n. progress new (records_left after) n) waits_are

        runs_whole : Runs (ocall m cx ordinal arguments) (moment old before first) (moment new after last) whole
        runs_whole =
            subst (λ end. Runs (ocall m cx ordinal arguments) (moment old before first) end whole) end_is
            (reaches_on (ocall m cx ordinal arguments) (asked_ocall m cx ordinal arguments f frame (length old.log)) (ret whole) (moment old before first) (moment mid between second) (progress new (records_left grown) third.waits)
            (begins.reaches passed are)
            (rest_runs m cx ordinal arguments f frame (length old.log) none (moment mid between second) (moment now grown third) new (records_left grown) third.waits out done runs loaded))

        listed : after ≡ with_records before whole.records
        listed =
            record_set before between grown asked.begun out.records asked.place begins.grown begins.place_is ran.3 after (ended_record asked.begun frame status ends.answer.turn (length new.log)) ends.set
            ∙ ap (λ (b : CallRecord). with_records before (ended_record b frame status ends.answer.turn (length new.log) ∷ out.records)) begins.begun_is
            ∙ ap (λ s. with_records before (ended_record (begun_record cx ordinal (length old.log)) frame s ends.answer.turn (length new.log) ∷ out.records)) (sym ran.1)

        params_are : marshalled f ≡ ocall_params m.interface ordinal
        params_are = sym (ap (λ o. unwrap_or (option_map marshalled o) []) begins.found)

        back : IsArenaAfter (ocall_params m.interface ordinal) passed whole.loaded first.arena last.arena
        back =
            subst (λ ps. IsArenaAfter ps passed ends.loaded.reply.loaded first.arena last.arena) params_are
            (subst (λ a. IsArenaAfter (marshalled f) passed ends.loaded.reply.loaded a last.arena) arena_is ends.loaded.arena_is)

        left : last ≡ record first { arena = last.arena; waits = last.waits }
        left =
            ends.stands
            ∙ ap (λ (t : TcsState). record t { stack = with_ocall None t.stack; top = top_after asked.frame t.top; arena = last.arena }) stays
            ∙ ap (λ (s : List Entered). record first { stack = s; top = top_after asked.frame (top_under asked.frame first.top); arena = last.arena; waits = third.waits }) (left_again ordinal first.stack inside)
            ∙ ap (λ (n : ℕ). record first { top = n; arena = last.arena; waits = third.waits }) (top_again asked.frame first.top begins.goes_back)
            ∙ ap (λ (n : ℕ). record first { arena = last.arena; waits = n }) waits_are

        pub ocall_made : IsMade m ordinal passed old new before after first last status value
        ocall_made = (whole, ran.1, sym ends.loaded.value_is ∙ sym ends.value_is, runs_whole, listed, back, left)
