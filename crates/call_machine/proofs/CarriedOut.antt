-- The body of an ECALL as it is carried out, from one OCALL to the next.
use Rattle.std.proofs.Common.{ℕ, zero, ◌+◌, ◌-◌, ◌≡◌, ◌≤◌, ◌<◌, ◌^◌, false, List, [], ◌∷◌, ◌++◌, length, map, drop, replicate, count_by, unwrap_or, option_map, slice_get, slice_set, Option, Some, None, refl, ap, sym, ◌∙◌, subst, arith, append_assoc, append-nil, length-append}
use Rattle.std.proofs.lemmas.List.{length-replicate}
use Rattle.std.proofs.lemmas.List.Sums.{length-filter, count_by-le-length}
use Rattle.arrayvec.specs.ArrayVec.{ArrayVec}
use Rattle.sgx_base.specs.declared.Status.{Status}
use Rattle.edl_interface.specs.declared.Function.{Function}
use Rattle.edl_interface.specs.declared.Param.{Param}
use Rattle.edl_interface.specs.Parameters.{is_marshalled, marshalled}
use Rattle.word_port.specs.declared.RunFull.{RunFull}
use Rattle.word_port.specs.declared.RunFull.TheVariants.{Steps}
use Rattle.word_port.specs.Interaction.{Interaction, ret}
use Rattle.word_port.specs.Port.{PortState}
use Rattle.word_port.specs.Runs.{Makes, Reaches, Runs, StopsFull, StopsAt}
use Rattle.word_port.proofs.Laws.{reaches_nothing, reaches_on, stops_on}
use Rattle.enclave_memory.specs.declared.Arg.{Arg}
use Rattle.enclave_memory.specs.declared.Block.{Block}
use Rattle.enclave_memory.specs.Memory.{Memory, room_of}
use Rattle.enclave_memory.specs.Arguments.{Argument, argument_of, Passed, places_in, ArePassed, arguments_in}
use Rattle.ocall_frames.specs.Arguments.{AreOfKinds, MayCall}
use Rattle.ocall_frames.specs.Frames.{blocks_after, IsArenaAfter}
use Rattle.ocall_frames.specs.Replies.{KeepsBlocks}
use Rattle.body_vm.specs.declared.Action.{Action}
use Rattle.body_vm.specs.declared.Body.{Body}
use Rattle.body_vm.specs.declared.Regs.{Regs}
use Rattle.body_vm.specs.Range.{AreInRange}
use Rattle.body_vm.specs.State.{State}
use Rattle.body_vm.specs.Execution.{Execution, OcallRequest, OcallAnswer, returned, on_ocall, with_answer, first_state, execution, execution_from}
use Rattle.body_vm.specs.Places.{blocks_in, IsHeld, IsKept, IsAbsent, AreAsLong}
use Rattle.body_vm.specs.Moments.{state_of, state_at, execution_at, handed, IsNeed, IsOnward}
use Rattle.body_vm.specs.Moments.{moment as moment_of}
use Rattle.body_vm.proofs.PlaceLaws.{kept_same}
use Rattle.body_vm.proofs.RunLaws.{kept_then}
use Rattle.body_run.specs.Cells.{over_cells, HaveCells}
use Rattle.body_run.specs.Running.{Pauses, need_of}
use Rattle.body_run.specs.declared.Pause.{Pause}
use Rattle.body_run.specs.declared.Pause.TheVariants as pause_of
use Rattle.call_report.specs.declared.CallRecord.{CallRecord}
use Rattle.call_report.specs.RecordList.{RecordList, with_records}
use Rattle.call_script.specs.Sound.{IsSoundBody, temporary_count}
use Rattle.call_machine.specs.declared.Machine.{Machine}
use Rattle.call_machine.specs.Bodies.{KeepLengths, copies_held, body_on, BodyRan}
use Rattle.call_machine.specs.Context.{Context}
use Rattle.call_machine.specs.Ecall.{Finished, OcallOutcome, Ocalls, answer_of, ocall_params, is_temp, actions_of, body_over, interpret}
use Rattle.call_machine.specs.Plain.{IsPlainFunction, IsPlainMachine}
use Rattle.call_machine.specs.Tcs.{TcsState, context_of, moment, IsPortOf}
use Rattle.call_machine.specs.Thread.{body_ocalls, ocall}
use Rattle.call_machine.proofs.BlockLengths.{keep_more, still_long}
use Rattle.call_machine.proofs.BodyRange.{EndsWith, IsAsked, are_of_kinds, in_range, cells_in, ends_with, temps_are, HasBody, body_at, found_body}
use Rattle.call_machine.proofs.BodyRuns.{ends_made, rest_first, rest_of, cells_reach, cells_stop, its_ocall, ocall_reach, ocall_stop}
use Rattle.call_machine.proofs.HeldBlocks.{have_numbered, numbered_count, held_nulls, blocks_nulls, absent_nulls}
use Rattle.call_machine.proofs.OcallArena.{numbered, arguments_are, all_passed, held_after, kept_after, room_after, bytes_after}
use Rattle.call_machine.proofs.PlainMachines.{ecall_of, ocall_of}

-- ---- a sound body

module _ (m : Machine) (ordinal : ℕ) (f : Function) (plain : IsPlainMachine m) (found : slice_get m.interface.ecalls ordinal ≡ Some f) where
  -- there is a body
  pub its_body : HasBody m.interface m.script.settings.cells f m.script.bodies ordinal
  its_body = body_at m.interface m.script.settings.cells m.interface.ecalls m.script.bodies ordinal f plain.script.bodies found

  module _ (body : Body) (there : slice_get m.script.bodies ordinal ≡ Some body) where
    its_sound : IsSoundBody m.interface m.script.settings.cells f body
    its_sound = found_body m.interface m.script.settings.cells f m.script.bodies ordinal body its_body there

    abbrev temps : ℕ
    temps = count_by is_temp body.actions

    pub few_blocks : length (marshalled f) + temps ≤ 80
    few_blocks =
        let few : length f.params ≤ 64 = (ecall_of m plain ordinal f found).few in
        let some : length (marshalled f) ≡ count_by (λ (p : Param). is_marshalled p.class) f.params = length-filter (λ (p : Param). is_marshalled p.class) f.params in
        let least : count_by (λ (p : Param). is_marshalled p.class) f.params ≤ length f.params = count_by-le-length (λ (p : Param). is_marshalled p.class) f.params in
        let temporary : temporary_count body ≡ temps = temps_are body.actions in
        let upto : temporary_count body ≤ 16 = its_sound.few_temporaries in
        omega (arith, few, some, least, temporary, upto)

    pub few_actions : length body.actions < 2 ^ 32
    few_actions = let upto : length body.actions ≤ 256 = its_sound.few in omega (arith, upto)

    pub actions_in_range : (values blocks : ℕ) → values ≡ length f.params → blocks ≡ length (marshalled f) + temps → AreInRange values blocks body.actions
    actions_in_range values blocks v b =
        let temporary : temporary_count body ≡ temps = temps_are body.actions in
        rw (v, b, ← temporary) (in_range m.interface m.script.settings.cells f (temporary_count body) (λ n g at. (ocall_of m plain n g at).few) body.actions its_sound.actions)

    pub cells_there : (words : ℕ) → words ≡ length m.script.words → HaveCells (words - m.script.settings.host) body.actions
    cells_there words are =
        let count = plain.script.words.count in
        let enough : m.script.settings.cells ≤ words - m.script.settings.host = omega (arith, are, count) in
        cells_in m.interface m.script.settings.cells f (temporary_count body) (words - m.script.settings.host) enough body.actions its_sound.actions

    actions_are : actions_of m ordinal ≡ body.actions
    actions_are = ap (λ (b : Option Body). unwrap_or (option_map (λ (x : Body). x.actions) b) []) there

    module _ (values : List ℕ) (numbers : List (Option ℕ)) (before : Memory) (blocks : List (Option Block)) (held : IsHeld before blocks numbers) (count : length blocks ≡ length (marshalled f)) where
      abbrev whole : Execution
      whole = execution body.actions values (blocks_in before numbers ++ replicate temps None) (room_of before)

      body_is : body_over m ordinal values (copies_held before numbers) ≡ whole
      body_is = ap (λ (a : List Action). execution a values (blocks_in before numbers ++ replicate (count_by is_temp a) None) (room_of before)) actions_are

      whole_ends : EndsWith m.interface (blocks_in before numbers) whole
      unfolding execution
      whole_ends =
          ends_with m.interface m.script.settings.cells f (temporary_count body) (blocks_in before numbers)
          (sym (numbered_count before blocks numbers held.numbered) ∙ count)
          (first_state values (blocks_in before numbers ++ replicate temps None) (room_of before)) zero body.actions its_sound.actions
          (keep_more (blocks_in before numbers) (replicate temps None))

      begun_is : (regs : Regs) (nows : List (Option Block)) → regs.next ≡ 0 → regs.regs ≡ replicate 8 0
          → execution_at body.actions values regs nows before (numbers ++ replicate temps None) ≡ whole
      unfolding execution
      begun_is regs nows n r =
          let all : blocks_in before (numbers ++ replicate temps None) ≡ blocks_in before numbers ++ replicate temps None = blocks_nulls before blocks numbers temps in
          rw (n, r, all) refl

-- ---- from one OCALL to the next

ocall_is : (m : Machine) (cx : Context) (room ordinal : ℕ) (arguments : List Argument) → ocall m (record cx { room = room }) ordinal arguments ≡ body_ocalls m cx (record cx { room = room }) ordinal arguments
unfolding ocall
ocall_is m cx room ordinal arguments = refl

records_more : (before between after : RecordList) (made more : List CallRecord) → between ≡ with_records before made → after ≡ with_records between more → after ≡ with_records before (made ++ more)
records_more before between after made more p q =
    q ∙ ap (λ r. with_records r more) p ∙ ap (λ (l : List CallRecord). record before { list = l }) (append_assoc before.list made more)

-- null blocks for the temporary ones
pub begun_count : (f : Function) (blocks nows : List (Option Block)) (temporaries : ℕ) → nows ≡ blocks ++ replicate temporaries None → length blocks ≡ length (marshalled f) → length nows ≡ length (marshalled f) + temporaries
begun_count f blocks nows temporaries are count =
    let nulls : length {A = Option Block} (replicate temporaries None) ≡ temporaries = length-replicate {A = Option Block} temporaries None in
    let all : length nows ≡ length blocks + length {A = Option Block} (replicate temporaries None) = ap (λ (l : List (Option Block)). length l) are ∙ length-append blocks (replicate temporaries None) in
    omega (arith, all, nulls, count)

-- the registers after an OCALL
pub two_answers : (regs one two : Regs) (into also value found : ℕ) (out : OcallOutcome) (ended : Status) → out.status ≡ ended → out.value ≡ value → found ≡ ended.0
    → one ≡ record regs { regs = slice_set regs.regs into value } → two ≡ record one { regs = slice_set one.regs also found }
    → two ≡ record regs { regs = slice_set (slice_set regs.regs into out.value) also out.status.0 }
two_answers regs one two into also value found out ended s v f p q =
    q ∙ ap (λ (r : Regs). record r { regs = slice_set r.regs also found }) p
    ∙ ap (λ n. record regs { regs = slice_set (slice_set regs.regs into value) also n }) (f ∙ ap (λ (x : Status). x.0) (sym s))
    ∙ ap (λ n. record regs { regs = slice_set (slice_set regs.regs into n) also out.status.0 }) (sym v)

module _ (m : Machine) (ordinal : ℕ) (values : List ℕ) (numbers : List (Option ℕ)) (body : Body) (first : TcsState) (old : PortState) (before : RecordList) where
  abbrev its_ocalls : Ocalls
  its_ocalls = body_ocalls m (context_of first)

  abbrev its_rest : List CallRecord → Execution → Interaction Finished
  its_rest made e = rest_of m its_ocalls (context_of first) made e

  abbrev the_body : Interaction Finished
  the_body = body_on m (context_of first) ordinal values first.arena numbers

  abbrev with_nulls : List (Option ℕ)
  with_nulls = numbers ++ replicate (count_by is_temp body.actions) None

  -- a body has come to an execution, and has these blocks
  pub record ComesTo (e : List (Option ℕ) → Execution → Type 0) (blocks : List (Option Block)) (new : PortState) (after : RecordList) (now : TcsState) : Type 0 where
    pub later : List (Option ℕ)
    pub left : Execution
    pub is : e later left
    pub made : List CallRecord
    pub held : IsHeld now.arena blocks later
    pub kept : IsKept first.arena now.arena with_nulls later
    pub grown : after ≡ with_records before made
    pub reaches : Reaches the_body (moment old before first) (moment new after now) (its_rest made left)
    pub ends : EndsWith m.interface (blocks_in first.arena numbers) left

  -- it goes on from here
  abbrev pub GoesOn : Regs → List (Option Block) → PortState → RecordList → TcsState → Type 0
  GoesOn regs blocks new after now = ComesTo (λ later e. e ≡ execution_at body.actions values regs blocks now.arena later) blocks new after now

  -- it pauses
  abbrev pub PausesAt : Pause → Regs → List (Option Block) → PortState → RecordList → TcsState → Type 0
  PausesAt pause regs blocks new after now =
      ComesTo (λ later e. IsNeed (need_of pause) e (state_at values (moment_of regs blocks now.arena) later) blocks (drop regs.next body.actions)) blocks new after now

  module _ (f : Function) (plain : IsPlainMachine m) (found : slice_get m.interface.ecalls ordinal ≡ Some f) (there : slice_get m.script.bodies ordinal ≡ Some body)
      (blocks : List (Option Block)) (held : IsHeld first.arena blocks numbers) (count : length blocks ≡ length (marshalled f)) where
    pub begins : (regs : Regs) → regs.next ≡ 0 → regs.regs ≡ replicate 8 0 → (nows : List (Option Block)) → nows ≡ blocks ++ replicate (count_by is_temp body.actions) None
        → GoesOn regs nows old before first
    begins regs n r nows are =
        let is : body_over m ordinal values (copies_held first.arena numbers) ≡ execution_at body.actions values regs nows first.arena with_nulls =
        body_is m ordinal f plain found body there values numbers first.arena blocks held count
        ∙ sym (begun_is m ordinal f plain found body there values numbers first.arena blocks held count regs nows n r) in
        record {
          later = with_nulls;
          left = body_over m ordinal values (copies_held first.arena numbers);
          is = is;
          made = [];
          held = subst (λ l. IsHeld first.arena l with_nulls) (sym are) (held_nulls first.arena blocks numbers (count_by is_temp body.actions) held);
          kept = kept_same first.arena with_nulls;
          grown = ap (λ (l : List CallRecord). record before { list = l }) (sym (append-nil before.list));
          reaches = subst (λ t. Reaches the_body (moment old before first) (moment old before first) t)
              (sym (rest_first (interpret m its_ocalls (context_of first) (body_over m ordinal values (copies_held first.arena numbers))))) (reaches_nothing the_body (moment old before first));
          ends = subst (λ e. EndsWith m.interface (blocks_in first.arena numbers) e) (sym (body_is m ordinal f plain found body there values numbers first.arena blocks held count))
              (whole_ends m ordinal f plain found body there values numbers first.arena blocks held count);
        }

  -- up to the next OCALL or the end
  pub pauses : (regs now_regs : Regs) (blocks nows : List (Option Block)) (new last : PortState) (after : RecordList) (now then : TcsState) (pause : Pause) → then ≡ record now { arena = then.arena }
      → (c : GoesOn regs blocks new after now)
      → (later : List (Option ℕ)) → IsOnward (moment_of regs blocks now.arena) (moment_of now_regs nows then.arena) c.later later
      → Pauses m.script.settings.host (execution_at body.actions values regs blocks now.arena c.later) new last pause (state_at values (moment_of now_regs nows then.arena) later) nows (drop now_regs.next body.actions)
      → PausesAt pause now_regs nows last after then
  pauses regs now_regs blocks nows new last after now then pause same c later onward p =
      let made : Makes (over_cells m.script.settings.host c.left) new last p.left = subst (λ e. Makes (over_cells m.script.settings.host e) new last p.left) (sym c.is) p.made in
      let waits : then.waits ≡ now.waits = ap (λ (t : TcsState). t.waits) same in
      record {
        later = later;
        left = p.left;
        is = p.need;
        made = c.made;
        held = onward.held;
        kept = kept_then first.arena now.arena then.arena with_nulls c.later later c.kept onward.kept;
        grown = c.grown;
        reaches = reaches_on the_body (its_rest c.made c.left) (its_rest c.made p.left) (moment old before first) (moment new after now) (moment last after then) c.reaches
            (subst (λ n. Reaches (its_rest c.made c.left) (moment new after now) (moment last after (record then { waits = n })) (its_rest c.made p.left)) (sym waits)
            (cells_reach m its_ocalls (context_of first) c.made c.left p.left new last _ now.waits made));
        ends = ends_made m.interface (blocks_in first.arena numbers) m.script.settings.host c.left p.left new last c.ends made;
      }

  -- the log is full
  pub stops : (regs : Regs) (blocks : List (Option Block)) (new last : PortState) (after : RecordList) (now : TcsState) → (c : GoesOn regs blocks new after now)
      → StopsFull (over_cells m.script.settings.host (execution_at body.actions values regs blocks now.arena c.later)) new last
      → StopsAt Steps the_body (moment old before first) last
  stops regs blocks new last after now c stopped =
      stops_on Steps the_body (its_rest c.made c.left) (moment old before first) (moment new after now) last c.reaches
      (cells_stop m its_ocalls (context_of first) c.made c.left new last _ now.waits (subst (λ e. StopsFull (over_cells m.script.settings.host e) new last) (sym c.is) stopped))

  -- the same, as it is carried out over the fields of a thread control structure
  module _ (regs : Regs) (blocks : List (Option Block)) (new last : PortState) (after : RecordList) (now seen : TcsState) (view : seen ≡ now) (goes : GoesOn regs blocks new after now) where
    goes_seen : GoesOn regs blocks new after seen
    goes_seen = subst (λ t. GoesOn regs blocks new after t) (sym view) goes

    abbrev RunsOn : Pause → Regs → List (Option Block) → Memory → Type 0
    RunsOn pause now_regs nows arena = (ns : List (Option ℕ)) → IsHeld seen.arena blocks ns → (later : List (Option ℕ))
        × IsOnward (moment_of regs blocks seen.arena) (moment_of now_regs nows arena) ns later
        × Pauses m.script.settings.host (execution_at body.actions values regs blocks seen.arena ns) new last pause (state_at values (moment_of now_regs nows arena) later) nows (drop now_regs.next body.actions)

    pub pauses_in : (pause : Pause) (now_regs : Regs) (nows : List (Option Block)) (arena : Memory) → RunsOn pause now_regs nows arena
        → PausesAt pause now_regs nows last after (record seen { arena = arena })
    pauses_in pause now_regs nows arena ran =
        let (later, onward, paused) = ran goes_seen.later goes_seen.held in
        pauses regs now_regs blocks nows new last after seen (record seen { arena = arena }) pause refl goes_seen later onward paused

    pub stops_in : ((ns : List (Option ℕ)) → IsHeld seen.arena blocks ns → StopsFull (over_cells m.script.settings.host (execution_at body.actions values regs blocks seen.arena ns)) new last)
        → StopsAt Steps the_body (moment old before first) last
    stops_in stopped = stops regs blocks new last after seen goes_seen (stopped goes_seen.later goes_seen.held)

  -- only the arena and waiting looks have changed
  pub kept_seen : (now seen : TcsState) (arena : Memory) → seen ≡ now → now ≡ record first { arena = now.arena; waits = now.waits }
      → record seen { arena = arena } ≡ record first { arena = arena; waits = seen.waits }
  kept_seen now seen arena view kept =
      ap (λ (t : TcsState). record t { arena = arena }) (view ∙ kept) ∙ ap (λ n. record first { arena = arena; waits = n }) (ap (λ (t : TcsState). t.waits) (sym view))

  -- the port is one for the machine still
  pub port_kept : (regs : Regs) (blocks : List (Option Block)) (new : PortState) (after : RecordList) (now : TcsState) → GoesOn regs blocks new after now → IsPortOf m old → IsPortOf m new
  port_kept regs blocks new after now goes is = record {
    host_is = ap (λ (p : PortState). p.host) goes.reaches.grown ∙ is.host_is;
    words_are = ap (λ (p : PortState). p.words) goes.reaches.grown ∙ is.words_are;
  }

  -- the end
  pub has_ended : (value : ℕ) (regs : Regs) (blocks : List (Option Block)) (firsts : List (Option Block)) (new : PortState) (after : RecordList) (now : TcsState)
      → now ≡ record first { arena = now.arena; waits = now.waits } → PausesAt (pause_of.Done value) regs blocks new after now
      → BodyRan m ordinal values numbers old new before after first now blocks value
  has_ended value regs blocks firsts new after now same c =
      let ended : EndsWith m.interface (blocks_in first.arena numbers) (returned value (blocks_in now.arena c.later)) =
      subst (λ e. EndsWith m.interface (blocks_in first.arena numbers) e) c.is c.ends in
      let reaches : Reaches the_body (moment old before first) (moment new after now) (its_rest c.made (returned value (blocks_in now.arena c.later))) =
      subst (λ e. Reaches the_body (moment old before first) (moment new after now) (its_rest c.made e)) c.is c.reaches in
      record {
        bytes = blocks_in now.arena c.later;
        made = c.made;
        run = subst (λ l. Runs the_body (moment old before first) (moment new after now) (record { value = value; blocks = blocks_in now.arena c.later; records = l })) (append-nil c.made) reaches;
        grown = c.grown;
        have = have_numbered now.arena blocks c.later c.held.numbered;
        lengths = ended;
        kept = same;
        size = c.kept.size;
        others = λ n these e absent. c.kept.others n these e (absent_nulls first.arena firsts numbers (count_by is_temp body.actions) n absent);
      }

  -- an OCALL
  module _ (number ret status : ℕ) (args : ArrayVec Arg) (regs : Regs) (blocks : List (Option Block)) (new : PortState) (after : RecordList) (now : TcsState)
      (c : PausesAt (pause_of.Ocall number args ret status) regs blocks new after now) where
    abbrev its_passed : List Passed
    its_passed = c.is.2.0

    -- its arguments, with the numbers of the blocks
    abbrev pub its_numbers : List Passed
    its_numbers = map (numbered c.later) its_passed

    abbrev its_request : OcallRequest
    its_request = record { ordinal = number; arguments = its_passed; blocks = blocks_in now.arena c.later; room = room_of now.arena }

    abbrev its_next : OcallAnswer → Execution
    its_next answer = execution_from (with_answer (state_at values (moment_of regs blocks now.arena) c.later) ret status answer) zero (drop regs.next body.actions)

    left_ends : EndsWith m.interface (blocks_in first.arena numbers) (on_ocall its_request its_next)
    left_ends = subst (λ e. EndsWith m.interface (blocks_in first.arena numbers) e) c.is.2.2 c.ends

    pub are_passed : ArePassed now.arena args.items its_numbers
    are_passed = subst (λ l. ArePassed now.arena l its_numbers) (sym c.is.2.1) (all_passed now.arena blocks c.later its_passed c.held.numbered)

    pub may_call : IsPlainMachine m → (g : Function) × (slice_get m.interface.ocalls number ≡ Some g) × MayCall g args.items now.arena
    may_call plain =
        let asked : IsAsked m.interface its_request = left_ends.0 in
        let its : IsPlainFunction false asked.function = ocall_of m plain number asked.function asked.found in (
          asked.function,
          asked.found,
          record {
            runs = its.runnable;
            small = its.frame;
            kinds = subst (λ l. AreOfKinds asked.function.params l) (sym c.is.2.1) (are_of_kinds asked.function.params its_passed blocks asked.kinds);
            live = (its_numbers, are_passed);
          },
        )

    module _ (same : now ≡ record first { arena = now.arena; waits = now.waits }) where
      its_call : ocall m (context_of now) number (arguments_in now.arena its_numbers)
          ≡ its_ocalls (record (context_of first) { room = room_of now.arena }) number (map (argument_of (blocks_in now.arena c.later)) its_passed)
      its_call =
          ap (λ (t : TcsState). ocall m (context_of t) number (arguments_in now.arena its_numbers)) same
          ∙ ocall_is m (context_of first) (room_of now.arena) number (arguments_in now.arena its_numbers)
          ∙ ap (λ l. its_ocalls (record (context_of first) { room = room_of now.arena }) number l) (arguments_are now.arena c.later its_passed)

      -- it is cut short
      pub call_stops : (full : RunFull) (last : PortState) → StopsAt full (ocall m (context_of now) number (arguments_in now.arena its_numbers)) (moment new after now) last
          → StopsAt full the_body (moment old before first) last
      call_stops full last stopped =
          stops_on full the_body (its_rest c.made c.left) (moment old before first) (moment new after now) last c.reaches
          (subst (λ e. StopsAt full (its_rest c.made e) (moment new after now) last) (sym c.is.2.2)
          (ocall_stop m its_ocalls (context_of first) c.made its_request its_next (moment new after now) full last
          (subst (λ t. StopsAt full t (moment new after now) last) its_call stopped)))

      -- the body goes on after it
      pub call_ends : (out : OcallOutcome) (last : PortState) (end : RecordList) (then : TcsState)
          → Runs (ocall m (context_of now) number (arguments_in now.arena its_numbers)) (moment new after now) (moment last end then) out → end ≡ with_records after out.records
          → IsArenaAfter (ocall_params m.interface number) its_numbers out.loaded now.arena then.arena → KeepsBlocks now.arena then.arena
          → (now_regs : Regs) → now_regs ≡ record regs { regs = slice_set (slice_set regs.regs ret out.value) status out.status.0 } → GoesOn now_regs blocks last end then
      call_ends out last end then runs grown back keeps now_regs set =
          let answer : OcallAnswer = answer_of m.interface its_request out in
          let kept : IsKept now.arena then.arena c.later c.later = kept_after now.arena then.arena blocks c.later (ocall_params m.interface number) its_passed out.loaded c.held back keeps in
          let bytes : blocks_in then.arena c.later ≡ answer.blocks = bytes_after now.arena then.arena blocks c.later (ocall_params m.interface number) its_passed out.loaded c.held back keeps in
          let room : room_of then.arena ≡ room_of now.arena = room_after now.arena then.arena blocks c.later (ocall_params m.interface number) its_passed out.loaded c.held back keeps in
          record {
            later = c.later;
            left = its_next answer;
            is = rw (set, bytes, room) refl;
            made = c.made ++ out.records;
            held = held_after now.arena then.arena blocks c.later (ocall_params m.interface number) its_passed out.loaded c.held back keeps;
            kept = kept_then first.arena now.arena then.arena with_nulls c.later c.later c.kept kept;
            grown = records_more before after end c.made out.records c.grown grown;
            reaches = reaches_on the_body (its_rest c.made c.left) (its_rest (c.made ++ out.records) (its_next answer)) (moment old before first) (moment new after now) (moment last end then) c.reaches
                (subst (λ e. Reaches (its_rest c.made e) (moment new after now) (moment last end then) (its_rest (c.made ++ out.records) (its_next answer))) (sym c.is.2.2)
                (ocall_reach m its_ocalls (context_of first) c.made its_request its_next (moment new after now) (moment last end then) out
                (subst (λ t. Runs t (moment new after now) (moment last end then) out) its_call runs)));
            ends = left_ends.1 answer (subst (λ l. KeepLengths (blocks_in now.arena c.later) l) bytes (still_long now.arena then.arena blocks c.later kept.lengths c.held.numbered));
          }
