-- What the calls of the host come to: before their entry, in it, and after it.
use Rattle.std.proofs.Common.{ℕ, ◌+◌, ◌<◌, ◌≤◌, ◌≡◌, Bool, true, false, not, if◌then◌else◌, ◌&&◌, nat_lt, List, [], ◌∷◌, length, zip, Option, Some, None, slice_get, refl, ap, sym, ◌∙◌, subst, length-append, arith}
use Rattle.std.proofs.Math.Bool.{and-false}
use Rattle.sgx_base.specs.Ranges.{host_start}
use Rattle.sgx_base.specs.declared.Status.{Status}
use Rattle.sgx_base.specs.declared.TheConstants.Status.{UNEXPECTED}
use Rattle.edl_interface.specs.declared.Function.{Function}
use Rattle.edl_interface.specs.Parameters.{has_frame, return_size}
use Rattle.word_port.specs.declared.Side.TheVariants.{Host}
use Rattle.word_port.specs.declared.RunFull.{RunFull}
use Rattle.word_port.specs.declared.RunFull.TheVariants.{Steps, Records}
use Rattle.word_port.specs.Port.{PortState, with_steps}
use Rattle.word_port.specs.Interaction.{Interaction, ret, here, and_then, map_value}
use Rattle.word_port.specs.Accesses.{loads, stores}
use Rattle.word_port.specs.Limits.{progress}
use Rattle.word_port.specs.Runs.{Leads, Makes, StopsFull, Reaches, Runs, StopsAt}
use Rattle.word_port.proofs.Laws.{leads_first, leads_then, makes_ret, full_first, full_second, runs_ret, reaches_on, reaches_first, reaches_then, stops_on, stops_first, stops_second}
use Rattle.word_port.proofs.EventLaws.{record_then, place_then, steps_reach, steps_stop, no_record}
use Rattle.call_copy.specs.Stops.{IsCutShort}
use Rattle.ocall_frames.specs.declared.Frame.{Frame}
use Rattle.ocall_frames.specs.declared.HostStack.{HostStack}
use Rattle.ocall_frames.specs.Stack.{frame_below}
use Rattle.ocall_frames.proofs.FrameLaws.{frame_region}
use Rattle.switchless.specs.Slots.{offered_word}
use Rattle.switchless.specs.Caller.{caller}
use Rattle.call_script.specs.declared.CallArg.{CallArg}
use Rattle.call_report.specs.declared.Way.TheVariants.{Ordinary}
use Rattle.call_report.specs.declared.CallKind.TheVariants.{Ecall}
use Rattle.call_report.specs.declared.CallRecord.{CallRecord}
use Rattle.call_report.specs.RecordList.{RecordList, records_left, with_records}
use Rattle.bridge_program.specs.Entry.{is_empty, MayEnter}
use Rattle.call_machine.specs.declared.Machine.{Machine}
use Rattle.call_machine.specs.Calls.{host_call, raw_call, call_to, call_where, entry, ecall_pool, unless_taken, with_record, with_return, no_frame, call_frame, string_lengths}
use Rattle.call_machine.specs.Context.{Context, depth_of}
use Rattle.call_machine.specs.Ecall.{ecall_record}
use Rattle.call_machine.specs.FramedCalls.{AnyCall, call_of, entry_of, IsStored, IsFramed}
use Rattle.call_machine.specs.Made.{MakesCalls}
use Rattle.call_machine.specs.Tcs.{TcsState, context_of, moment, HasStackInHost, IsPortOf}
use Rattle.call_machine.specs.Result.{Outcome, is_success}
use Rattle.call_machine.specs.Thread.{ecall, ecalls}

-- the record of a call whose frame does not fit
pub unframed_runs : (cx : Context) (ordinal place before after waits : ℕ) (port : PortState) → before ≡ after + 1 → place ≡ length port.log
    → Runs (no_frame cx ordinal) (progress port before waits) (progress port after waits) (ecall_record cx ordinal 0 Ordinary UNEXPECTED place place place ∷ [])
unframed_runs cx ordinal place before after waits port e p =
    record_then _ _ port before after waits _ e (place_then (λ n. ret (ecall_record cx ordinal 0 Ordinary UNEXPECTED n n n ∷ [])) place _ _ _ p (runs_ret _ _))

-- the record of a call whose frame does not fit, in a list of records
pub unframed : (cx : Context) (ordinal waits depth place : ℕ) (port : PortState) (before after : RecordList)
    → depth ≡ depth_of cx → place ≡ length port.log → length before.list < before.limit
    → after ≡ with_records before (record { kind = Ecall; ordinal = ordinal; depth = depth; frame = 0; way = Ordinary; status = UNEXPECTED; first = place; turn = place; last = place } ∷ [])
    → (made : List CallRecord) × Runs (no_frame cx ordinal) (progress port (records_left before) waits) (progress port (records_left after) waits) made × (after ≡ with_records before made)
unframed cx ordinal waits depth place port before after d p h e =
    let made : List CallRecord = ecall_record cx ordinal 0 Ordinary UNEXPECTED place place place ∷ [] in
    let same : after ≡ with_records before made =
    e ∙ ap (λ n. with_records before (record { kind = Ecall; ordinal = ordinal; depth = n; frame = 0; way = Ordinary; status = UNEXPECTED; first = place; turn = place; last = place } ∷ [])) d in
    let longer : length after.list ≡ length before.list + 1 = ap (λ r. length r.list) same ∙ length-append before.list made in
    let limit : after.limit ≡ before.limit = ap (λ r. r.limit) same in
    let left : records_left before ≡ records_left after + 1 = omega (arith, longer, limit, h) in
    (made, unframed_runs cx ordinal place (records_left before) (records_left after) waits port left p, same)

pub unframed_stops : (cx : Context) (ordinal records waits : ℕ) (port : PortState) → records ≡ 0 → StopsAt Records (no_frame cx ordinal) (progress port records waits) port
unframed_stops cx ordinal records waits port none = no_record _ port records waits none

-- ---- before the entry: the lengths of the strings, and the frame

module _ (host place : ℕ) (any : AnyCall host) (f : Function) (args : List CallArg) (framed : has_frame f ≡ true) (t : TcsState) where
  abbrev finding : Interaction (List ℕ)
  finding = string_lengths host place (zip f.params args)

  abbrev with_frame : List ℕ → Interaction (List CallRecord)
  with_frame lengths = call_where any.machine any.ecalls (context_of t) any.ordinal f (λ frame. call_frame f place args lengths) (frame_below t.base t.top f.frame_size)

  call_is : call_of any (context_of t) place f args ≡ and_then finding with_frame
  call_is =
      ap (λ b. if b then and_then (string_lengths any.machine.script.settings.host place (zip f.params args)) with_frame else map_value (λ out. out.records) (entry any.machine any.ecalls (context_of t) any.ordinal f 0)) framed
      ∙ ap (λ h. and_then (string_lengths h place (zip f.params args)) with_frame) any.host_is

  -- the log is full among the strings
  pub finding_cut : (old new : PortState) → StopsFull finding old new → StopsFull (call_of any (context_of t) place f args) old new
  finding_cut old new stopped = subst (λ u. StopsFull u old new) (sym call_is) (full_first finding with_frame old new stopped)

  module _ (old mid : PortState) (lengths bytes : List ℕ) (made : Makes finding old mid lengths) (bytes_are : bytes ≡ call_frame f place args lengths) where
    -- the log is full as the frame is written
    pub storing_cut : (at : ℕ) (new : PortState) → frame_below t.base t.top f.frame_size ≡ Some at → StopsFull (stores Host at bytes) mid new → StopsFull (call_of any (context_of t) place f args) old new
    storing_cut at new fits stopped =
        subst (λ u. StopsFull u old new) (sym call_is)
        (full_second finding with_frame old mid new lengths made
        (subst (λ o. StopsFull (call_where any.machine any.ecalls (context_of t) any.ordinal f (λ frame. call_frame f place args lengths) o) mid new) (sym fits)
        (full_first (stores Host at (call_frame f place args lengths)) (λ stored. entry_of any (context_of t) f at) mid new
        (subst (λ b. StopsFull (stores Host at b) mid new) bytes_are stopped))))

    -- the frame does not fit
    pub none_leads : frame_below t.base t.top f.frame_size ≡ None → Leads (call_of any (context_of t) place f args) old mid (no_frame (context_of t) any.ordinal)
    none_leads none =
        subst (λ u. Leads u old mid (no_frame (context_of t) any.ordinal)) (sym call_is)
        (subst (λ u. Leads (and_then finding with_frame) old mid u)
        (ap (λ o. call_where any.machine any.ecalls (context_of t) any.ordinal f (λ frame. call_frame f place args lengths) o) none)
        (leads_first finding (ret lengths) with_frame old mid made))

    -- the frame is written
    pub frame_leads : (at : ℕ) (new : PortState) → frame_below t.base t.top f.frame_size ≡ Some at → Makes (stores Host at bytes) mid new tt → Leads (call_of any (context_of t) place f args) old new (entry_of any (context_of t) f at)
    frame_leads at new fits stored =
        subst (λ u. Leads u old new (entry_of any (context_of t) f at)) (sym call_is)
        (leads_then finding with_frame (entry_of any (context_of t) f at) old mid new lengths made
        (subst (λ o. Leads (call_where any.machine any.ecalls (context_of t) any.ordinal f (λ frame. call_frame f place args lengths) o) mid new (entry_of any (context_of t) f at)) (sym fits)
        (leads_first (stores Host at (call_frame f place args lengths)) (ret tt) (λ stored. entry_of any (context_of t) f at) mid new
        (subst (λ b. Makes (stores Host at b) mid new tt) bytes_are stored))))

-- a call whose frame is written, or does not fit
module _ (place : ℕ) (f : Function) (args : List CallArg) (framed : has_frame f ≡ true) (old mid new : PortState) (t now : TcsState)
    (lengths bytes : List ℕ) (made : Makes (string_lengths old.host place (zip f.params args)) old mid lengths) (bytes_are : bytes ≡ call_frame f place args lengths) where
  pub stored_is : (frame : Option Frame) → IsStored bytes f.frame_size mid new t now frame → IsFramed f args place old new t now frame
  stored_is None (none, same, kept) =
      (λ any. subst (λ s. Leads (call_of any (context_of t) place f args) old s (no_frame (context_of t) any.ordinal)) (sym same) (none_leads old.host place any f args framed t old mid lengths bytes made bytes_are none), kept)
  stored_is (Some frame) (fits, top, moved, stored) =
      (λ any. frame_leads old.host place any f args framed t old mid lengths bytes made bytes_are frame.at new fits stored, fits, top, moved)

-- with another host stack, and with another top
abbrev pub with_stack : TcsState → HostStack → TcsState
with_stack t h = record t { base = h.base; top = h.top }

abbrev pub with_top : TcsState → ℕ → TcsState
with_top t n = record t { top = n }

-- ---- the entry

-- a machine without workers for ECALLs posts none
module _ (m : Machine) (no_workers : m.script.settings.tworkers ≡ 0) where
  entry_is : (cx now : Context) (ordinal : ℕ) (f : Function) (frame : ℕ) → entry m (ecalls m cx) now ordinal f frame ≡ with_record (ecalls m cx now ordinal frame Ordinary)
  entry_is cx now ordinal f frame =
      let posts : (is_empty now.stack && (f.switchless && nat_lt 0 m.script.settings.tworkers)) ≡ false =
      ap (λ n. is_empty now.stack && (f.switchless && nat_lt 0 n)) no_workers ∙ ap (λ b. is_empty now.stack && b) (and-false f.switchless) ∙ and-false (is_empty now.stack) in
      ap (λ b. with_record (if b then here (λ first. and_then (caller (ecall_pool m.script.settings) (offered_word ordinal frame)) (unless_taken (ecalls m cx) now ordinal frame first)) else ecalls m cx now ordinal frame Ordinary)) posts

  -- a call without a frame
  frameless_is : (cx : Context) (place : ℕ) (f : Function) (ordinal : ℕ) (args : List CallArg) → slice_get m.interface.ecalls ordinal ≡ Some f → has_frame f ≡ false
      → host_call m (ecalls m cx) cx place ordinal args ≡ map_value (λ out. out.records) (ecall m cx ordinal 0 Ordinary)
  unfolding ecall
  frameless_is cx place f ordinal args at framed =
      let next : List ℕ → Interaction (List CallRecord) = λ lengths. call_where m (ecalls m cx) cx ordinal f (λ frame. call_frame f place args lengths) (frame_below cx.base cx.top f.frame_size) in
      ap (λ o. call_to m (ecalls m cx) cx place ordinal args o) at
      ∙ ap (λ b. if b then and_then (string_lengths m.script.settings.host place (zip f.params args)) next else map_value (λ out. out.records) (entry m (ecalls m cx) cx ordinal f 0)) framed
      ∙ ap (λ t. map_value (λ out. out.records) t) (entry_is cx cx ordinal f 0)

  entered_is : (cx : Context) (f : Function) (ordinal at : ℕ) → entry m (ecalls m cx) (record cx { top = at }) ordinal f at ≡ ecall m (record cx { top = at }) ordinal at Ordinary
  unfolding ecall
  entered_is cx f ordinal at = entry_is cx (record cx { top = at }) ordinal f at

  -- a call without a frame is its entry
  module _ (f : Function) (place ordinal : ℕ) (args : List CallArg) (at : slice_get m.interface.ecalls ordinal ≡ Some f) (framed : has_frame f ≡ false)
      (old : PortState) (before : RecordList) (t : TcsState) where
    abbrev frameless_call : Interaction (List CallRecord)
    frameless_call = host_call m (ecalls m (context_of t)) (context_of t) place ordinal args

    frameless : frameless_call ≡ map_value (λ out. out.records) (ecall m (context_of t) ordinal 0 Ordinary)
    frameless = frameless_is (context_of t) place f ordinal args at framed

    pub frameless_cut : (full : RunFull) (new : PortState) → StopsAt full (ecall m (context_of t) ordinal 0 Ordinary) (moment old before t) new
        → StopsAt full (host_call m (ecalls m (context_of t)) (context_of t) place ordinal args) (moment old before t) new
    frameless_cut full new stopped =
        subst (λ u. StopsAt full u (moment old before t) new) (sym frameless) (stops_first full (ecall m (context_of t) ordinal 0 Ordinary) (λ out. ret out.records) (moment old before t) new stopped)

    pub frameless_made : (status : Status) (new : PortState) (after : RecordList) (last : TcsState)
        → (out : Outcome) × (out.status ≡ status) × Runs (ecall m (context_of t) ordinal 0 Ordinary) (moment old before t) (moment new after last) out × (after ≡ with_records before out.records) × (last ≡ record t { waits = last.waits })
        → MakesCalls (host_call m (ecalls m (context_of t)) (context_of t) place ordinal args) old new before after t last
    frameless_made status new after last (out, ended, run, grown, kept) = (
      out.records,
      subst (λ u. Runs u (moment old before t) (moment new after last) out.records) (sym frameless)
          (reaches_first (ecall m (context_of t) ordinal 0 Ordinary) (ret out) (λ o. ret o.records) (moment old before t) (moment new after last) run),
      grown,
      kept,
    )

  -- a call with a frame
  module _ (f : Function) (place ordinal : ℕ) (args : List CallArg) (found : slice_get m.interface.ecalls ordinal ≡ Some f)
      (old : PortState) (host_is : old.host ≡ m.script.settings.host) (before : RecordList) (t : TcsState) where
    -- the call, as one whatever ECALLs do
    abbrev pub this_call : AnyCall old.host
    this_call = record { machine = m; host_is = sym host_is; ecalls = ecalls m (context_of t); ordinal = ordinal }

    abbrev calling : Interaction (List CallRecord)
    calling = host_call m (ecalls m (context_of t)) (context_of t) place ordinal args

    calling_is : calling ≡ call_of this_call (context_of t) place f args
    calling_is = ap (λ o. call_to m (ecalls m (context_of t)) (context_of t) place ordinal args o) found

    -- it is cut before its entry
    pub framing_cut : (new : PortState) → StopsFull (call_of this_call (context_of t) place f args) old new
        → StopsAt Steps (host_call m (ecalls m (context_of t)) (context_of t) place ordinal args) (moment old before t) new
    framing_cut new stopped =
        subst (λ u. StopsAt Steps u (moment old before t) new) (sym calling_is) (steps_stop (call_of this_call (context_of t) place f args) old new (records_left before) t.waits stopped)

    came_to : (mid : PortState) (now : TcsState) (rest : Interaction (List CallRecord)) → now.waits ≡ t.waits → Leads (call_of this_call (context_of t) place f args) old mid rest
        → Reaches calling (moment old before t) (moment mid before now) rest
    came_to mid now rest waits leads =
        subst (λ u. Reaches u (moment old before t) (moment mid before now) rest) (sym calling_is)
        (subst (λ w. Reaches (call_of this_call (context_of t) place f args) (moment old before t) (progress mid (records_left before) w) rest) (sym waits)
        (steps_reach (call_of this_call (context_of t) place f args) rest old mid (records_left before) t.waits leads))

    -- its frame does not fit
    module _ (new : PortState) (now : TcsState) (framed : IsFramed f args place old new t now None) where
      leads_to_none : Reaches calling (moment old before t) (moment new before now) (no_frame (context_of now) ordinal)
      leads_to_none =
          subst (λ (u : TcsState). Reaches calling (moment old before t) (moment new before now) (no_frame (context_of u) ordinal)) (sym framed.1)
          (came_to new now (no_frame (context_of t) ordinal) (ap (λ (u : TcsState). u.waits) framed.1) (framed.0 this_call))

      pub unframed_cut : (full : RunFull) → StopsAt full (no_frame (context_of now) ordinal) (moment new before now) new
          → StopsAt full (host_call m (ecalls m (context_of t)) (context_of t) place ordinal args) (moment old before t) new
      unframed_cut full stopped = stops_on full calling (no_frame (context_of now) ordinal) (moment old before t) (moment new before now) new leads_to_none stopped

      pub unframed_made : (after : RecordList)
          → (made : List CallRecord) × Runs (no_frame (context_of now) ordinal) (moment new before now) (moment new after now) made × (after ≡ with_records before made)
          → MakesCalls (host_call m (ecalls m (context_of t)) (context_of t) place ordinal args) old new before after t now
      unframed_made after (made, run, grown) = (
        made,
        reaches_on calling (no_frame (context_of now) ordinal) (ret made) (moment old before t) (moment new before now) (moment new after now) leads_to_none run,
        grown,
        ap {A = TcsState} (λ (u : TcsState). record u { waits = now.waits }) framed.1,
      )

    -- its frame is written
    module _ (mid : PortState) (moved : TcsState) (frame : Frame) (framed : IsFramed f args place old mid t moved (Some frame)) where
      abbrev entering : Interaction Outcome
      entering = ecall m (context_of moved) ordinal frame.at Ordinary

      moved_is : moved ≡ record t { top = frame.at }
      moved_is = framed.3

      entering_is : entry_of this_call (context_of t) f frame.at ≡ and_then entering (with_return f frame.at)
      entering_is =
          ap (λ u. and_then u (with_return f frame.at)) (entered_is (context_of t) f ordinal frame.at)
          ∙ ap (λ (u : TcsState). and_then (ecall m (context_of u) ordinal frame.at Ordinary) (with_return f frame.at)) (sym moved_is)

      leads_to_entry : Reaches calling (moment old before t) (moment mid before moved) (and_then entering (with_return f frame.at))
      leads_to_entry =
          subst (λ u. Reaches calling (moment old before t) (moment mid before moved) u) entering_is
          (came_to mid moved (entry_of this_call (context_of t) f frame.at) (ap (λ (u : TcsState). u.waits) moved_is) (framed.0 this_call))

      -- the entry is cut
      pub entering_cut : (full : RunFull) (new : PortState) → StopsAt full (ecall m (context_of moved) ordinal frame.at Ordinary) (moment mid before moved) new
          → StopsAt full (host_call m (ecalls m (context_of t)) (context_of t) place ordinal args) (moment old before t) new
      entering_cut full new stopped =
          stops_on full calling (and_then entering (with_return f frame.at)) (moment old before t) (moment mid before moved) new leads_to_entry
          (stops_first full entering (with_return f frame.at) (moment mid before moved) new stopped)

      module _ (end : PortState) (after : RecordList) (late : TcsState) (out : Outcome) (run : Runs (ecall m (context_of moved) ordinal frame.at Ordinary) (moment mid before moved) (moment end after late) out) where
        -- the log is full as the return is loaded
        pub returning_cut : (new : PortState) → StopsFull (with_return f frame.at out) end new
            → StopsAt Steps (host_call m (ecalls m (context_of t)) (context_of t) place ordinal args) (moment old before t) new
        returning_cut new stopped =
            stops_on Steps calling (and_then entering (with_return f frame.at)) (moment old before t) (moment mid before moved) new leads_to_entry
            (stops_second Steps entering (with_return f frame.at) (moment mid before moved) (moment end after late) new out run
            (steps_stop (with_return f frame.at out) end new (records_left after) late.waits stopped))

        -- the call is made, and its frame is given back
        pub framed_made : (new : PortState) (last : TcsState) → after ≡ with_records before out.records → late ≡ record moved { waits = late.waits } → last ≡ record late { top = frame.old_top }
            → Makes (with_return f frame.at out) end new out.records
            → MakesCalls (host_call m (ecalls m (context_of t)) (context_of t) place ordinal args) old new before after t last
        framed_made new last grown kept back made =
            let waits : late.waits ≡ last.waits = sym (ap (λ (u : TcsState). u.waits) back) in
            let top : frame.old_top ≡ t.top = framed.2 in (
              out.records,
              reaches_on calling (and_then entering (with_return f frame.at)) (ret out.records) (moment old before t) (moment mid before moved) (moment new after last) leads_to_entry
                  (reaches_then entering (with_return f frame.at) (ret out.records) (moment mid before moved) (moment end after late) (moment new after last) out run
                  (subst (λ w. Runs (with_return f frame.at out) (moment end after late) (progress new (records_left after) w) out.records) waits
                  (steps_reach (with_return f frame.at out) (ret out.records) end new (records_left after) late.waits made))),
              grown,
              back ∙ ap {B = TcsState} (λ (n : ℕ). record late { top = n }) top ∙ ap {A = TcsState} (λ (u : TcsState). record u { top = t.top }) kept
                  ∙ ap {A = TcsState} (λ (u : TcsState). record u { waits = late.waits; top = t.top }) moved_is ∙ ap {B = TcsState} (λ (w : ℕ). record t { waits = w }) waits,
            )

-- what holds where the frame of a call is written
module _ (m : Machine) (f : Function) (args : List CallArg) (place : ℕ) (old mid : PortState) (t moved : TcsState) (frame : Frame) (framed : IsFramed f args place old mid t moved (Some frame)) where
  pub framed_may : MayEnter m.interface t.stack → MayEnter m.interface moved.stack
  framed_may may = subst (λ (u : TcsState). MayEnter m.interface u.stack) (sym framed.3) may

  pub framed_entries : length moved.stack ≡ length t.stack
  framed_entries = ap (λ (u : TcsState). length u.stack) framed.3

  pub frame_from : HasStackInHost m t → host_start ≤ frame.at
  frame_from within =
      let lies : (t.base ≤ frame.at) × (frame.at + f.frame_size ≤ t.top) = frame_region t.base t.top f.frame_size frame.at framed.1 in
      let from : host_start ≤ t.base = within.0 in
      omega (arith, from, lies.0)

  frame_upto : HasStackInHost m t → frame.at + f.frame_size ≤ host_start + m.script.settings.host
  frame_upto within =
      let lies : (t.base ≤ frame.at) × (frame.at + f.frame_size ≤ t.top) = frame_region t.base t.top f.frame_size frame.at framed.1 in
      let upto : t.top ≤ host_start + m.script.settings.host = within.1 in
      omega (arith, upto, lies.1)

  pub framed_in_host : HasStackInHost m t → HasStackInHost m moved
  framed_in_host within =
      let upto : frame.at + f.frame_size ≤ host_start + m.script.settings.host = frame_upto within in
      let top : frame.at ≤ host_start + m.script.settings.host = omega (arith, upto) in
      subst (λ (u : TcsState). HasStackInHost m u) (sym framed.3) (within.0, top)

  pub framed_port : IsPortOf m old → IsPortOf m mid
  framed_port is =
      let any : AnyCall old.host = record { machine = m; host_is = sym is.host_is; ecalls = ecalls m (context_of t); ordinal = 0 } in
      let grown : mid ≡ with_steps old (framed.0 any).steps = (framed.0 any).grown in
      record {
        host_is = ap (λ (s : PortState). s.host) grown ∙ is.host_is;
        words_are = ap (λ (s : PortState). s.words) grown ∙ is.words_are;
      }

  pub frame_ends : HasStackInHost m t → IsPortOf m old → (entered : Interaction Outcome) (before after : RecordList) (late : TcsState) (end : PortState) (out : Outcome)
      → Runs entered (moment mid before moved) (moment end after late) out → frame.at + f.frame_size ≤ host_start + end.host
  frame_ends within is entered before after late end out run =
      let same : end.host ≡ m.script.settings.host = ap (λ (s : PortState). s.host) run.grown ∙ (framed_port is).host_is in
      let upto : frame.at + f.frame_size ≤ host_start + m.script.settings.host = frame_upto within in
      omega (arith, same, upto)

-- ---- after the entry

return_is : (f : Function) (at : ℕ) (out : Outcome) → is_success out.status ≡ true → with_return f at out ≡ map_value (λ loaded. out.records) (loads Host at (return_size f))
return_is f at out e = rw e refl

no_return_is : (f : Function) (at : ℕ) (out : Outcome) → is_success out.status ≡ false → with_return f at out ≡ ret out.records
no_return_is f at out e = rw e refl

pub success_of : (status given : Status) → given ≡ status → false ≡ not (is_success status) → is_success given ≡ true
success_of status given same e = ap (λ s. is_success s) same ∙ by_bool (is_success status) e
  where
    by_bool : (b : Bool) → false ≡ not b → b ≡ true
    by_bool true e = refl
    by_bool false e = cc

pub return_loaded : (f : Function) (at size : ℕ) (out : Outcome) (old new : PortState) → is_success out.status ≡ true → size ≡ return_size f
    → (loaded : List ℕ) × Makes (loads Host at size) old new loaded → Makes (with_return f at out) old new out.records
return_loaded f at size out old new e size_is (loaded, made) =
    subst (λ u. Makes u old new out.records) (sym (return_is f at out e))
    (leads_first (loads Host at (return_size f)) (ret loaded) (λ bytes. ret out.records) old new (subst (λ n. Makes (loads Host at n) old new loaded) size_is made))

pub return_cut : (f : Function) (at size : ℕ) (out : Outcome) (old new : PortState) → is_success out.status ≡ true → size ≡ return_size f
    → (full : RunFull) → IsCutShort (loads Host at size) old new full → IsCutShort (with_return f at out) old new full
return_cut f at size out old new e size_is full (steps, stopped) = (
  steps,
  subst (λ u. StopsFull u old new) (sym (return_is f at out e))
      (full_first (loads Host at (return_size f)) (λ bytes. ret out.records) old new (subst (λ n. StopsFull (loads Host at n) old new) size_is stopped)),
)

pub nothing_loaded : (f : Function) (at : ℕ) (out : Outcome) (now : PortState) → is_success out.status ≡ false → Makes (with_return f at out) now now out.records
nothing_loaded f at out now e = subst (λ u. Makes u now now out.records) (sym (no_return_is f at out e)) (makes_ret out.records now)

-- ---- an entry at an address of the script's own

module _ (m : Machine) (ordinal at : ℕ) (old : PortState) (before : RecordList) (t : TcsState) where
  entered_raw : raw_call (ecalls m (context_of t)) (context_of t) ordinal at ≡ map_value (λ out. out.records) (ecall m (context_of t) ordinal at Ordinary)
  unfolding ecall
  entered_raw = refl

  pub raw_cut : (full : RunFull) (new : PortState) → StopsAt full (ecall m (context_of t) ordinal at Ordinary) (moment old before t) new
      → StopsAt full (raw_call (ecalls m (context_of t)) (context_of t) ordinal at) (moment old before t) new
  raw_cut full new stopped =
      subst (λ u. StopsAt full u (moment old before t) new) (sym entered_raw) (stops_first full (ecall m (context_of t) ordinal at Ordinary) (λ out. ret out.records) (moment old before t) new stopped)

  pub raw_made : (status : Status) (new : PortState) (after : RecordList) (last : TcsState)
      → (out : Outcome) × (out.status ≡ status) × Runs (ecall m (context_of t) ordinal at Ordinary) (moment old before t) (moment new after last) out × (after ≡ with_records before out.records) × (last ≡ record t { waits = last.waits })
      → MakesCalls (raw_call (ecalls m (context_of t)) (context_of t) ordinal at) old new before after t last
  raw_made status new after last (out, ended, run, grown, kept) = (
    out.records,
    subst (λ u. Runs u (moment old before t) (moment new after last) out.records) (sym entered_raw)
        (reaches_first (ecall m (context_of t) ordinal at Ordinary) (ret out) (λ o. ret o.records) (moment old before t) (moment new after last) run),
    grown,
    kept,
  )
