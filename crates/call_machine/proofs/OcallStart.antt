-- An OCALL up to where the host runs: it is refused, or its frame is taken and written.
use Rattle.std.proofs.Common.{ℕ, ◌+◌, ◌≡◌, ◌<◌, ◌≤◌, ◌⊎◌, inl, inr, Bool, true, false, ◌&&◌, if◌then◌else◌, List, [], ◌∷◌, ◌++◌, length, slice_set, Option, Some, None, is_none, unwrap_or, Result, Ok, Err, slice_get, IsTrue, refl, ap, sym, ◌∙◌, subst, arith, rules}
use Rattle.sgx_base.specs.Ranges.{host_start, is_mapped}
use Rattle.sgx_base.specs.Rows.{Row, first_row}
use Rattle.sgx_base.specs.declared.Status.{Status}
use Rattle.sgx_base.specs.declared.TheConstants.Status.{SUCCESS, UNEXPECTED}
use Rattle.edl_interface.specs.declared.Function.{Function}
use Rattle.edl_interface.specs.Parameters.{has_frame}
use Rattle.word_port.specs.declared.RunFull.TheVariants.{Steps}
use Rattle.word_port.specs.declared.Side.TheVariants.{Enclave}
use Rattle.word_port.specs.Port.{PortState}
use Rattle.word_port.specs.Interaction.{Interaction, ret}
use Rattle.word_port.specs.Accesses.{stores}
use Rattle.word_port.specs.Runs.{Leads, Makes, Runs, StopsFull, StopsAt}
use Rattle.enclave_memory.specs.declared.Arg.{Arg}
use Rattle.enclave_memory.specs.Memory.{Memory}
use Rattle.enclave_memory.specs.Arguments.{Argument, Passed, ArePassed, arguments_in}
use Rattle.bridge_program.specs.Entry.{Entered}
use Rattle.bridge_program.specs.Standing.{with_ocall}
use Rattle.ocall_frames.specs.declared.HostStack.{HostStack}
use Rattle.ocall_frames.specs.declared.Frame.{Frame}
use Rattle.ocall_frames.specs.Stack.{frame_below}
use Rattle.ocall_frames.specs.Arguments.{MayCall, size_unless, checked_size}
use Rattle.ocall_frames.specs.Frames.{argument_rows, ocall_size, frame_bytes}
use Rattle.ocall_frames.proofs.FrameLaws.{frame_region}
use Rattle.call_report.specs.declared.CallKind.TheVariants.{Ocall}
use Rattle.call_report.specs.declared.Way.TheVariants.{Ordinary}
use Rattle.call_report.specs.declared.CallRecord.{CallRecord}
use Rattle.call_report.specs.RecordList.{RecordList, records_left, with_records}
use Rattle.call_machine.specs.declared.Machine.{Machine}
use Rattle.call_machine.specs.declared.ocalls.Asked.{Asked}
use Rattle.call_machine.specs.Context.{Context, depth_of}
use Rattle.call_machine.specs.Ocall.{ocall_rows, ocall_frame, ocall_record, ocall_outcome}
use Rattle.call_machine.specs.OcallPhases.{frame_address, top_under, top_after, IsTaken, IsUntaken, IsFrameFor, begun_record, IsAsked, IsUnasked}
use Rattle.call_machine.specs.Tcs.{TcsState, context_of, moment, HasStackInHost, IsPortOf}
use Rattle.call_machine.specs.Thread.{ocall}
use Rattle.call_machine.proofs.OcallRuns.{refused_runs, asked_reaches, put_stops}
use Rattle.call_machine.proofs.RecordPlace.{last_record_set, one_record_less}

-- rows of which one holds, before more
some_before : (holds : Bool) (s status : Status) (rest more : Option Status) → (rest ≡ Some status → more ≡ Some status)
    → (if holds then Some s else rest) ≡ Some status → (if holds then Some s else more) ≡ Some status
some_before true s status rest more next e = e
some_before false s status rest more next e = next e

first_some : (rows more : List Row) (status : Status) → first_row rows ≡ Some status → first_row (rows ++ more) ≡ Some status
first_some [] more status e = absurd cc
first_some (r ∷ rows) more status e = some_before r.holds r.status status (first_row rows) (first_row (rows ++ more)) (first_some rows more status) e

-- rows of which none holds
none_before : (holds : Bool) (s : Status) (rest more last : Option Status) → (rest ≡ None → more ≡ last)
    → (if holds then Some s else rest) ≡ None → (if holds then Some s else more) ≡ last
none_before true s rest more last next e = absurd cc
none_before false s rest more last next e = next e

first_none : (rows more : List Row) → first_row rows ≡ None → first_row (rows ++ more) ≡ first_row more
first_none [] more e = refl
first_none (r ∷ rows) more e = none_before r.holds r.status (first_row rows) (first_row (rows ++ more)) (first_row more) (first_none rows more) e

size_refused : (o : Option Status) (n : ℕ) (status : Status) → size_unless o n ≡ Err status → o ≡ Some status
size_refused None n status e = absurd cc
size_refused (Some s) n status e = let same : s ≡ status = cc in ap (λ x. Some x) same

pub size_allowed : (o : Option Status) (n size : ℕ) → size_unless o n ≡ Ok size → (o ≡ None) × (n ≡ size)
size_allowed None n size e = let same : n ≡ size = cc in (refl, same)
size_allowed (Some s) n size e = absurd cc

module _ (f : Function) (arguments : List Argument) (cx : Context) where
  -- the row of a frame that does not fit
  abbrev frame_row : List Row
  frame_row = record { holds = has_frame f && is_none (frame_below cx.base cx.top (ocall_size f arguments)); status = UNEXPECTED } ∷ []

  pub untaken_row : (stack : HostStack) (status : Status) → cx.base ≡ stack.base → cx.top ≡ stack.top → IsUntaken f arguments stack status
      → first_row (ocall_rows cx f arguments) ≡ Some status
  untaken_row stack status base top (inl e) =
      first_some (argument_rows f arguments) frame_row status (size_refused (first_row (argument_rows f arguments)) (ocall_size f arguments) status e)
  untaken_row stack status base top (inr u) =
      let size : (first_row (argument_rows f arguments) ≡ None) × (ocall_size f arguments ≡ u.2.0) =
      size_allowed (first_row (argument_rows f arguments)) (ocall_size f arguments) u.2.0 u.2.1 in
      let none : frame_below cx.base cx.top (ocall_size f arguments) ≡ None = rw (base, top, size.1) u.2.2 in
      let last : first_row frame_row ≡ Some UNEXPECTED = rw (u.0, none) refl in
      first_none (argument_rows f arguments) frame_row size.0 ∙ last ∙ ap (λ s. Some s) (sym u.1)

  pub taken_row : (before after : HostStack) (frame : Option Frame) → cx.base ≡ before.base → cx.top ≡ before.top → IsTaken f arguments before after frame
      → (first_row (ocall_rows cx f arguments) ≡ None) × (frame_address frame ≡ ocall_frame cx f arguments)
  taken_row before after None base top taken =
      let size : (first_row (argument_rows f arguments) ≡ None) × (ocall_size f arguments ≡ taken.1.0) =
      size_allowed (first_row (argument_rows f arguments)) (ocall_size f arguments) taken.1.0 taken.1.1 in
      let last : first_row frame_row ≡ None = rw taken.0 refl in
      let at : ocall_frame cx f arguments ≡ 0 = rw taken.0 refl in
      (first_none (argument_rows f arguments) frame_row size.0 ∙ last, sym at)
  taken_row before after (Some frame) base top taken =
      let size : (first_row (argument_rows f arguments) ≡ None) × (ocall_size f arguments ≡ frame.size) =
      size_allowed (first_row (argument_rows f arguments)) (ocall_size f arguments) frame.size taken.1 in
      let fits : frame_below cx.base cx.top (ocall_size f arguments) ≡ Some frame.at = rw (base, top, size.1) taken.2 in
      let last : first_row frame_row ≡ None = rw (taken.0, fits) refl in
      let at : ocall_frame cx f arguments ≡ frame.at = rw (taken.0, fits) refl in
      (first_none (argument_rows f arguments) frame_row size.0 ∙ last, sym at)

mapped_between : (host base top at n : ℕ) → host_start ≤ base → top ≤ host_start + host → base ≤ at → at + n ≤ top → IsTrue (is_mapped host at n)
mapped_between host base top at n low high from to = search rules

-- a frame that was taken is one for the arguments
pub taken_frame : (f : Function) (args : List Arg) (arena : Memory) (host : ℕ) (before after : HostStack) (frame : Option Frame) (passed : List Passed)
    → ArePassed arena args passed → host_start ≤ before.base → before.top ≤ host_start + host
    → ((these : List Passed) → ArePassed arena args these → IsTaken f (arguments_in arena these) before after frame) → IsFrameFor f args arena host frame
taken_frame f args arena host before after None passed are low high taken = (taken passed are).0
taken_frame f args arena host before after (Some frame) passed are low high taken =
    let t = taken passed are in
    let region : (before.base ≤ frame.at) × (frame.at + frame.size ≤ before.top) = frame_region before.base before.top frame.size frame.at t.2 in
    (t.0, λ these each. (taken these each).1, mapped_between host before.base before.top frame.at frame.size low high region.0 region.1)

-- how it leaves the host stack
pub record IsUnder (before after : HostStack) (frame : Option Frame) : Type 0 where
  pub base_is : after.base ≡ before.base
  pub top_is : after.top ≡ top_under frame before.top
  pub back : top_after frame before.top ≡ before.top
  pub within : top_under frame before.top ≤ before.top

pub taken_under : (f : Function) (arguments : List Argument) (before after : HostStack) (frame : Option Frame) → IsTaken f arguments before after frame → IsUnder before after frame
taken_under f arguments before after None taken = record {
  base_is = ap (λ (h : HostStack). h.base) taken.2;
  top_is = ap (λ (h : HostStack). h.top) taken.2;
  back = refl;
  within = omega arith;
}
taken_under f arguments before after (Some frame) taken =
    let region : (before.base ≤ frame.at) × (frame.at + frame.size ≤ before.top) = frame_region before.base before.top frame.size frame.at taken.2 in
    record {
      base_is = ap (λ (h : HostStack). h.base) taken.4;
      top_is = ap (λ (h : HostStack). h.top) taken.4;
      back = taken.3;
      within = omega (arith, region.1);
    }

-- steps leave all of the port but its log
pub port_stays : {A : Type 0} (m : Machine) (t rest : Interaction A) (old new : PortState) → Leads t old new rest → IsPortOf m old → IsPortOf m new
port_stays m t rest old new p is = record {
  host_is = ap (λ (q : PortState). q.host) p.grown ∙ is.host_is;
  words_are = ap (λ (q : PortState). q.words) p.grown ∙ is.words_are;
}

pub begun_is : (cx : Context) (ordinal depth first n : ℕ) → depth ≡ depth_of cx → first ≡ n
    → record { kind = Ocall; ordinal = ordinal; depth = depth; frame = 0; way = Ordinary; status = SUCCESS; first = first; turn = first; last = first } ≡ begun_record cx ordinal n
begun_is cx ordinal depth first n d e = rw (d, e) refl

pub may_call_at : (fs : List Function) (ordinal : ℕ) (f g : Function) (args : List Arg) (arena : Memory) → slice_get fs ordinal ≡ Some f → slice_get fs ordinal ≡ Some g
    → MayCall f args arena → MayCall g args arena
may_call_at fs ordinal f g args arena e k may =
    let both : Some f ≡ Some g = sym e ∙ k in
    let same : f ≡ g = cc in subst (λ h. MayCall h args arena) same may

module _ (m : Machine) (ordinal : ℕ) (args : List Arg) (stack : List Entered) (host : HostStack) (frames arena : Memory) (waits : ℕ) where
  -- where the participant stands, with this call stack and this host stack
  abbrev pub standing : List Entered → HostStack → TcsState
  standing entries area = record { stack = entries; base = area.base; top = area.top; frames = frames; arena = arena; waits = waits }

  pub start_refused : (f : Function) → slice_get m.interface.ocalls ordinal ≡ Some f
      → (passed : List Passed) (status : Status) (r pushed set : RecordList) (port : PortState) (begun : CallRecord) (area : HostStack) (place : ℕ)
      → IsUntaken f (arguments_in arena passed) host status → area ≡ host → length r.list < r.limit
      → begun ≡ begun_record (context_of (standing stack host)) ordinal (length port.log)
      → pushed ≡ with_records r (begun ∷ []) → place ≡ length r.list → set ≡ record pushed { list = slice_set pushed.list place (record begun { status = status }) }
      → IsUnasked m ordinal (arguments_in arena passed) port port r set (standing stack host) (standing stack area) status
  start_refused f found passed status r pushed set port begun area place untaken same less begun_as pushed_is at set_is =
      let cx : Context = context_of (standing stack host) in
      let arguments : List Argument = arguments_in arena passed in
      let ended : CallRecord = ocall_record cx ordinal 0 Ordinary status (length port.log) (length port.log) (length port.log) in
      let listed : set ≡ with_records r (ended ∷ []) =
      last_record_set r pushed set begun (record begun { status = status }) place pushed_is at set_is
      ∙ ap (λ (b : CallRecord). with_records r (record b { status = status } ∷ [])) begun_as in
      let kept : standing stack area ≡ standing stack host = ap (λ h. standing stack h) same in
      record {
        runs = subst (λ t. Runs (ocall m cx ordinal arguments) (moment port r (standing stack host)) (moment port set t) (ocall_outcome cx ordinal (length port.log) (length port.log) (Err status))) (sym kept)
            (refused_runs m cx ordinal arguments f found status (records_left r) (records_left set) waits port (untaken_row f arguments cx host status refl refl untaken) (one_record_less r set ended listed less));
        grown = listed;
        kept = kept;
      }

  pub start_cut : (f : Function) → slice_get m.interface.ocalls ordinal ≡ Some f
      → (passed : List Passed) (r pushed : RecordList) (old new : PortState) (begun : CallRecord) (area : HostStack) (frame : Option Frame)
      → IsTaken f (arguments_in arena passed) host area frame → length r.list < r.limit → pushed ≡ with_records r (begun ∷ [])
      → StopsFull (stores Enclave (frame_address frame) (frame_bytes f (arguments_in arena passed) (frame_address frame))) old new
      → StopsAt Steps (ocall m (context_of (standing stack host)) ordinal (arguments_in arena passed)) (moment old r (standing stack host)) new
  start_cut f found passed r pushed old new begun area frame taken less pushed_is stopped =
      let cx : Context = context_of (standing stack host) in
      let row : (first_row (ocall_rows cx f (arguments_in arena passed)) ≡ None) × (frame_address frame ≡ ocall_frame cx f (arguments_in arena passed)) =
      taken_row f (arguments_in arena passed) cx host area frame refl refl taken in
      put_stops m cx ordinal (arguments_in arena passed) f found (frame_address frame) row.1 row.0 (records_left r) (records_left pushed) waits old new (one_record_less r pushed begun pushed_is less) stopped

  module _ (asked : Asked) (found : slice_get m.interface.ocalls ordinal ≡ Some asked.function.now) where
    abbrev start_frame_bytes : List Passed → List ℕ
    start_frame_bytes passed = frame_bytes asked.function.now (arguments_in arena passed) (frame_address asked.frame)

    pub start_asked : (old new : PortState) (r pushed : RecordList) (area : HostStack) (entries : List Entered)
        → MayCall asked.function.now args arena → HasStackInHost m (standing stack host) → IsPortOf m old
        → ((passed : List Passed) → ArePassed arena args passed → IsTaken asked.function.now (arguments_in arena passed) host area asked.frame)
        → ((passed : List Passed) → ArePassed arena args passed → Makes (stores Enclave (frame_address asked.frame) (start_frame_bytes passed)) old new tt)
        → length r.list < r.limit → asked.begun ≡ begun_record (context_of (standing stack host)) ordinal (length old.log)
        → pushed ≡ with_records r (asked.begun ∷ []) → asked.place ≡ length r.list → asked.ordinal ≡ ordinal → entries ≡ with_ocall (Some ordinal) stack
        → IsAsked m ordinal args old new r pushed (standing stack host) (standing entries area) asked
    start_asked old new r pushed area entries may in_host port taken makes less begun_as pushed_is at ordinal_is entries_are =
        let cx : Context = context_of (standing stack host) in
        let under : IsUnder host area asked.frame = taken_under asked.function.now (arguments_in arena may.live.0) host area asked.frame (taken may.live.0 may.live.1) in
        let later : IsPortOf m new =
        port_stays m (stores Enclave (frame_address asked.frame) (start_frame_bytes may.live.0)) (ret tt) old new (makes may.live.0 may.live.1) port in
        record {
          found = found;
          ordinal_is = ordinal_is;
          place_is = at;
          begun_is = begun_as;
          grown = pushed_is;
          stands = ap (λ s. standing s area) entries_are
              ∙ ap (λ b. standing (with_ocall (Some ordinal) stack) (record { base = b; top = area.top })) under.base_is
              ∙ ap (λ t. standing (with_ocall (Some ordinal) stack) (record { base = host.base; top = t })) under.top_is;
          goes_back = under.back;
          port = later;
          frame = subst (λ n. IsFrameFor asked.function.now args arena n asked.frame) (sym later.host_is)
              (taken_frame asked.function.now args arena m.script.settings.host host area asked.frame may.live.0 may.live.1 in_host.0 in_host.1 taken);
          within = under.within;
          reaches = λ passed are.
              let row : (first_row (ocall_rows cx asked.function.now (arguments_in arena passed)) ≡ None) × (frame_address asked.frame ≡ ocall_frame cx asked.function.now (arguments_in arena passed)) =
              taken_row asked.function.now (arguments_in arena passed) cx host area asked.frame refl refl (taken passed are) in
              asked_reaches m cx ordinal (arguments_in arena passed) asked.function.now found (frame_address asked.frame) row.1 row.0 (records_left r) (records_left pushed) waits old new (one_record_less r pushed asked.begun pushed_is less) (makes passed are);
        }
