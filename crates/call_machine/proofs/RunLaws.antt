-- A run of a machine's thread at a port of its words is one at a port that names no words.
use Rattle.std.proofs.Common.{ℕ, ◌≡◌, ◌≤◌, ◌/◌, List, [], length, sym, ◌∙◌, ap, subst}
use Rattle.word_port.specs.declared.RunFull.{RunFull}
use Rattle.word_port.specs.Port.{PortState}
use Rattle.word_port.specs.Limits.{Progress, progress}
use Rattle.word_port.specs.Runs.{Runs, StopsAt, Reaches}
use Rattle.word_port.specs.History.{IsLegal, with_races}
use Rattle.word_port.specs.Names.{words_named, races_named, name_of}
use Rattle.word_port.specs.Plain.{opened}
use Rattle.word_port.specs.Interaction.{Interaction, ret}
use Rattle.word_port.proofs.NameLaws.{legal_from_name}
use Rattle.word_port.proofs.Names.{unnamed, with_no_name, reaches_unnamed, stops_unnamed}
use Rattle.call_script.specs.declared.HostAct.{HostAct}
use Rattle.word_port.specs.declared.Step.{Step}
use Rattle.edl_interface.specs.declared.Interface.{Interface}
use Rattle.call_report.specs.declared.CallRecord.{CallRecord}
use Rattle.call_report.specs.RecordList.{RecordList, records_left, with_records}
use Rattle.call_report.specs.Report.{report}
use Rattle.call_machine.specs.declared.Machine.{Machine}
use Rattle.call_machine.specs.Context.{Context, first_context}
use Rattle.call_machine.specs.Result.{Outcome}
use Rattle.call_machine.specs.Tcs.{TcsState, context_of, moment}
use Rattle.call_machine.specs.Thread.{thread}
use Rattle.call_machine.specs.Reported.{step_limit, record_limit, beginning, acts_at, first_thread, IsReportOf, IsCutBy}

-- the port, the records, the thread control structure and the acts with which thread 0 begins
pub record IsOpening (m : Machine) (port : PortState) (records : RecordList) (t : TcsState) (acts : List HostAct) : Type 0 where
  pub port_is : port ≡ opened m.script.words m.script.settings.host m.script.races step_limit
  pub records_are : records ≡ record { list = []; limit = record_limit }
  pub context : context_of t ≡ first_context m.script.settings 0
  pub waits : t.waits ≡ step_limit / 4
  pub acts_are : acts ≡ acts_at m 0

moment_is : (m : Machine) (port : PortState) (records : RecordList) (t : TcsState) (acts : List HostAct) → IsOpening m port records t acts → with_no_name (moment port records t) ≡ beginning m step_limit
moment_is m port records t acts o =
    let words : PortState = opened m.script.words m.script.settings.host m.script.races step_limit in
    ap (λ (p : PortState). with_no_name (progress p (records_left records) t.waits)) o.port_is
    ∙ ap (λ (r : RecordList). with_no_name (progress words (records_left r) t.waits)) o.records_are
    ∙ ap (λ (w : ℕ). with_no_name (progress words record_limit w)) o.waits

thread_is : (m : Machine) (port : PortState) (records : RecordList) (t : TcsState) (acts : List HostAct) → IsOpening m port records t acts → thread m (context_of t) acts ≡ first_thread m
thread_is m port records t acts o = ap (λ (cx : Context). thread m cx acts) o.context ∙ ap (λ (a : List HostAct). thread m (first_context m.script.settings 0) a) o.acts_are

-- steps keep what a port is of
abbrev IsOf : Machine → PortState → Type 0
IsOf m p = (p.name ≡ name_of m.script.words m.script.races) × (p.host ≡ m.script.settings.host) × (p.limit ≡ step_limit)

is_of : (m : Machine) (port : PortState) (records : RecordList) (t : TcsState) (acts : List HostAct) → IsOpening m port records t acts
    → {A : Type 0} → (b : Interaction A) (after : Progress) (rest : Interaction A) → Reaches b (moment port records t) after rest → IsOf m after.port
is_of m port records t acts o b after rest r =
    let e = sym r.grown in subst (IsOf m) e
    (ap (λ (p : PortState). p.name) o.port_is, ap (λ (p : PortState). p.host) o.port_is, ap (λ (p : PortState). p.limit) o.port_is)

abbrev IsLegalByName : PortState → Type 0
IsLegalByName p = IsLegal (words_named p.name) (with_races p.host (races_named p.name) p.log)

-- a whole run, with a log that is legal, gives the report
pub report_of_run : (m : Machine) (port new : PortState) (records made : RecordList) (t u : TcsState) (acts : List HostAct) (out : Outcome) (text : List ℕ) → IsOpening m port records t acts
    → Runs (thread m (context_of t) acts) (moment port records t) (moment new made u) out
    → made ≡ with_records records out.records
    → IsLegal (words_named new.name) (with_races new.host (races_named new.name) new.log)
    → length new.log ≤ new.limit
    → text ≡ report m.interface made.list new.log
    → IsReportOf m text
report_of_run m port new records made t u acts out text o run made_is legal within text_is =
    let of_words : IsOf m new = is_of m port records t acts o (thread m (context_of t) acts) (moment new made u) (ret out) run in
    record {
      outcome = out;
      after = with_no_name (moment new made u);
      run = subst (λ (b : Progress). Runs (first_thread m) b (with_no_name (moment new made u)) out) (moment_is m port records t acts o)
          (reaches_unnamed (first_thread m) (moment port records t) (moment new made u) (ret out)
          (subst (λ (b : Interaction Outcome). Runs b (moment port records t) (moment new made u) out) (thread_is m port records t acts o) run));
      within = subst (λ (n : ℕ). length new.log ≤ n) of_words.2 within;
      legal = legal_from_name new m.script.words m.script.settings.host m.script.races of_words.0 of_words.1 legal;
      text_is = text_is ∙ ap (λ (r : RecordList). report m.interface r.list new.log) made_is ∙ ap (λ (r : RecordList). report m.interface (with_records r out.records).list new.log) o.records_are;
    }

-- a run that stops, with a log that is legal, is cut by its limit
pub cut_of_run : (m : Machine) (port new : PortState) (records : RecordList) (t : TcsState) (acts : List HostAct) (full : RunFull) → IsOpening m port records t acts
    → StopsAt full (thread m (context_of t) acts) (moment port records t) new
    → IsLegal (words_named new.name) (with_races new.host (races_named new.name) new.log)
    → length new.log ≤ new.limit
    → IsCutBy m full
cut_of_run m port new records t acts full o stops legal within =
    let of_words : IsOf m new = subst (IsOf m) stops.port (is_of m port records t acts o (thread m (context_of t) acts) stops.after stops.rest stops.reaches) in
    record {
      port = unnamed new;
      stops = subst (λ (b : Progress). StopsAt full (first_thread m) b (unnamed new)) (moment_is m port records t acts o)
          (stops_unnamed full (first_thread m) (moment port records t) new
          (subst (λ (b : Interaction Outcome). StopsAt full b (moment port records t) new) (thread_is m port records t acts o) stops));
      within = subst (λ (n : ℕ). length new.log ≤ n) of_words.2 within;
      legal = legal_from_name new m.script.words m.script.settings.host m.script.races of_words.0 of_words.1 legal;
    }

-- a report of what lists show is one of the lists
pub report_of_shown : (i : Interface) (records list : List CallRecord) (log steps : List Step) (text : List ℕ) → text ≡ report i records log → records ≡ list → log ≡ steps → text ≡ report i list steps
report_of_shown i records list log steps text e r l = e ∙ ap (λ (x : List CallRecord). report i x log) r ∙ ap (λ (x : List Step). report i list x) l
