-- A whole run of a machine's thread, at a port of its words, gives its summary.
use Rattle.std.proofs.Common.{ℕ, ◌≡◌, ◌≤◌, ◌/◌, List, [], length, refl, sym, ◌∙◌, ap, subst}
use Rattle.word_port.specs.Port.{PortState}
use Rattle.word_port.specs.Limits.{Progress, progress}
use Rattle.word_port.specs.Runs.{Runs, Reaches}
use Rattle.word_port.specs.History.{IsLegal, with_races}
use Rattle.word_port.specs.Names.{words_named, races_named, name_of}
use Rattle.word_port.specs.Plain.{opened}
use Rattle.word_port.specs.Interaction.{Interaction, ret}
use Rattle.word_port.specs.declared.Step.{Step}
use Rattle.word_port.proofs.NameLaws.{legal_from_name}
use Rattle.word_port.proofs.Names.{with_no_name, reaches_unnamed}
use Rattle.call_script.specs.declared.HostAct.{HostAct}
use Rattle.call_report.specs.declared.CallRecord.{CallRecord}
use Rattle.call_report.specs.RecordList.{RecordList, records_left, with_records}
use Rattle.call_report.specs.Report.{report}
use Rattle.call_machine.specs.declared.Machine.{Machine}
use Rattle.call_machine.specs.Context.{Context, first_context}
use Rattle.call_machine.specs.Result.{Outcome}
use Rattle.call_machine.specs.Tcs.{TcsState, context_of, moment}
use Rattle.call_machine.specs.Thread.{thread}
use Rattle.call_machine.specs.Reported.{step_limit, record_limit, beginning, first_thread}
use Rattle.call_machine.proofs.RunLaws.{IsOpening}
use Rattle.run_summary.specs.Summary.{summary}
use Rattle.run_summary.specs.Summarized.{IsSummaryOf}

module _ (m : Machine) (port : PortState) (records : RecordList) (t : TcsState) (acts : List HostAct) (o : IsOpening m port records t acts) where
  moment_is : with_no_name (moment port records t) ≡ beginning m step_limit
  moment_is =
      let words : PortState = opened m.script.words m.script.settings.host m.script.races step_limit in
      ap (λ (p : PortState). with_no_name (progress p (records_left records) t.waits)) o.port_is
      ∙ ap (λ (r : RecordList). with_no_name (progress words (records_left r) t.waits)) o.records_are
      ∙ ap (λ (w : ℕ). with_no_name (progress words record_limit w)) o.waits

  thread_is : thread m (context_of t) acts ≡ first_thread m
  thread_is = ap (λ (cx : Context). thread m cx acts) o.context ∙ ap (λ (a : List HostAct). thread m (first_context m.script.settings 0) a) o.acts_are

  -- steps keep what a port is of
  abbrev IsOf : PortState → Type 0
  IsOf p = (p.name ≡ name_of m.script.words m.script.races) × (p.host ≡ m.script.settings.host) × (p.limit ≡ step_limit)

  is_of : (after : Progress) (rest : Interaction Outcome) → Reaches (thread m (context_of t) acts) (moment port records t) after rest → IsOf after.port
  is_of after rest r =
      let e = sym r.grown in subst IsOf e (ap (λ (p : PortState). p.name) o.port_is, ap (λ (p : PortState). p.host) o.port_is, ap (λ (p : PortState). p.limit) o.port_is)

  pub summary_of_run : (new : PortState) (made : RecordList) (u : TcsState) (out : Outcome) (list : List CallRecord) (log : List Step) (text : List ℕ)
      → Runs (thread m (context_of t) acts) (moment port records t) (moment new made u) out
      → made ≡ with_records records out.records
      → IsLegal (words_named new.name) (with_races new.host (races_named new.name) new.log)
      → length new.log ≤ new.limit
      → list ≡ made.list → log ≡ new.log → text ≡ summary list log
      → IsSummaryOf m text
  summary_of_run new made u out list log text run made_is legal within list_is log_is text_is =
      let of_words : IsOf new = is_of (moment new made u) (ret out) run in
      record {
        report = report m.interface out.records new.log;
        run = record {
          outcome = out;
          after = with_no_name (moment new made u);
          run = subst (λ (b : Progress). Runs (first_thread m) b (with_no_name (moment new made u)) out) moment_is
              (reaches_unnamed (first_thread m) (moment port records t) (moment new made u) (ret out)
              (subst (λ (b : Interaction Outcome). Runs b (moment port records t) (moment new made u) out) thread_is run));
          within = subst (λ (n : ℕ). length new.log ≤ n) of_words.2 within;
          legal = legal_from_name new m.script.words m.script.settings.host m.script.races of_words.0 of_words.1 legal;
          text_is = refl;
        };
        text_is = text_is ∙ ap (λ (l : List CallRecord). summary l log) (list_is ∙ ap (λ (r : RecordList). r.list) made_is ∙ ap (λ (r : RecordList). (with_records r out.records).list) o.records_are)
            ∙ ap (λ (l : List Step). summary out.records l) log_is;
      }
