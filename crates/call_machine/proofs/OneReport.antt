-- A script has one report.
use Rattle.std.proofs.Common.{ℕ, ◌≡◌, List, ap, sym, ◌∙◌, subst}
use Rattle.word_port.specs.Events.{steps_of}
use Rattle.word_port.specs.History.{IsLegal, with_races}
use Rattle.word_port.proofs.OneLegalRun.{one_legal_run}
use Rattle.call_report.specs.Report.{report}
use Rattle.call_machine.specs.declared.Machine.{Machine}
use Rattle.call_machine.specs.Reported.{IsReportOf, first_thread}

-- the text is that of the run's events
report_of_events : (m : Machine) (text : List ℕ) (p : IsReportOf m text) → text ≡ report m.interface p.outcome.records (steps_of p.run.events)
report_of_events m text p = p.text_is ∙ ap (λ s. report m.interface p.outcome.records s.log) p.run.grown

legal_events : (m : Machine) (text : List ℕ) (p : IsReportOf m text) → IsLegal m.script.words (with_races m.script.settings.host m.script.races (steps_of p.run.events))
legal_events m text p = subst (λ s. IsLegal m.script.words (with_races m.script.settings.host m.script.races s.log)) p.run.grown p.legal

-- two texts that are reports of one machine are the same
pub one_report : (m : Machine) (text other : List ℕ) → IsReportOf m text → IsReportOf m other → text ≡ other
one_report m text other p q =
    let same : (p.outcome ≡ q.outcome) × (p.run.events ≡ q.run.events) =
    one_legal_run (first_thread m) 0 m.script.settings.host 0 m.script.races m.script.words p.run.events q.run.events p.outcome q.outcome
    p.run.begun q.run.begun p.run.places q.run.places (legal_events m text p) (legal_events m other q) in
    report_of_events m text p
    ∙ ap (λ out. report m.interface out.records (steps_of p.run.events)) same.0
    ∙ ap (λ es. report m.interface q.outcome.records (steps_of es)) same.1
    ∙ sym (report_of_events m other q)
