-- A script has one run, and no run is a proper beginning of another.
use Rattle.std.proofs.Common.{ℕ, ◌≡◌, List, [], ◌∷◌, length, ap, sym, ◌∙◌, subst}
use Rattle.word_port.specs.declared.Step.{Step}
use Rattle.word_port.specs.Events.{Event, steps_of}
use Rattle.word_port.specs.Port.{PortState}
use Rattle.word_port.specs.Limits.{Progress}
use Rattle.word_port.specs.Runs.{Runs}
use Rattle.word_port.specs.History.{IsLegal, with_races}
use Rattle.word_port.proofs.OneLegalRun.{one_legal_run}
use Rattle.word_port.proofs.OneRun.{SameAnswers, one_run}
use Rattle.call_script.specs.declared.HostAct.{HostAct}
use Rattle.call_machine.specs.declared.Machine.{Machine}
use Rattle.call_machine.specs.Context.{Context}
use Rattle.call_machine.specs.Result.{Outcome}
use Rattle.call_machine.specs.Reported.{first_thread}
use Rattle.call_machine.specs.Thread.{thread}
use Rattle.run_laws.specs.OneRun.{HaveSameAnswers, IsWholeRun}

legal_events : (m : Machine) (outcome : Outcome) (log : List Step) (p : IsWholeRun m outcome log)
    → IsLegal m.script.words (with_races m.script.settings.host m.script.races (steps_of p.run.events))
legal_events m outcome log p = subst (λ (s : PortState). IsLegal m.script.words (with_races m.script.settings.host m.script.races s.log)) p.run.grown p.legal

log_of : (m : Machine) (outcome : Outcome) (log : List Step) (p : IsWholeRun m outcome log) → log ≡ steps_of p.run.events
log_of m outcome log p = p.log_is ∙ ap (λ (s : PortState). s.log) p.run.grown

pub one_whole_run : (m : Machine) (outcome other : Outcome) (log another : List Step) → IsWholeRun m outcome log → IsWholeRun m other another
    → (outcome ≡ other) × (log ≡ another)
one_whole_run m outcome other log another p q =
    let same : (outcome ≡ other) × (p.run.events ≡ q.run.events) =
    one_legal_run (first_thread m) 0 m.script.settings.host 0 m.script.races m.script.words p.run.events q.run.events outcome other
    p.run.begun q.run.begun p.run.places q.run.places (legal_events m outcome log p) (legal_events m other another q) in
    (same.0, log_of m outcome log p ∙ ap (λ es. steps_of es) same.1 ∙ sym (log_of m other another q))

same_answers : (log other : List Step) → HaveSameAnswers log other → SameAnswers log other
same_answers [] other h = tt
same_answers (s ∷ log) [] h = tt
same_answers (s ∷ log) (u ∷ other) h = (h.0, same_answers log other h.1)

pub no_beginning : (m : Machine) (cx : Context) (acts : List HostAct) (start after end : Progress) (outcome other : Outcome)
    (run : Runs (thread m cx acts) start after outcome) (second : Runs (thread m cx acts) start end other)
    → HaveSameAnswers (steps_of run.events) (steps_of second.events) → (outcome ≡ other) × (steps_of run.events ≡ steps_of second.events)
no_beginning m cx acts start after end outcome other run second same =
    let one : (outcome ≡ other) × (run.events ≡ second.events) =
    one_run (thread m cx acts) (length start.port.log) run.events second.events outcome other run.begun second.begun run.places second.places
    (same_answers (steps_of run.events) (steps_of second.events) same) in
    (one.0, ap (λ es. steps_of es) one.1)
