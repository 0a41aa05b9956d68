-- What files hold decides what is told of a run.
use Rattle.std.proofs.Common.{ℕ, ◌≡◌, List, Option, Some, Ok, IfSome, false, refl, ap, sym, ◌∙◌, subst}
use Rattle.sgx_base.specs.Stores.{Store, FilesState}
use Rattle.word_port.specs.declared.Step.{Step}
use Rattle.word_port.specs.declared.RunFull.{RunFull}
use Rattle.call_report.specs.declared.CallRecord.{CallRecord}
use Rattle.call_machine.specs.declared.Machine.{Machine}
use Rattle.call_machine.specs.Result.{Outcome}
use Rattle.call_machine.specs.Reported.{IsReportOf, IsCutBy}
use Rattle.run_laws.specs.OneRun.{IsWholeRun}
use Rattle.run_laws.proofs.OneRunLaws.{one_whole_run}
use Rattle.run_laws.proofs.WholeOrCut.{whole_or_cut, one_limit}
use Rattle.call_engine.specs.Prepared.{FilesGive, Prepares}
use Rattle.one_machine.proofs.OneMachine.{one_machine}
use Rattle.callrun.specs.Endings.{Names, IsDone, IsCut}
use Rattle.callrun.specs.Told.{Telling, IsTold}
use Rattle.callrun.specs.OneAnswer.{OneTextIsTold, NoneIsDoneAndCut, OneLimitCuts}

-- the machine that contents give, which are told
given : (n : Names) (store : Store) (files : FilesState) (m : Machine) → files.contents ≡ Some store → FilesGive false files n.paths n.edl n.script (Ok m)
    → Prepares false store n.paths n.edl n.script (Ok m)
given n store files m told gives = subst (λ (contents : Option Store). IfSome contents (λ s. Prepares false s n.paths n.edl n.script (Ok m))) told gives

same_machine : (n : Names) (store : Store) (files other : FilesState) (m second : Machine) → files.contents ≡ Some store → other.contents ≡ Some store
    → FilesGive false files n.paths n.edl n.script (Ok m) → FilesGive false other n.paths n.edl n.script (Ok second) → m ≡ second
same_machine n store files other m second told also gives gives' =
    one_machine false store n.paths n.edl n.script m second (given n store files m told gives) (given n store other second also gives')

whole_run : (m : Machine) (text : List ℕ) (r : IsReportOf m text) → IsWholeRun m r.outcome r.after.port.log
whole_run m text r = record { after = r.after; run = r.run; legal = r.legal; log_is = refl }

one_telling : (telling : Telling) (m : Machine) (text another : List ℕ) → IsTold telling m text → IsTold telling m another → text ≡ another
one_telling telling m text another p q =
    let same : (p.run.outcome ≡ q.run.outcome) × (p.run.after.port.log ≡ q.run.after.port.log) =
    one_whole_run m p.run.outcome q.run.outcome p.run.after.port.log q.run.after.port.log (whole_run m p.reported p.run) (whole_run m q.reported q.run) in
    p.told ∙ ap (λ (out : Outcome). telling m.interface out.records p.run.after.port.log) same.0
    ∙ ap (λ (log : List Step). telling m.interface q.run.outcome.records log) same.1 ∙ sym q.told

pub one_text : OneTextIsTold
one_text telling n store files other text another told also p q =
    let same : p.machine ≡ q.machine = same_machine n store files other p.machine q.machine told also p.gives q.gives in
    one_telling telling q.machine text another (subst (λ (m : Machine). IsTold telling m text) same p.told) q.told

pub none_done_and_cut : NoneIsDoneAndCut
none_done_and_cut telling n store files other text limit told also p q =
    let same : p.machine ≡ q.machine = same_machine n store files other p.machine q.machine told also p.gives q.gives in
    whole_or_cut p.machine p.told.reported limit p.told.run (subst (λ (m : Machine). IsCutBy m limit) (sym same) q.cut)

pub one_limit_cuts : OneLimitCuts
one_limit_cuts n store files other limit another told also p q =
    let same : p.machine ≡ q.machine = same_machine n store files other p.machine q.machine told also p.gives q.gives in
    one_limit q.machine limit another (subst (λ (m : Machine). IsCutBy m limit) same p.cut) q.cut
