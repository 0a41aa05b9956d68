use Rattle.std.proofs.Common.{sym, ◌∙◌, subst, Some, None}
use Rattle.std.proofs.lemmas.Result.{err_from_is_err_and}
use Rattle.word_port.specs.Runs.{Makes, StopsFull}
use Rattle.switchless.specs.Worker.{scan}
use Rattle.switchless.specs.Tasks.{task_word}
use Rattle.switchless.proofs.StepLaws.{scan_none, scan_some, scan_full}
use Rattle.switchless.proofs.worker.scan.Goals as goal

pub returns-in_err-word-clause-full : goal.returns-in_err-word-clause-full
returns-in_err-word-clause-full g c =
    let p = err_from_is_err_and c.from_residual.result c.from_residual.ensures.1 in
    rw (p.1, p.2) (
      c.in_err-word.ensures.full.0,
      subst (λ n. StopsFull (scan n) (g.P.WordPort.state c.args.port.now) (g.P.WordPort.state c.load.new.port)) c.slot_at-slot.ensures.slot
          (scan_full c.slot_at-slot.result _ _ c.in_err-word.ensures.full.1),
    )

pub returns-then-not-is_offered-clause-ok : goal.returns-then-not-is_offered-clause-ok
returns-then-not-is_offered-clause-ok g c =
    subst (λ n. Makes (scan n) (g.P.WordPort.state c.args.port.now) (g.P.WordPort.state c.load.new.port) None) c.slot_at-slot.ensures.slot
    (scan_none c.slot_at-slot.result c.in_ok-word.word _ _ (sym c.is_offered.ensures ∙ c.if-not-is_offered.true) c.in_ok-word.ensures.ok)

pub returns-clause-ok : goal.returns-clause-ok
returns-clause-ok g c = (
  subst (λ n. Makes (scan n) (g.P.WordPort.state c.args.port.now) (g.P.WordPort.state c.load.new.port) (Some (task_word c.in_word.result))) c.slot_at-slot.ensures.slot
      (scan_some c.slot_at-slot.result c.in_ok-word.word (task_word c.in_word.result) _ _ (sym c.is_offered.ensures ∙ c.if-not-is_offered.false) c.in_word.ensures.word c.in_ok-word.ensures.ok),
  c.in_word.ensures.slot ∙ c.slot_at-slot.ensures.slot,
  c.in_word.ensures.task,
)
