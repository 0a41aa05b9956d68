use Rattle.std.proofs.Common.{◌∙◌, ap, sym, [], ◌∷◌, ◌++◌}
use Rattle.stub_files.specs.declared.StubFile.{StubFile}
use Rattle.stub_files.specs.StubFiles as spec
use Rattle.stub_files.proofs.LoopLaws.{taken_more, left_more}
use Rattle.stub_files.proofs.stub_files.Goals.{then-is_written+in_ok-stub_file+in_ok-push, else-is_written}
use Rattle.stub_files.proofs.stub_files.Goals as goal

pub loop-which-preserved : goal.loop-which-preserved
loop-which-preserved c = elim c.if-is_written.branch [
  | then-is_written+in_ok-stub_file+in_ok-push w ↦
      w.files-is ∙ w.in_ok-push.ensures.ok
      ∙ ap (λ (stub : StubFile). c.loop-which.files ++ stub ∷ []) w.in_ok-stub_file.ensures
      ∙ taken_more (spec.stub_file c.args.choices.now c.args.file.now) (spec.is_written c.args.choices.now) spec.in_order
      c.loop-which.which-index _ c.loop-which.files c.loop-which-test.true (sym c.is_written.ensures ∙ w.if-is_written.true) c.loop-which.invariant
  | else-is_written w ↦
      w.files-is
      ∙ left_more (spec.stub_file c.args.choices.now c.args.file.now) (spec.is_written c.args.choices.now) spec.in_order
      c.loop-which.which-index _ c.loop-which.files c.loop-which-test.true (sym c.is_written.ensures ∙ w.if-is_written.false) c.loop-which.invariant
]
