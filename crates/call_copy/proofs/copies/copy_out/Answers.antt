use Rattle.std.proofs.Common.{rules, ◌≡◌, subst, OnOk, IfErr}
use Rattle.word_port.specs.Interaction.{Interaction}
use Rattle.word_port.specs.Runs.{Makes, StopsFull}
use Rattle.word_port.specs.declared.RunFull.TheVariants.{Steps}
use Rattle.call_copy.proofs.CutLaws.{text_back}
use Rattle.call_copy.proofs.copies.copy_out.Goals as goal

pub returns-clause-ok : goal.returns-clause-ok
returns-clause-ok g c = λ number bytes b.
    subst (λ (t : Interaction (Unit {0})). OnOk c.put_text.result (Makes t (g.P.WordPort.state c.args.port.now) (g.P.WordPort.state c.put_text.new.port) tt))
    (text_back c.args.shape c.args.at bytes c.bytes.result.now (search rules) (c.bytes.ensures.bytes number bytes b)) c.put_text.ensures.ok

pub returns-clause-full : goal.returns-clause-full
returns-clause-full g c = λ number bytes b.
    subst (λ (t : Interaction (Unit {0})). IfErr c.put_text.result (λ full. (full ≡ Steps) × StopsFull t (g.P.WordPort.state c.args.port.now) (g.P.WordPort.state c.put_text.new.port)))
    (text_back c.args.shape c.args.at bytes c.bytes.result.now (search rules) (c.bytes.ensures.bytes number bytes b)) c.put_text.ensures.full
