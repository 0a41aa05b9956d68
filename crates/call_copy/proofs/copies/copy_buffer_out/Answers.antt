use Rattle.std.proofs.Common.{◌≡◌, subst, OnOk, IfErr}
use Rattle.word_port.specs.Interaction.{Interaction}
use Rattle.word_port.specs.Runs.{Makes, StopsFull}
use Rattle.word_port.specs.declared.RunFull.TheVariants.{Steps}
use Rattle.call_copy.proofs.CopyLaws.{plain_back}
use Rattle.call_copy.proofs.copies.copy_buffer_out.Goals as goal

pub returns-clause-ok : goal.returns-clause-ok
returns-clause-ok g c = λ number bytes b.
    subst (λ (t : Interaction (Unit {0})). OnOk c.put_range.result (Makes t (g.P.WordPort.state c.args.port.now) (g.P.WordPort.state c.put_range.new.port) tt))
    (plain_back c.args.shape c.args.at bytes c.bytes.result.now c.requires.plain (c.bytes.ensures.bytes number bytes b)) c.put_range.ensures.ok

pub returns-clause-full : goal.returns-clause-full
returns-clause-full g c = λ number bytes b.
    subst (λ (t : Interaction (Unit {0})). IfErr c.put_range.result (λ full. (full ≡ Steps) × StopsFull t (g.P.WordPort.state c.args.port.now) (g.P.WordPort.state c.put_range.new.port)))
    (plain_back c.args.shape c.args.at bytes c.bytes.result.now c.requires.plain (c.bytes.ensures.bytes number bytes b)) c.put_range.ensures.full
