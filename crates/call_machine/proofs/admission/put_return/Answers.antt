use Rattle.std.proofs.Common.{◌≡◌, subst, IfErr, OnOk}
use Rattle.edl_interface.specs.Parameters.{return_size}
use Rattle.word_port.specs.Accesses.{stores}
use Rattle.word_port.specs.Runs.{Makes, StopsFull}
use Rattle.word_port.specs.declared.Side.TheVariants.{Enclave}
use Rattle.word_port.specs.declared.RunFull.TheVariants.{Steps}
use Rattle.call_machine.proofs.CopiesBack.{return_bytes}
use Rattle.call_machine.proofs.admission.put_return.Goals as goal

pub returns-clause-ok : goal.returns-clause-ok
returns-clause-ok g c =
    subst (λ bytes. OnOk c.put_range.result (Makes (stores Enclave c.args.frame bytes) (g.P.WordPort.state c.args.port.now) (g.P.WordPort.state c.put_range.new.port) tt))
    (return_bytes c.little_endian_bytes-bytes.result c.return_size.result (return_size c.args.function.now) c.args.value c.little_endian_bytes-bytes.ensures c.return_size.ensures c.requires.size)
    c.put_range.ensures.ok

pub returns-clause-full : goal.returns-clause-full
returns-clause-full g c =
    subst (λ bytes. IfErr c.put_range.result (λ full. (full ≡ Steps) × StopsFull (stores Enclave c.args.frame bytes) (g.P.WordPort.state c.args.port.now) (g.P.WordPort.state c.put_range.new.port)))
    (return_bytes c.little_endian_bytes-bytes.result c.return_size.result (return_size c.args.function.now) c.args.value c.little_endian_bytes-bytes.ensures c.return_size.ensures c.requires.size)
    c.put_range.ensures.full
