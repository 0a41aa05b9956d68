use Rattle.std.proofs.Common.{◌≡◌, ◌+◌, ◌++◌, length, replicate}
use Rattle.std.proofs.lemmas.Result.{err_from_is_err_and, on_ok_weaker, IfErr-weaker}
use Rattle.word_port.specs.Accesses.{stores}
use Rattle.word_port.specs.Runs.{StopsFull}
use Rattle.word_port.specs.declared.RunFull.TheVariants.{Steps}
use Rattle.word_port.specs.declared.Side.TheVariants.{Enclave}
use Rattle.call_copy.proofs.CutLaws.{stores_then, stores_full_first, stores_full_then}
use Rattle.call_copy.proofs.copies.put_ended.Goals as goal

pub returns-in_err-put_range-clause-full : goal.returns-in_err-put_range-clause-full
returns-in_err-put_range-clause-full g c =
    let p = err_from_is_err_and c.from_residual.result c.from_residual.ensures.1 in
    rw (p.1, p.2) (c.in_err-put_range.ensures.full.0, stores_full_first Enclave c.args.at c.args.body.now (replicate c.args.unit 0) _ _ c.in_err-put_range.ensures.full.1)

pub returns-clause-ok : goal.returns-clause-ok
returns-clause-ok g c =
    on_ok_weaker c.put_zeros.result (λ q. stores_then Enclave c.args.at c.args.body.now (replicate c.args.unit 0) (g.P.WordPort.state c.args.port.now) (g.P.WordPort.state c.put_range.new.port) (g.P.WordPort.state c.put_zeros.new.port) c.in_ok-put_range.ensures.ok q) c.put_zeros.ensures.ok

pub returns-clause-full : goal.returns-clause-full
returns-clause-full g c =
    IfErr-weaker c.put_zeros.result
    (λ full. (full ≡ Steps) × StopsFull (stores Enclave (c.args.at + length c.args.body.now) (replicate c.args.unit 0)) (g.P.WordPort.state c.put_range.new.port) (g.P.WordPort.state c.put_zeros.new.port))
    (λ full. (full ≡ Steps) × StopsFull (stores Enclave c.args.at (c.args.body.now ++ replicate c.args.unit 0)) (g.P.WordPort.state c.args.port.now) (g.P.WordPort.state c.put_zeros.new.port))
    (λ full q. (q.0, stores_full_then Enclave c.args.at c.args.body.now (replicate c.args.unit 0) (g.P.WordPort.state c.args.port.now) (g.P.WordPort.state c.put_range.new.port) (g.P.WordPort.state c.put_zeros.new.port) c.in_ok-put_range.ensures.ok q.1))
    c.put_zeros.ensures.full
