use Rattle.std.proofs.lemmas.Result.{err_from_is_err_and}
use Rattle.call_machine.proofs.Pokes.{peeks_begin, peeks_more, peeks_full}
use Rattle.call_machine.proofs.acts.peek_bytes.Goals as goal

pub loop-i-init : goal.loop-i-init
loop-i-init g c = peeks_begin c.args.side c.args.at c.args.length (g.P.WordPort.state c.args.port.now)

pub returns-in_err-peek_byte-clause-full : goal.returns-in_err-peek_byte-clause-full
returns-in_err-peek_byte-clause-full g c =
    let p = err_from_is_err_and c.from_residual.result c.from_residual.ensures.1 in
    rw (p.1, p.2) (c.in_err-peek_byte.ensures.full.0, peeks_full c.args.side c.args.at c.loop-i.i c.args.length _ _ _ c.loop-i.invariant c.loop-i-test.true c.in_err-peek_byte.ensures.full.1)

pub loop-i-preserved : goal.loop-i-preserved
loop-i-preserved g c = peeks_more c.args.side c.args.at c.loop-i.i c.args.length _ _ _ c.loop-i.invariant c.loop-i-test.true c.in_ok-peek_byte.ensures.ok
