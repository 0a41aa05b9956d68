use Rattle.std.proofs.Common.{◌+◌}
use Rattle.std.proofs.lemmas.Result.{err_from_is_err_and}
use Rattle.call_copy.proofs.CutLaws.{zeros_more, zeros_full}
use Rattle.call_copy.proofs.ranges.put_zeros.Goals as goal

pub returns-in_err-store_byte-clause-full : goal.returns-in_err-store_byte-clause-full
returns-in_err-store_byte-clause-full g c =
    let p = err_from_is_err_and c.from_residual.result c.from_residual.ensures.1 in
    rw (p.1, p.2) (c.in_err-store_byte.ensures.full.0, zeros_full c.args.side (c.args.at + c.args.past) c.loop-i.i c.args.count _ _ _ c.loop-i.invariant c.loop-i-test.true c.in_err-store_byte.ensures.full.1 c.in_err-store_byte.ensures.full.2)

pub loop-i-preserved : goal.loop-i-preserved
loop-i-preserved g c = zeros_more c.args.side c.args.at c.args.past c.loop-i.i c.from.result c.args.count _ _ _ _ c.loop-i.invariant c.loop-i-test.true c.from.ensures c.in_ok-store_byte.ensures.ok
