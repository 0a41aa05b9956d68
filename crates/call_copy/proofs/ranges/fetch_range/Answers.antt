use Rattle.std.proofs.Common.{◌≡◌, ◌+◌, subst, arith}
use Rattle.word_port.specs.Requests.{load_of}
use Rattle.word_port.specs.Accesses.{word_at}
use Rattle.word_port.proofs.AccessLaws.{IsAnswerOf}
use Rattle.std.proofs.lemmas.Result.{err_from_is_err_and}
use Rattle.call_copy.proofs.Fetches.{fetched_none, fetched_live, fetched_more, fetched_full, fetched_all, fetched_kept}
use Rattle.call_copy.proofs.ranges.fetch_range.Goals as goal

pub loop-i-init : goal.loop-i-init
loop-i-init g c = fetched_none c.args.side c.args.at c.args.block _ _ c.requires.live

pub write-requires-clause-live : goal.write-requires-clause-live
write-requires-clause-live g c = fetched_live c.args.side c.args.at c.args.block c.loop-i.i _ _ _ _ c.loop-i.invariant

pub loop-i-preserved : goal.loop-i-preserved
loop-i-preserved g c =
    let q : IsAnswerOf (load_of c.args.side (word_at (c.args.at + c.loop-i.i))) c.in_ok-byte.byte (g.P.WordPort.state c.loop-i.port) (g.P.WordPort.state c.load_byte.new.port) =
    subst (λ k. IsAnswerOf (load_of c.args.side (word_at (c.args.at + k))) c.in_ok-byte.byte (g.P.WordPort.state c.loop-i.port) (g.P.WordPort.state c.load_byte.new.port)) c.from.ensures c.in_ok-byte.ensures.ok in
    fetched_more c.args.side c.args.at c.args.block c.loop-i.i c.in_ok-byte.byte _ _ _ _ _ _ c.loop-i.invariant c.loop-i-test.true q c.write.ensures.number

pub returns-clause-ok : goal.returns-clause-ok
returns-clause-ok g c =
    let e : c.loop-i.i ≡ c.args.block.length = omega (arith, c.loop-i-test.false, c.loop-i.auto.i-end) in
    fetched_all c.args.side c.args.at c.args.block c.loop-i.i _ _ _ _ c.loop-i.invariant e

pub returns-in_err-byte-clause-full : goal.returns-in_err-byte-clause-full
returns-in_err-byte-clause-full g c =
    let p = err_from_is_err_and c.from_residual.result c.from_residual.ensures.1 in
    rw (p.1, p.2) (c.in_err-byte.ensures.full.0, fetched_full c.args.side c.args.at c.args.block c.loop-i.i _ _ _ _ _ c.loop-i.invariant c.loop-i-test.true c.in_err-byte.ensures.full.1 c.in_err-byte.ensures.full.2)

pub returns-clause-kept : goal.returns-clause-kept
returns-clause-kept g c = fetched_kept c.args.side c.args.at c.args.block c.loop-i.i _ _ _ _ c.loop-i.invariant

pub returns-in_err-byte-clause-kept : goal.returns-in_err-byte-clause-kept
returns-in_err-byte-clause-kept g c = fetched_kept c.args.side c.args.at c.args.block c.loop-i.i _ _ _ _ c.loop-i.invariant
