use Rattle.std.proofs.Common.{◌≡◌, ◌+◌, subst, arith}
use Rattle.std.proofs.lemmas.Result.{err_from_is_err_and}
use Rattle.word_port.specs.declared.Side.TheVariants.{Enclave}
use Rattle.word_port.specs.Requests.{load_of}
use Rattle.word_port.specs.Accesses.{word_at}
use Rattle.word_port.proofs.AccessLaws.{IsAnswerOf}
use Rattle.ocall_frames.proofs.LoadLaws.{loading_none, loading_live, loading_more, loading_full, loading_all}
use Rattle.ocall_frames.proofs.reply.load_first.Goals as goal

pub loop-i-init : goal.loop-i-init
loop-i-init g c = loading_none c.args.at c.args.block c.args.count _ _ c.requires.live c.requires.fits

pub write-requires-clause-live : goal.write-requires-clause-live
write-requires-clause-live g c = loading_live c.args.at c.args.block c.args.count c.loop-i.i _ _ _ _ c.loop-i.invariant

pub loop-i-preserved : goal.loop-i-preserved
loop-i-preserved g c =
    let q : IsAnswerOf (load_of Enclave (word_at (c.args.at + c.loop-i.i))) c.in_ok-byte.byte (g.P.WordPort.state c.loop-i.port) (g.P.WordPort.state c.load_byte.new.port) =
    subst (λ k. IsAnswerOf (load_of Enclave (word_at (c.args.at + k))) c.in_ok-byte.byte (g.P.WordPort.state c.loop-i.port) (g.P.WordPort.state c.load_byte.new.port)) c.from.ensures c.in_ok-byte.ensures.ok in
    loading_more c.args.at c.args.block c.args.count c.loop-i.i c.in_ok-byte.byte _ _ _ _ _ _ c.loop-i.invariant c.loop-i-test.true q c.write.ensures.number

pub returns-clause-ok : goal.returns-clause-ok
returns-clause-ok g c =
    let e : c.loop-i.i ≡ c.args.count = omega (arith, c.loop-i-test.false, c.loop-i.auto.i-end) in
    loading_all c.args.at c.args.block c.args.count c.loop-i.i _ _ _ _ c.loop-i.invariant e

pub returns-in_err-byte-clause-full : goal.returns-in_err-byte-clause-full
returns-in_err-byte-clause-full g c =
    let p = err_from_is_err_and c.from_residual.result c.from_residual.ensures.1 in
    rw (p.1, p.2) (c.in_err-byte.ensures.full.0, loading_full c.args.at c.args.block c.args.count c.loop-i.i _ _ _ _ _ c.loop-i.invariant c.loop-i-test.true c.in_err-byte.ensures.full.1 c.in_err-byte.ensures.full.2)
