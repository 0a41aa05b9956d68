use Rattle.std.proofs.Common.{rules, ◌≡◌, ◌<◌, ◌≤◌, ◌+◌, ◌^◌, sum, ap, sym, subst, arith, IsTrue}
use Rattle.std.proofs.lemmas.Result.{err_from_is_err_and}
use Rattle.sgx_base.specs.Ranges.{is_mapped}
use Rattle.edl_interface.specs.Parameters.{return_size}
use Rattle.ocall_frames.proofs.PutLaws.{part_mapped, leads_host}
use Rattle.ocall_frames.proofs.WholeLaws.{mapped_fits, reply_made, reply_stops, reply_stops_then}
use Rattle.ocall_frames.proofs.reply.load_reply.Goals as goal

pub overflow_add-buffers : goal.overflow_add-buffers
overflow_add-buffers g c =
    let host : (g.P.WordPort.state c.args.port.now).host < 2 ^ 32 = search rules in
    let all : c.args.function.now.frame_size + sum c.args.lengths.now ≤ c.args.function.now.frame_size + sum c.args.lengths.now = omega arith in
    let end : c.args.at + (c.args.function.now.frame_size + sum c.args.lengths.now) < 2 ^ 64 =
    mapped_fits (g.P.WordPort.state c.args.port.now).host c.args.at (c.args.function.now.frame_size + sum c.args.lengths.now) (c.args.function.now.frame_size + sum c.args.lengths.now) c.requires.mapped host c.ranges.at.fits all in
    omega (arith, end, c.from.ensures)

pub load_return-requires-clause-mapped : goal.load_return-requires-clause-mapped
load_return-requires-clause-mapped g c =
    let low : c.args.at ≤ c.args.at = omega arith in
    let high : c.args.at + return_size c.args.function.now ≤ c.args.at + (c.args.function.now.frame_size + sum c.args.lengths.now) = omega (arith, c.requires.runs.return_fits) in
    part_mapped (g.P.WordPort.state c.args.port.now).host c.args.at (c.args.function.now.frame_size + sum c.args.lengths.now) c.args.at (return_size c.args.function.now) c.requires.mapped low high

pub returns-in_err-value-clause-full : goal.returns-in_err-value-clause-full
returns-in_err-value-clause-full g c = λ passed contents live are same.
    let p = err_from_is_err_and c.from_residual.result c.from_residual.ensures.1 in
    let place : c.args.at + c.from.result ≡ c.args.at + c.args.function.now.frame_size = ap (λ n. c.args.at + n) c.from.ensures in
    rw (p.1, p.2) (
      c.in_err-value.ensures.full.0,
      reply_stops c.args.function.now contents c.args.at (c.args.at + c.from.result) place _ _ c.in_err-value.ensures.full.1,
    )

pub load_buffers-requires-clause-mapped : goal.load_buffers-requires-clause-mapped
load_buffers-requires-clause-mapped g c =
    let (bytes, made, is) = c.in_ok-value.ensures.ok in
    let low : c.args.at ≤ c.args.at + c.from.result = omega arith in
    let high : (c.args.at + c.from.result) + sum c.args.lengths.now ≤ c.args.at + (c.args.function.now.frame_size + sum c.args.lengths.now) = omega (arith, c.from.ensures) in
    subst (λ n. IsTrue (is_mapped n (c.args.at + c.from.result) (sum c.args.lengths.now))) (sym (leads_host _ _ _ _ made))
    (part_mapped (g.P.WordPort.state c.args.port.now).host c.args.at (c.args.function.now.frame_size + sum c.args.lengths.now) (c.args.at + c.from.result) (sum c.args.lengths.now) c.requires.mapped low high)

pub load_buffers-requires-clause-fits : goal.load_buffers-requires-clause-fits
load_buffers-requires-clause-fits g c =
    let host : (g.P.WordPort.state c.args.port.now).host < 2 ^ 32 = search rules in
    let all : c.args.function.now.frame_size + sum c.args.lengths.now ≤ c.args.function.now.frame_size + sum c.args.lengths.now = omega arith in
    let end : c.args.at + (c.args.function.now.frame_size + sum c.args.lengths.now) < 2 ^ 64 =
    mapped_fits (g.P.WordPort.state c.args.port.now).host c.args.at (c.args.function.now.frame_size + sum c.args.lengths.now) (c.args.function.now.frame_size + sum c.args.lengths.now) c.requires.mapped host c.ranges.at.fits all in
    omega (arith, end, c.from.ensures)

pub returns-in_err-load_buffers-clause-full : goal.returns-in_err-load_buffers-clause-full
returns-in_err-load_buffers-clause-full g c = λ passed contents live are same.
    let p = err_from_is_err_and c.from_residual-in_err-load_buffers.result c.from_residual-in_err-load_buffers.ensures.1 in
    let (bytes, made, is) = c.in_ok-value.ensures.ok in
    let stops = c.in_err-load_buffers.ensures.full passed contents live are same in
    let place : c.args.at + c.from.result ≡ c.args.at + c.args.function.now.frame_size = ap (λ n. c.args.at + n) c.from.ensures in
    rw (p.1, p.2) (
      stops.0,
      reply_stops_then c.args.function.now contents c.args.at (c.args.at + c.from.result) place _ _ _ bytes made stops.1,
    )

pub returns-clause-ok : goal.returns-clause-ok
returns-clause-ok g c = λ passed contents live are same.
    let (bytes, made, is) = c.in_ok-value.ensures.ok in
    let (loaded, loads_made, after) = c.in_ok-load_buffers.ensures.ok passed contents live are same in
    let place : c.args.at + c.from.result ≡ c.args.at + c.args.function.now.frame_size = ap (λ n. c.args.at + n) c.from.ensures in
    (_, reply_made c.args.function.now contents c.args.at (c.args.at + c.from.result) place _ _ _ bytes loaded made loads_made, is, after)
