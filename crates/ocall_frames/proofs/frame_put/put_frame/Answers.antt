use Rattle.std.proofs.Common.{rules, ◌≡◌, ◌<◌, ◌≤◌, ◌+◌, ◌^◌, ◌∙◌, length, sum, ap, sym, subst, arith, IsTrue}
use Rattle.std.proofs.lemmas.Result.{err_from_is_err_and, on_ok_weaker, IfErr-weaker}
use Rattle.sgx_base.specs.Ranges.{is_mapped}
use Rattle.ocall_frames.proofs.PutLaws.{part_mapped, leads_host}
use Rattle.ocall_frames.proofs.WholeLaws.{mapped_fits, frame_made, frame_stops, frame_stops_then}
use Rattle.ocall_frames.proofs.frame_put.put_frame.Goals as goal

pub overflow_add-buffers : goal.overflow_add-buffers
overflow_add-buffers g c =
    let host : (g.P.WordPort.state c.args.port.now).host < 2 ^ 32 = search rules in
    let small : c.args.function.now.frame_size ≤ c.args.function.now.frame_size + sum c.args.lengths.now = omega arith in
    let end : c.args.at + c.args.function.now.frame_size < 2 ^ 64 =
    mapped_fits (g.P.WordPort.state c.args.port.now).host c.args.at (c.args.function.now.frame_size + sum c.args.lengths.now) c.args.function.now.frame_size c.requires.mapped host c.ranges.at.fits small in
    omega (arith, end, c.from.ensures)

pub put_addresses-requires-clause-count : goal.put_addresses-requires-clause-count
put_addresses-requires-clause-count g c = c.requires.lengths ∙ sym c.requires.params

pub put_addresses-requires-clause-fits : goal.put_addresses-requires-clause-fits
put_addresses-requires-clause-fits g c =
    let host : (g.P.WordPort.state c.args.port.now).host < 2 ^ 32 = search rules in
    let all : c.args.function.now.frame_size + sum c.args.lengths.now ≤ c.args.function.now.frame_size + sum c.args.lengths.now = omega arith in
    let end : c.args.at + (c.args.function.now.frame_size + sum c.args.lengths.now) < 2 ^ 64 =
    mapped_fits (g.P.WordPort.state c.args.port.now).host c.args.at (c.args.function.now.frame_size + sum c.args.lengths.now) (c.args.function.now.frame_size + sum c.args.lengths.now) c.requires.mapped host c.ranges.at.fits all in
    omega (arith, end, c.from.ensures)

pub put_range-requires : goal.put_range-requires
put_range-requires g c =
    let size : length c.put_addresses.new.structure ≡ c.args.function.now.frame_size = c.put_addresses.auto.structure ∙ c.requires.size in
    let low : c.args.at ≤ c.args.at = omega arith in
    let high : c.args.at + length c.put_addresses.new.structure ≤ c.args.at + (c.args.function.now.frame_size + sum c.args.lengths.now) = omega (arith, size) in
    record { mapped = part_mapped (g.P.WordPort.state c.args.port.now).host c.args.at (c.args.function.now.frame_size + sum c.args.lengths.now) c.args.at (length c.put_addresses.new.structure) c.requires.mapped low high }

pub returns-in_err-put_range-clause-full : goal.returns-in_err-put_range-clause-full
returns-in_err-put_range-clause-full g c = λ contents are same.
    let p = err_from_is_err_and c.from_residual.result c.from_residual.ensures.1 in
    let size : length c.put_addresses.new.structure ≡ c.args.function.now.frame_size = c.put_addresses.auto.structure ∙ c.requires.size in
    let place : c.args.at + c.from.result ≡ c.args.at + c.args.function.now.frame_size = ap (λ n. c.args.at + n) c.from.ensures in
    rw (p.1, p.2) (
      c.in_err-put_range.ensures.full.0,
      frame_stops c.args.function.now c.args.at (c.args.at + c.from.result) c.args.structure.now c.put_addresses.new.structure contents place (c.put_addresses.ensures contents same) size _ _ c.in_err-put_range.ensures.full.1,
    )

pub put_buffers-requires-clause-mapped : goal.put_buffers-requires-clause-mapped
put_buffers-requires-clause-mapped g c =
    let low : c.args.at ≤ c.args.at + c.from.result = omega arith in
    let high : (c.args.at + c.from.result) + sum c.args.lengths.now ≤ c.args.at + (c.args.function.now.frame_size + sum c.args.lengths.now) = omega (arith, c.from.ensures) in
    subst (λ n. IsTrue (is_mapped n (c.args.at + c.from.result) (sum c.args.lengths.now))) (sym (leads_host _ _ _ _ c.in_ok-put_range.ensures.ok))
    (part_mapped (g.P.WordPort.state c.args.port.now).host c.args.at (c.args.function.now.frame_size + sum c.args.lengths.now) (c.args.at + c.from.result) (sum c.args.lengths.now) c.requires.mapped low high)

pub put_buffers-requires-clause-fits : goal.put_buffers-requires-clause-fits
put_buffers-requires-clause-fits g c =
    let host : (g.P.WordPort.state c.args.port.now).host < 2 ^ 32 = search rules in
    let all : c.args.function.now.frame_size + sum c.args.lengths.now ≤ c.args.function.now.frame_size + sum c.args.lengths.now = omega arith in
    let end : c.args.at + (c.args.function.now.frame_size + sum c.args.lengths.now) < 2 ^ 64 =
    mapped_fits (g.P.WordPort.state c.args.port.now).host c.args.at (c.args.function.now.frame_size + sum c.args.lengths.now) (c.args.function.now.frame_size + sum c.args.lengths.now) c.requires.mapped host c.ranges.at.fits all in
    omega (arith, end, c.from.ensures)

pub returns-clause-ok : goal.returns-clause-ok
returns-clause-ok g c = λ contents are same.
    let size : length c.put_addresses.new.structure ≡ c.args.function.now.frame_size = c.put_addresses.auto.structure ∙ c.requires.size in
    let place : c.args.at + c.from.result ≡ c.args.at + c.args.function.now.frame_size = ap (λ n. c.args.at + n) c.from.ensures in
    on_ok_weaker c.put_buffers.result
    (λ q. frame_made c.args.function.now c.args.at (c.args.at + c.from.result) c.args.structure.now c.put_addresses.new.structure contents place (c.put_addresses.ensures contents same) size _ _ _ c.in_ok-put_range.ensures.ok q)
    (c.put_buffers.ensures.ok contents are same)

pub returns-clause-full : goal.returns-clause-full
returns-clause-full g c = λ contents are same.
    let size : length c.put_addresses.new.structure ≡ c.args.function.now.frame_size = c.put_addresses.auto.structure ∙ c.requires.size in
    let place : c.args.at + c.from.result ≡ c.args.at + c.args.function.now.frame_size = ap (λ n. c.args.at + n) c.from.ensures in
    IfErr-weaker c.put_buffers.result _ _
    (λ full q. (q.0, frame_stops_then c.args.function.now c.args.at (c.args.at + c.from.result) c.args.structure.now c.put_addresses.new.structure contents place (c.put_addresses.ensures contents same) size _ _ _ c.in_ok-put_range.ensures.ok q.1))
    (c.put_buffers.ensures.full contents are same)
