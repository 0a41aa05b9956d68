use Rattle.std.proofs.Common.{arith, ◌<◌, ◌≡◌, ◌*◌, ◌^◌, drop, ap, ◌∙◌}
use Rattle.sgx_base.specs.Bytes.{little_endian}
use Rattle.edl_interface.proofs.BytesLaws.{little_endian_above}
use Rattle.edl_interface.proofs.bytes.checked_little_endian.Goals as goal

pub returns-in_err-checked_mul : goal.returns-in_err-checked_mul
returns-in_err-checked_mul c =
    let above = little_endian_above c.loop-at.at c.args.bytes.now (omega arith) (omega arith) in
    let h : c.loop-at.value * 256 < 2 ^ 64 → ⊥ = c.in_err-checked_mul.ensures in
    let e = c.loop-at.invariant.0 in
    rw c.from_residual.ensures (λ small. h (omega arith))

pub returns : goal.returns
returns c =
    let e : c.loop-at.at ≡ 0 = omega arith in
    let whole : c.loop-at.value ≡ little_endian c.args.bytes.now = c.loop-at.invariant.0 ∙ ap (λ n. little_endian (drop n c.args.bytes.now)) e in
    let small : c.loop-at.value < 2 ^ 64 = c.loop-at.invariant.1 in
    (omega arith, whole)
