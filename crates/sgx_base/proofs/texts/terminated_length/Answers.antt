use Rattle.std.proofs.Common.{ℕ, ◌≡◌, ◌+◌, ◌-◌, ◌*◌, List, take, drop, true, sym, ◌∙◌, ap, arith}
use Rattle.sgx_base.specs.Texts.{is_zero_unit}
use Rattle.sgx_base.proofs.Units.{unit_at, found_at, none_found}
use Rattle.sgx_base.proofs.texts.terminated_length.Goals as goal

unit_between : (unit : ℕ) (bytes : List ℕ) (i at end : ℕ) → at ≡ i * unit → end ≡ (i + 1) * unit → take (end - at) (drop at bytes) ≡ unit_at unit bytes i
unit_between unit bytes i at end begins ends =
    let size : end - at ≡ unit = omega arith in
    ap (λ n. take n (drop at bytes)) size ∙ ap (λ n. take unit (drop n bytes)) begins

pub returns-then-is_zero : goal.returns-then-is_zero
returns-then-is_zero c =
    let begins = c.unit_bounds-at.ensures.at in
    let ends = c.unit_bounds-at.ensures.end in
    let same = unit_between c.args.unit c.args.bytes.now c.loop-i.i c.unit_bounds-at.result.0 c.unit_bounds-at.result.1 begins ends in
    let here : is_zero_unit (unit_at c.args.unit c.args.bytes.now c.loop-i.i) ≡ true = sym (ap is_zero_unit same) ∙ sym c.is_zero.ensures ∙ c.if-is_zero.true in
    rw c.unit_bounds-at.ensures.end (found_at c.args.unit c.args.bytes.now c.loop-i.i c.loop-i-test.true c.loop-i.invariant here)

pub returns : goal.returns
returns c = none_found c.args.unit c.args.bytes.now c.loop-i.i c.loop-i-test.false c.loop-i.invariant
