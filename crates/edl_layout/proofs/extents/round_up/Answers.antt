use Rattle.std.proofs.Common.{◌<◌, ◌%◌, ◌≡◌, ap, sym, ◌∙◌, arith}
use Rattle.edl_layout.specs.Ends.{kept}
use Rattle.edl_layout.proofs.Kept.{kept-small}
use Rattle.edl_layout.proofs.Rounding.{round_up-multiple, round_up-over}
use Rattle.edl_layout.proofs.extents.round_up.Goals as goal

pub returns-then-over-eq0 : goal.returns-then-over-eq0
returns-then-over-eq0 c =
    let whole : c.args.place % c.args.align ≡ 0 = ap (λ a. c.args.place % a) (sym c.from-align.ensures) ∙ c.if-over-eq0.true in
    sym (ap kept (round_up-multiple c.args.place c.args.align (omega arith) whole) ∙ kept-small c.args.place c.ranges.place.fits)

pub returns-else-over-eq0 : goal.returns-else-over-eq0
returns-else-over-eq0 c =
    let pos : 0 < c.args.align = omega arith in
    let same : c.args.place % c.from-align.result ≡ c.args.place % c.args.align = ap (λ a. c.args.place % a) c.from-align.ensures in
    let over : 0 < c.args.place % c.args.align = omega arith in
    rw (round_up-over c.args.place c.args.align over pos) (omega arith)
