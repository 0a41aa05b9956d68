use Rattle.std.proofs.Common.{arith, rules, ◌≡◌, ◌-◌, ◌∙◌, suc, refl}
use Rattle.std.proofs.lemmas.Result.{IfOk-weaker}
use Rattle.script_lines.specs.Lines.{line_of}
use Rattle.script_blocks.specs.Acts.{Fits, lines_of, acts_to, act_there}
use Rattle.script_blocks.proofs.LineLaws.{stops, ends, first_holds, first_placed}
use Rattle.script_blocks.proofs.ActLaws.{repeated, no_depth, acts_step, whole}
use Rattle.script_blocks.proofs.acts.+acts.Goals as goal

pub act_there-returns-in_default : goal.act_there-returns-in_default
unfolding act_there
act_there-returns-in_default t c =
    IfOk-weaker c.act_of.result _ _
    (λ act are. are (acts_to c.args.source.now.interface.now (lines_of c.args.source.now) c.args.depth)
    c.args.here.now.number c.in_default.ensures)
    c.act_of.ensures

pub act_there-returns : goal.act_there-returns
unfolding act_there
act_there-returns t c = rw (c.in-Some.ensures, c.number_of.ensures, c.in_ok-acts_to.ensures) refl

pub acts_to-returns-then-depth-eq0 : goal.acts_to-returns-then-depth-eq0
acts_to-returns-then-depth-eq0 t c =
    c.new-acts.ensures
    ∙ no_depth c.args.source.now.interface.now (lines_of c.args.source.now) c.args.depth c.args.home c.if-depth-eq0.true

pub acts_to-push_own-requires : goal.acts_to-push_own-requires
acts_to-push_own-requires t c =
    let fits = first_holds c.loop-left.left.now c.here-item.result c.in-len1-up.len_at_least c.here-item.is Fits c.loop-left.invariant.fits in
    let placed = first_placed c.loop-left.left.now c.here-item.result c.in-len1-up.len_at_least c.here-item.is (lines_of c.args.source.now) c.loop-left.invariant.placed in
    (search rules, (c.requires.good, (fits.0, (fits.1, (placed.1, placed.0)))))

pub acts_to-returns-then-here-home : goal.acts_to-returns-then-here-home
acts_to-returns-then-here-home t c =
    let above : c.args.depth ≡ suc (c.args.depth - 1) = omega (arith, c.if-depth-eq0.false) in
    whole c.args.source.now.interface.now (lines_of c.args.source.now) (c.args.depth - 1) c.args.home _ _ _ _ above
    (stops c.loop-left.left.now c.here-item.result c.in-len1-up.len_at_least c.here-item.is c.args.home
    c.if-here-home.true)
    c.requires.whole c.loop-left.invariant.rest

pub acts_to-loop-left-preserved : goal.acts_to-loop-left-preserved
acts_to-loop-left-preserved t c =
    let fits = first_holds c.loop-left.left.now c.here-item.result c.in-len1-up.len_at_least c.here-item.is Fits c.loop-left.invariant.fits in
    let placed = first_placed c.loop-left.left.now c.here-item.result c.in-len1-up.len_at_least c.here-item.is (lines_of c.args.source.now) c.loop-left.invariant.placed in
    record {
      rest =
          acts_step c.args.source.now.interface.now (lines_of c.args.source.now) (c.args.depth - 1) c.args.home
          c.loop-left.left.now c.here-item.result c.in-len1-up.len_at_least c.here-item.is c.if-here-home.false _ _ _
          c.in_ok-push_own.ensures c.loop-left.invariant.rest;
      fits = fits.1;
      placed = placed.1;
    }

pub acts_to-returns : goal.acts_to-returns
acts_to-returns t c =
    let above : c.args.depth ≡ suc (c.args.depth - 1) = omega (arith, c.if-depth-eq0.false) in
    whole c.args.source.now.interface.now (lines_of c.args.source.now) (c.args.depth - 1) c.args.home _ _ _ _ above
    (ends c.args.home c.loop-left.left.now c.in_default.len_below) c.requires.whole c.loop-left.invariant.rest
