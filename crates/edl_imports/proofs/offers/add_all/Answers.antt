use Rattle.edl_imports.proofs.Tables.{join_turn}
use Rattle.edl_imports.proofs.offers.add_all.Goals as goal

pub loop-pick-preserved : goal.loop-pick-preserved
loop-pick-preserved c = λ told.
    let before = c.loop-pick.invariant told in
    let put = c.in_ok-add.ensures before.1 in
    (join_turn c.loop-pick.picks c.add.new.picks c.args.picks.now c.args.more.now c.loop-pick.pick-index _ c.loop-pick-test.true put.0 before.0, put.1)
