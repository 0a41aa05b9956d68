use Rattle.edl_imports.proofs.Tables.{table_turn}
use Rattle.edl_imports.proofs.offers.table_of.Goals as goal

pub loop-pick-preserved : goal.loop-pick-preserved
loop-pick-preserved c =
    table_turn c.loop-pick.table c.insert.new.self c.args.picks.now c.loop-pick.pick-index _ c.loop-pick-test.true c.in_ok-insert.ensures.updates.0 c.loop-pick.invariant
