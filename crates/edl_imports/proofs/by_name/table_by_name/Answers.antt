use Rattle.edl_imports.proofs.ByName.{names_turn}
use Rattle.edl_imports.proofs.by_name.table_by_name.Goals as goal

pub loop-pick-preserved : goal.loop-pick-preserved
loop-pick-preserved c =
    names_turn c.args.files.now c.args.is_trusted c.put_called.new.table c.args.picks.now c.loop-pick.pick-index _ c.loop-pick-test.true (c.in_ok-put_called.ensures _ c.loop-pick.invariant)
