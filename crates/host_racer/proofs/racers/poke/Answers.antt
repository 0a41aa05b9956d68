use Rattle.call_machine.proofs.Maps.{on_ok_maps, err_maps}
use Rattle.host_racer.proofs.RacerRuns.{poke_made, poke_cut}
use Rattle.host_racer.proofs.racers.poke.Goals as goal

pub returns-clause-ok : goal.returns-clause-ok
returns-clause-ok g c =
    on_ok_maps c.put_range.result _ _ (poke_made _ c.in-At.address c.args.place c.args.bytes.now _ _ c.in-At.is c.requires) c.put_range.ensures.ok

pub returns-clause-full : goal.returns-clause-full
returns-clause-full g c =
    err_maps c.put_range.result _ _ (poke_cut _ c.in-At.address c.args.place c.args.bytes.now _ _ c.in-At.is c.requires) c.put_range.ensures.full
