use Rattle.call_machine.proofs.Maps.{on_ok_maps, err_maps}
use Rattle.call_machine.proofs.Pokes.{peek_found, peek_stopped}
use Rattle.call_machine.proofs.acts.peek_byte.Goals as goal

pub returns-clause-ok : goal.returns-clause-ok
returns-clause-ok g c =
    on_ok_maps c.load_bytes.result _ _
    (λ made. peek_found c.args.side (g.P.WordPort.state c.args.port.now).host c.host.result c.args.at c.args.past c.from.result c.in-Some.address _ _ _
    c.in-Some.ensures.0 c.from.ensures c.host.ensures.count c.in-Some.ensures.1 made)
    c.load_bytes.ensures.ok

pub returns-clause-full : goal.returns-clause-full
returns-clause-full g c =
    err_maps c.load_bytes.result _ _
    (λ full cut. (
      cut.0,
      peek_stopped c.args.side (g.P.WordPort.state c.args.port.now).host c.host.result c.args.at c.args.past c.from.result c.in-Some.address _ _
          c.in-Some.ensures.0 c.from.ensures c.host.ensures.count c.in-Some.ensures.1 cut.1,
    ))
    c.load_bytes.ensures.full
