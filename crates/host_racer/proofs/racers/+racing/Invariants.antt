use Rattle.std.proofs.Common.{◌-◌, drop}
use Rattle.sgx_base.specs.declared.TheConstants.Status.{SUCCESS}
use Rattle.word_port.specs.Runs.{Leads}
use Rattle.call_machine.specs.Acts.{acts_from, repeat}
use Rattle.host_racer.specs.Racing.{racer}
use Rattle.host_racer.proofs.racers.+racing.Given as goal

-- the turns so far leave those that are still to come
abbrev pub invariant-repeat-loop-turn : goal.invariant-repeat-loop-turn
invariant-repeat-loop-turn g l =
    Leads (repeat l.times (acts_from (racer (g.P.WordPort.state l.fn.port).host) l.acts) SUCCESS)
    (g.P.WordPort.state l.fn.port) (g.P.WordPort.state l.port)
    (repeat (l.times - l._turn) (acts_from (racer (g.P.WordPort.state l.fn.port).host) l.acts) SUCCESS)

-- the acts so far leave those that are still to come
abbrev pub invariant-run_racer-loop-act : goal.invariant-run_racer-loop-act
invariant-run_racer-loop-act g l =
    Leads (acts_from (racer (g.P.WordPort.state l.fn.port).host) l.acts SUCCESS)
    (g.P.WordPort.state l.fn.port) (g.P.WordPort.state l.port)
    (acts_from (racer (g.P.WordPort.state l.fn.port).host) (drop l.act-index l.acts) SUCCESS)
