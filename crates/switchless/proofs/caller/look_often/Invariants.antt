use Rattle.std.proofs.Common.{◌-◌}
use Rattle.word_port.specs.Runs.{Leads}
use Rattle.switchless.specs.Tasks.{IsPastHost}
use Rattle.switchless.specs.Caller.{looks}
use Rattle.switchless.proofs.caller.look_often.Given as goal

-- the looks so far saw nothing, and the others are still to come
abbrev pub invariant-loop : goal.invariant-loop
invariant-loop g l =
    Leads (looks l.task.slot l.retries) (g.P.WordPort.state l.fn.port) (g.P.WordPort.state l.port) (looks l.task.slot (l.retries - l.counter))
    × IsPastHost (g.P.WordPort.state l.port) l.task.slot
