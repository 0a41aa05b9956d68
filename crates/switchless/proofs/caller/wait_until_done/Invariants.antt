use Rattle.std.proofs.Common.{◌≤◌}
use Rattle.switchless.specs.Tasks.{IsPastHost}
use Rattle.switchless.proofs.WaitLaws.{IsWaiting}
use Rattle.switchless.proofs.caller.wait_until_done.Given as goal

-- the looks so far saw nothing, and took one each
abbrev pub invariant-loop-waits : goal.invariant-loop-waits
invariant-loop-waits g l =
    IsWaiting l.task.slot (g.P.WordPort.state l.fn.port) l.fn.waits (g.P.WordPort.state l.port) l.waits × (l.waits ≤ l.fn.waits) × IsPastHost (g.P.WordPort.state l.port) l.task.slot

abbrev pub decreases-loop-waits : goal.decreases-loop-waits
decreases-loop-waits g l = l.waits
