use Rattle.std.proofs.Common.{◌≤◌, length, drop}
use Rattle.call_machine.proofs.CopiesIn.{IsCopying, marshalled_in}
use Rattle.call_machine.proofs.marshalling.copy_params.Given as goal

-- the copies so far leave those of the parameters that are still to come
abbrev pub invariant-loop-param : goal.invariant-loop-param
invariant-loop-param g l = record {
  copying : IsCopying l.function l.fields l.fn.arena l.arena (g.P.WordPort.state l.fn.port) (g.P.WordPort.state l.port) l.blocks.items (marshalled_in (drop l.param-index l.param-items));
  few : length l.blocks.items ≤ l.param-index;
}
