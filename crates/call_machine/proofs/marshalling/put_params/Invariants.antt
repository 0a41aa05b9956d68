use Rattle.std.proofs.Common.{◌≡◌, length, take, drop}
use Rattle.call_machine.proofs.CopiesBack.{IsPutting}
use Rattle.call_machine.proofs.CopiesIn.{marshalled_in}
use Rattle.call_machine.proofs.marshalling.put_params.Given as goal

-- the stores so far leave those of the parameters that are still to come
abbrev pub invariant-loop-param : goal.invariant-loop-param
invariant-loop-param g l = record {
  putting : IsPutting l.function l.fields l.arena l.blocks (g.P.WordPort.state l.fn.port) (g.P.WordPort.state l.port) l.place (marshalled_in (drop l.param-index l.param-items));
  place : l.place ≡ length (marshalled_in (take l.param-index l.param-items));
}
