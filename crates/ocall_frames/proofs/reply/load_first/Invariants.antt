use Rattle.ocall_frames.proofs.LoadLaws.{IsLoading}
use Rattle.ocall_frames.proofs.reply.load_first.Given as goal

abbrev pub invariant-loop-i : goal.invariant-loop-i
invariant-loop-i g l = IsLoading l.at l.block l.count l.i (g.P.WordPort.state l.fn.port) (g.P.WordPort.state l.port) l.fn.arena l.arena
