use Rattle.std.proofs.Common.{ℕ, ◌≡◌, ◌+◌, ◌≤◌, List, length, map, drop, sum}
use Rattle.enclave_memory.specs.Arguments.{Passed, ArePassed}
use Rattle.ocall_frames.specs.Contents.{AreContents}
use Rattle.ocall_frames.specs.Replies.{KeepsBlocks}
use Rattle.ocall_frames.proofs.ReplyLaws.{IsReading}
use Rattle.ocall_frames.proofs.reply.load_buffers.Given as goal

-- what came back so far, and the buffers that are still to come
abbrev pub invariant-loop-i : goal.invariant-loop-i
invariant-loop-i g l = record {
  low : l.from ≤ l.next;
  total : l.next + sum (drop l.i l.lengths) ≡ l.from + sum l.lengths;
  host : (g.P.WordPort.state l.port).host ≡ (g.P.WordPort.state l.fn.port).host;
  keeps : KeepsBlocks l.fn.arena l.arena;
  reading : (passed : List Passed) (contents : List (List ℕ)) → ArePassed l.fn.arena l.args passed → AreContents l.fn.arena l.function.params l.args contents → l.lengths ≡ map length contents
      → IsReading l.fn.arena l.arena l.function.params passed contents l.from l.next l.i (g.P.WordPort.state l.fn.port) (g.P.WordPort.state l.port);
}
