use Rattle.std.proofs.Common.{ℕ, ◌≡◌, ◌+◌, ◌≤◌, List, length, map, drop, sum}
use Rattle.std.specs.Prelude.{flat_map}
use Rattle.word_port.specs.Accesses.{stores}
use Rattle.word_port.specs.Runs.{Leads}
use Rattle.word_port.specs.declared.Side.TheVariants.{Enclave}
use Rattle.ocall_frames.specs.Contents.{AreContents, buffers_with}
use Rattle.ocall_frames.specs.Frames.{shown_content}
use Rattle.ocall_frames.proofs.frame_put.put_buffers.Given as goal

-- the buffers so far leave those that are still to come
abbrev pub invariant-loop-i : goal.invariant-loop-i
invariant-loop-i g l = record {
  low : l.from ≤ l.next;
  total : l.next + sum (drop l.i l.lengths) ≡ l.from + sum l.lengths;
  host : (g.P.WordPort.state l.port).host ≡ (g.P.WordPort.state l.fn.port).host;
  left : (contents : List (List ℕ)) → AreContents l.arena l.function.params l.args contents → l.lengths ≡ map length contents
      → Leads (stores Enclave l.from (flat_map shown_content (buffers_with l.from l.function.params contents))) (g.P.WordPort.state l.fn.port) (g.P.WordPort.state l.port)
      (stores Enclave l.next (flat_map shown_content (buffers_with l.next (drop l.i l.function.params) (drop l.i contents))));
}
