use Rattle.std.proofs.Common.{ℕ, ◌≡◌, ◌+◌, List, length, map, drop, sum}
use Rattle.ocall_frames.specs.Contents.{addressed, buffers_with}
use Rattle.ocall_frames.proofs.frame_put.put_addresses.Given as goal

-- the addresses that are still to come make the structure
abbrev pub invariant-loop-i : goal.invariant-loop-i
invariant-loop-i l = record {
  total : l.next + sum (drop l.i l.lengths) ≡ l.from + sum l.lengths;
  left : (contents : List (List ℕ)) → l.lengths ≡ map length contents
      → addressed l.structure (buffers_with l.next (drop l.i l.fn.function.params) (drop l.i contents)) ≡ addressed l.fn.structure (buffers_with l.from l.fn.function.params contents);
}
