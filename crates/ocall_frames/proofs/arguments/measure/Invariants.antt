use Rattle.std.proofs.Common.{◌≡◌, ◌≤◌, List, length, drop, zip, All}
use Rattle.enclave_memory.specs.Arguments.{Argument}
use Rattle.ocall_frames.specs.Contents.{AreArguments, measured}
use Rattle.ocall_frames.proofs.ArgumentLaws.{with_done}
use Rattle.ocall_frames.proofs.arguments.measure.Given as goal

-- the lengths so far, and those of the arguments that are left
abbrev pub invariant-loop-i : goal.invariant-loop-i
invariant-loop-i l = record {
  lengths : (arguments : List Argument) → AreArguments l.arena l.args arguments
      → measured l.function l.structure (zip l.function.params arguments)
      ≡ with_done l.lengths.items (measured l.function l.structure (drop l.i (zip l.function.params arguments)));
  few : length l.lengths.items ≤ l.i;
  bounded : All (λ n. n ≤ 65536) l.lengths.items;
}
