use Rattle.std.proofs.Common.{◌≡◌, List, drop, zip}
use Rattle.enclave_memory.specs.Arguments.{Argument}
use Rattle.enclave_memory.specs.Memory.{Memory}
use Rattle.ocall_frames.specs.Contents.{AreArguments}
use Rattle.ocall_frames.specs.Frames.{numbers_structure}
use Rattle.ocall_frames.proofs.ArgumentLaws.{numbers_from}
use Rattle.ocall_frames.proofs.arguments.put_numbers.Given as goal

-- the numbers that are still to come make the structure
abbrev pub invariant-loop-i : goal.invariant-loop-i
invariant-loop-i l =
    (m : Memory) (arguments : List Argument) → AreArguments m l.args arguments
    → numbers_from l.structure (drop l.i (zip l.fn.function.params arguments)) ≡ numbers_structure l.fn.function arguments
