use Rattle.std.proofs.Common.{◌≡◌, List, length}
use Rattle.enclave_memory.specs.Arguments.{ArePassed, Passed}
use Rattle.enclave_memory.specs.Memory.{IsLive, Memory}
use Rattle.runtime_tables.proofs.frames.args_of.Given as goal

-- an argument for each that was given so far
abbrev pub invariant-loop-argument : goal.invariant-loop-argument
invariant-loop-argument l = record {
  count : length l.args.items ≡ l.argument-index;
  passed : (arena : Memory) → IsLive arena l.first → IsLive arena l.second → (passed : List Passed) × ArePassed arena l.args.items passed;
}
