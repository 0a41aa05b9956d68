use Rattle.std.proofs.Common.{ℕ, ◌≡◌, List, Option, map, take}
use Rattle.arrayvec.specs.ArrayVec.{array_vec_len}
use Rattle.enclave_memory.specs.Memory.{Memory}
use Rattle.body_vm.specs.State.{passed_argument}
use Rattle.body_vm.specs.Moments.{moment, state_at, handed}
use Rattle.body_vm.proofs.requests.arguments.Given as goal

-- the arguments so far
abbrev pub invariant-loop-pass : goal.invariant-loop-pass
invariant-loop-pass l = record {
  count : array_vec_len l.args ≡ l.pass-index;
  are : (numbers : List (Option ℕ)) (arena : Memory) → l.args.items ≡ map (handed l.blocks.items) (map (passed_argument (state_at l.values.items (moment l.regs l.blocks.items arena) numbers)) (take l.pass-index l.passes));
}
