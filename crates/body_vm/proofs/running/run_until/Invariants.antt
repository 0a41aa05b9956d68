use Rattle.std.proofs.Common.{ℕ, List, ◌≡◌, ◌≤◌, ◌-◌, Option, length}
use Rattle.arrayvec.specs.ArrayVec.{array_vec_len}
use Rattle.body_vm.specs.Places.{IsHeld}
use Rattle.body_vm.specs.Moments.{moment, execution_at, IsOnward}
use Rattle.body_vm.proofs.running.run_until.Given as goal

-- the execution from here is that from the beginning
abbrev pub invariant-loop-action : goal.invariant-loop-action
invariant-loop-action l = record {
  next : l.regs.next ≤ length l.body.actions;
  from : l.initial.regs.next ≤ l.regs.next;
  count : array_vec_len l.blocks ≡ array_vec_len l.initial.blocks;
  on : (numbers : List (Option ℕ)) → IsHeld l.initial.arena l.initial.blocks.items numbers → (later : List (Option ℕ))
      × IsOnward (moment l.initial.regs l.initial.blocks.items l.initial.arena) (moment l.regs l.blocks.items l.arena) numbers later
      × (execution_at l.body.actions l.values.items l.initial.regs l.initial.blocks.items l.initial.arena numbers ≡ execution_at l.body.actions l.values.items l.regs l.blocks.items l.arena later);
}

abbrev pub decreases-loop-action : goal.decreases-loop-action
decreases-loop-action l = length l.body.actions - l.regs.next
