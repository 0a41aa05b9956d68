use Rattle.std.proofs.Common.{ℕ, ◌≡◌, ◌≤◌, List, Option, length}
use Rattle.arrayvec.specs.ArrayVec.{array_vec_len}
use Rattle.body_vm.specs.Places.{IsHeld}
use Rattle.runtime_tables.proofs.bodies.does.Given as goal

-- the body can be carried on
abbrev pub invariant-loop-asks : goal.invariant-loop-asks
invariant-loop-asks l = record {
  next : l.regs.next ≤ length l.body.actions;
  count : array_vec_len l.blocks ≡ 4;
  held : (numbers : List (Option ℕ)) × IsHeld l.arena l.blocks.items numbers;
}
