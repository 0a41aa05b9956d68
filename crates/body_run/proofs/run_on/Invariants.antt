use Rattle.std.proofs.Common.{ℕ, List, ◌≡◌, ◌≤◌, ◌-◌, Option, length}
use Rattle.arrayvec.specs.ArrayVec.{array_vec_len}
use Rattle.word_port.specs.Runs.{Leads}
use Rattle.body_vm.specs.Places.{IsHeld}
use Rattle.body_vm.specs.Moments.{moment, execution_at, IsOnward}
use Rattle.body_run.specs.Cells.{over_cells}
use Rattle.body_run.proofs.run_on.Given as goal

-- the steps so far leave what the body does from here
abbrev pub invariant-loop-kind : goal.invariant-loop-kind
invariant-loop-kind g l = record {
  next : l.regs.next ≤ length l.body.actions;
  from : l.initial.regs.next ≤ l.regs.next;
  count : array_vec_len l.blocks ≡ array_vec_len l.initial.blocks;
  words : (g.P.WordPort.state l.port).words ≡ (g.P.WordPort.state l.initial.port).words;
  host : (g.P.WordPort.state l.port).host ≡ (g.P.WordPort.state l.initial.port).host;
  on : (numbers : List (Option ℕ)) → IsHeld l.initial.arena l.initial.blocks.items numbers → (later : List (Option ℕ))
      × IsOnward (moment l.initial.regs l.initial.blocks.items l.initial.arena) (moment l.regs l.blocks.items l.arena) numbers later
      × Leads (over_cells l.first_word (execution_at l.body.actions l.values.items l.initial.regs l.initial.blocks.items l.initial.arena numbers))
      (g.P.WordPort.state l.initial.port) (g.P.WordPort.state l.port)
      (over_cells l.first_word (execution_at l.body.actions l.values.items l.regs l.blocks.items l.arena later));
}

abbrev pub decreases-loop-kind : goal.decreases-loop-kind
decreases-loop-kind g l = length l.body.actions - l.regs.next
