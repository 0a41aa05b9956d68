use Rattle.std.proofs.Common.{ℕ, ◌+◌, ◌-◌, ◌*◌, drop}
use Rattle.call_script.proofs.HostAct.TheLaws.{the_size}
use Rattle.call_machine.specs.Acts.{acts_from, repeat}
use Rattle.call_machine.specs.HostActs.{actor_at}
use Rattle.call_machine.specs.Tcs.{context_of}
use Rattle.call_machine.proofs.ActRuns.{IsUnderWay}
use Rattle.call_machine.proofs.Depths.{size_of, largest, depth}
use Rattle.std.proofs.Common.{ℕ, ◌≡◌, ◌≤◌, ◌-◌, List, Option, length}
use Rattle.arrayvec.specs.ArrayVec.{array_vec_len}
use Rattle.body_vm.specs.Places.{IsHeld}
use Rattle.call_machine.specs.Tcs.{IsPortOf}
use Rattle.call_machine.proofs.CarriedOut.{GoesOn}
use Rattle.call_machine.proofs.calls.+calls.Given as goal

-- ---- the measure: the entries that the call stack still takes, and then what is left to do

abbrev pub decreases-carry_out : goal.decreases-carry_out
decreases-carry_out g l = depth l.machine.now l.tcs.now.stack (3 * largest l.machine.now + 11)

abbrev pub decreases-ocall : goal.decreases-ocall
decreases-ocall g l = depth l.machine.now l.tcs.now.stack (3 * largest l.machine.now + 10)

abbrev pub decreases-ask_host : goal.decreases-ask_host
decreases-ask_host g l = depth l.machine.now l.tcs.now.stack (3 * largest l.machine.now + 9)

abbrev pub decreases-repeat : goal.decreases-repeat
decreases-repeat g l = depth l.machine.now l.tcs.now.stack (3 * size_of l.acts.now + 6)

abbrev pub decreases-do_acts : goal.decreases-do_acts
decreases-do_acts g l = depth l.machine.now l.tcs.now.stack (3 * size_of l.acts.now + 5)

abbrev pub decreases-do_act : goal.decreases-do_act
decreases-do_act g l = depth l.machine.now l.tcs.now.stack (3 * the_size l.act.now + 4)

abbrev pub decreases-call : goal.decreases-call
decreases-call g l = depth l.machine.now l.tcs.now.stack 3

abbrev pub decreases-ecall : goal.decreases-ecall
decreases-ecall g l = depth l.machine.now l.tcs.now.stack 2

abbrev pub decreases-enter : goal.decreases-enter
decreases-enter g l = depth l.machine.now l.tcs.now.stack 1

-- ---- acts

-- the acts so far leave those that are still to come
abbrev pub invariant-do_acts-loop-act : goal.invariant-do_acts-loop-act
invariant-do_acts-loop-act g l =
    IsUnderWay (acts_from (actor_at l.machine (context_of l.fn.tcs) l.place) l.acts l.fn.status)
    (acts_from (actor_at l.machine (context_of l.fn.tcs) l.place) (drop l.act-index l.acts) l.status)
    (g.P.WordPort.state l.fn.port) (g.P.WordPort.state l.port) l.fn.records l.records l.fn.tcs l.tcs

-- the turns so far leave those that are still to come
abbrev pub invariant-repeat-loop-turn : goal.invariant-repeat-loop-turn
invariant-repeat-loop-turn g l =
    IsUnderWay (repeat l.times (acts_from (actor_at l.machine (context_of l.fn.tcs) l.place) l.acts) l.fn.status)
    (repeat (l.times - l.turn) (acts_from (actor_at l.machine (context_of l.fn.tcs) l.place) l.acts) l.status)
    (g.P.WordPort.state l.fn.port) (g.P.WordPort.state l.port) l.fn.records l.records l.fn.tcs l.tcs

-- ---- bodies

-- the body has come from its beginning to here
abbrev pub invariant-carry_out-loop-value : goal.invariant-carry_out-loop-value
invariant-carry_out-loop-value g l = record {
  next : l.regs.next ≤ length l.body.actions;
  count : array_vec_len l.blocks ≡ array_vec_len l.initial.blocks;
  port : IsPortOf l.machine (g.P.WordPort.state l.port);
  kept : l.tcs ≡ record l.initial.tcs { arena = l.tcs.arena; waits = l.tcs.waits };
  on : (numbers : List (Option ℕ)) → IsHeld l.initial.tcs.arena l.fn.blocks.items numbers
      → GoesOn l.machine l.ordinal l.values.items numbers l.body l.initial.tcs (g.P.WordPort.state l.initial.port) l.initial.records l.regs l.blocks.items (g.P.WordPort.state l.port) l.records l.tcs;
}

abbrev pub decreases-carry_out-loop-value : goal.decreases-carry_out-loop-value
decreases-carry_out-loop-value g l = length l.body.actions - l.regs.next
