use Rattle.std.proofs.Common.{ℕ, zero, List, ◌≡◌, ◌+◌, ◌∷◌, ◌∙◌, refl, ap, sym, subst, drop, arith}
use Rattle.arrayvec.specs.ArrayVec.{array_vec_len}
use Rattle.body_vm.specs.declared.Action.{Action}
use Rattle.body_vm.specs.Execution.{execution_from}
use Rattle.body_vm.specs.Range.{IsInRange}
use Rattle.body_vm.specs.State.{State}
use Rattle.body_vm.specs.Moments.{moment, state_at, execution_at, IsNeed}
use Rattle.body_vm.proofs.PlaceLaws.{kept_same}
use Rattle.body_vm.proofs.RunLaws.{IsAction, action_at, drop_to, nothing_left, onward_then}
use Rattle.body_vm.proofs.running.run_until.Goals as goal

pub loop-action-init : goal.loop-action-init
loop-action-init c = record {
  next = c.requires.next;
  from = omega arith;
  count = refl;
  on = λ numbers held. (numbers, record { held = held; kept = kept_same c.args.arena.now numbers }, refl);
}

pub carry_out-requires-clause-range : goal.carry_out-requires-clause-range
carry_out-requires-clause-range c =
    let at : IsAction (array_vec_len c.args.values.now) (array_vec_len c.args.blocks.now) c.args.body.now.actions c.loop-action.regs.next c.in-Some.action.now = action_at _ _ c.args.body.now.actions c.loop-action.regs.next c.in-Some.action.now c.requires.range (sym c.in-Some.ensures.value) in
    subst (λ n. IsInRange (array_vec_len c.args.values.now) n c.in-Some.action.now) (sym c.loop-action.invariant.count) at.range

pub carry_out-requires-clause-short : goal.carry_out-requires-clause-short
carry_out-requires-clause-short c =
    let at : IsAction (array_vec_len c.args.values.now) (array_vec_len c.args.blocks.now) c.args.body.now.actions c.loop-action.regs.next c.in-Some.action.now = action_at _ _ c.args.body.now.actions c.loop-action.regs.next c.in-Some.action.now c.requires.range (sym c.in-Some.ensures.value) in
    omega (arith, at.skips, c.requires.short)

pub returns-in-Some-carry_out-clause-next : goal.returns-in-Some-carry_out-clause-next
returns-in-Some-carry_out-clause-next c =
    let at : IsAction (array_vec_len c.args.values.now) (array_vec_len c.args.blocks.now) c.args.body.now.actions c.loop-action.regs.next c.in-Some.action.now = action_at _ _ c.args.body.now.actions c.loop-action.regs.next c.in-Some.action.now c.requires.range (sym c.in-Some.ensures.value) in
    omega (arith, at.skips, c.carry_out.ensures.within)

pub returns-in-Some-carry_out-clause-need : goal.returns-in-Some-carry_out-clause-need
returns-in-Some-carry_out-clause-need c = λ numbers held.
    let actions : List Action = c.args.body.now.actions in
    let next : ℕ = c.loop-action.regs.next in
    let at : IsAction (array_vec_len c.args.values.now) (array_vec_len c.args.blocks.now) actions next c.in-Some.action.now = action_at _ _ actions next c.in-Some.action.now c.requires.range (sym c.in-Some.ensures.value) in
    let (later, onward, same) = c.loop-action.invariant.on numbers held in
    let (last, more, need) = c.in-Some-carry_out.ensures.done later onward.held in
    let s : State = state_at c.args.values.now.items (moment c.loop-action.regs c.loop-action.blocks.items c.loop-action.arena) later in
    let t : State = state_at c.args.values.now.items (moment c.carry_out.new.regs c.carry_out.new.blocks.items c.carry_out.new.arena) last in
    let e : execution_at actions c.args.values.now.items c.args.regs.now c.args.blocks.now.items c.args.arena.now numbers ≡ execution_from s zero (c.in-Some.action.now ∷ drop (next + 1) actions) =
    same ∙ ap (λ rest. execution_from s zero rest) at.rest in (
      last,
      onward_then (moment c.args.regs.now c.args.blocks.now.items c.args.arena.now) (moment c.loop-action.regs c.loop-action.blocks.items c.loop-action.arena) (moment c.carry_out.new.regs c.carry_out.new.blocks.items c.carry_out.new.arena) numbers later last onward record { held = more.held; kept = more.kept },
      subst (λ x. IsNeed c.in-Some-carry_out.need x t c.carry_out.new.blocks.items (drop c.carry_out.new.regs.next actions)) (sym e)
          (subst (λ r. IsNeed c.in-Some-carry_out.need (execution_from s zero (c.in-Some.action.now ∷ drop (next + 1) actions)) t c.carry_out.new.blocks.items r)
          (drop_to actions (next + 1) c.carry_out.new.regs.next c.carry_out.ensures.from) (need (drop (next + 1) actions))),
    )

pub loop-action-preserved : goal.loop-action-preserved
loop-action-preserved c =
    let actions : List Action = c.args.body.now.actions in
    let next : ℕ = c.loop-action.regs.next in
    let at : IsAction (array_vec_len c.args.values.now) (array_vec_len c.args.blocks.now) actions next c.in-Some.action.now = action_at _ _ actions next c.in-Some.action.now c.requires.range (sym c.in-Some.ensures.value) in
    record {
      next = omega (arith, at.skips, c.carry_out.ensures.within);
      from = omega (arith, c.loop-action.invariant.from, c.carry_out.ensures.from);
      count = c.carry_out.ensures.count ∙ c.loop-action.invariant.count;
      on = λ numbers held.
          let (later, onward, same) = c.loop-action.invariant.on numbers held in
          let (last, more, step) = c.in_default-carry_out.ensures.done later onward.held in
          let s : State = state_at c.args.values.now.items (moment c.loop-action.regs c.loop-action.blocks.items c.loop-action.arena) later in
          let t : State = state_at c.args.values.now.items (moment c.carry_out.new.regs c.carry_out.new.blocks.items c.carry_out.new.arena) last in (
            last,
            onward_then (moment c.args.regs.now c.args.blocks.now.items c.args.arena.now) (moment c.loop-action.regs c.loop-action.blocks.items c.loop-action.arena) (moment c.carry_out.new.regs c.carry_out.new.blocks.items c.carry_out.new.arena) numbers later last onward record { held = more.held; kept = more.kept },
            same ∙ ap (λ rest. execution_from s zero rest) at.rest ∙ step (drop (next + 1) actions)
                ∙ ap (λ rest. execution_from t zero rest) (drop_to actions (next + 1) c.carry_out.new.regs.next c.carry_out.ensures.from),
          );
    }

pub returns-clause-need : goal.returns-clause-need
returns-clause-need c = λ numbers held.
    let (later, onward, same) = c.loop-action.invariant.on numbers held in
    let s : State = state_at c.args.values.now.items (moment c.loop-action.regs c.loop-action.blocks.items c.loop-action.arena) later in
    (later, onward, same ∙ ap (λ rest. execution_from s zero rest) (nothing_left c.args.body.now.actions c.loop-action.regs.next (sym c.in_default.ensures.value)))
