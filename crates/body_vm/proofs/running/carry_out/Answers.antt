use Rattle.std.proofs.Common.{◌≡◌, ◌+◌, ◌-◌, ◌∷◌, ◌∙◌, zero, ap, sym, subst, refl, drop, arith}
use Rattle.body_vm.specs.declared.Regs.{Regs}
use Rattle.body_vm.specs.State.{State, with_register}
use Rattle.body_vm.specs.Execution.{execution_from}
use Rattle.body_vm.specs.Moments.{moment, state_at, IsNeed}
use Rattle.body_vm.specs.Steps.{skipped as skipped_in}
use Rattle.body_vm.proofs.PlaceLaws.{kept_same}
use Rattle.body_vm.proofs.StepLaws.{computed_step, changed_step}
use Rattle.body_vm.proofs.RequestLaws.{drop_none}
use Rattle.body_vm.proofs.running.carry_out.Goals as goal

pub returns-in-Some-clause-done : goal.returns-in-Some-clause-done
returns-in-Some-clause-done c = λ numbers held.
    let s : State = state_at c.args.values.now.items (moment c.args.regs.now c.args.blocks.now.items c.args.arena.now) numbers in (
      numbers,
      record { held = held; kept = kept_same c.args.arena.now numbers },
      λ rest.
          let n : c.answer.new.regs.next ≡ c.args.regs.now.next = ap (λ (r : Regs). r.next) c.answer.ensures in
          let t : with_register s c.in-Some.into c.in-Some.value ≡ state_at c.args.values.now.items (moment c.answer.new.regs c.args.blocks.now.items c.args.arena.now) numbers =
          ap (λ (r : Regs). state_at c.args.values.now.items (moment r c.args.blocks.now.items c.args.arena.now) numbers) (sym c.answer.ensures) in
          computed_step s c.args.action.now rest (c.in-Some.into, c.in-Some.value) (sym (c.in-Some.ensures.value numbers held))
          ∙ ap (λ u. execution_from u zero rest) t
          ∙ ap (λ r. execution_from (state_at c.args.values.now.items (moment c.answer.new.regs c.args.blocks.now.items c.args.arena.now) numbers) zero r) (sym (drop_none c.answer.new.regs.next c.args.regs.now.next rest n)),
    )

pub returns-in-Some-asked-clause-done : goal.returns-in-Some-asked-clause-done
returns-in-Some-asked-clause-done c = λ numbers held. (
  numbers,
  record { held = held; kept = kept_same c.args.arena.now numbers },
  λ rest.
      let s : State = state_at c.args.values.now.items (moment c.args.regs.now c.args.blocks.now.items c.args.arena.now) numbers in
      subst (λ r. IsNeed c.in-Some-asked.need (execution_from s zero (c.args.action.now ∷ rest)) s c.args.blocks.now.items r) (sym (drop_none c.args.regs.now.next c.args.regs.now.next rest refl))
      (c.in-Some-asked.ensures numbers c.args.arena.now rest),
)

pub returns-clause-done : goal.returns-clause-done
returns-clause-done c = λ numbers held.
    let s : State = state_at c.args.values.now.items (moment c.args.regs.now c.args.blocks.now.items c.args.arena.now) numbers in
    let (later, onward, state) = c.change.ensures.changed numbers held in (
      later,
      onward,
      λ rest.
          let n : skipped_in s c.args.action.now ≡ (c.args.regs.now.next + c.skipped.result) - c.args.regs.now.next = omega (arith, c.skipped.ensures.count s refl) in
          changed_step s c.args.action.now rest (sym (c.in_default.ensures.value numbers held)) (c.in_default-asked.ensures numbers c.args.arena.now rest)
          ∙ ap (λ t. execution_from t zero (drop (skipped_in s c.args.action.now) rest)) (sym state)
          ∙ ap (λ k. execution_from (state_at c.args.values.now.items (moment c.args.regs.now c.change.new.blocks.items c.change.new.arena) later) zero (drop k rest)) n,
    )
