use Rattle.std.proofs.Common.{ℕ, List, ◌∙◌, ap, sym, sum, length, slice_index, Some}
use Rattle.body_vm.specs.State.{State, block}
use Rattle.body_vm.specs.Moments.{moment, state_at}
use Rattle.body_vm.specs.Steps.{computed as computed_in}
use Rattle.body_vm.proofs.actions.computed.Goals as goal

pub returns-in-Len-clause-value : goal.returns-in-Len-clause-value
returns-in-Len-clause-value c = λ numbers held.
    let s : State = state_at c.args.values.now.items (moment c.args.regs.now c.args.blocks.now.items c.args.arena.now) numbers in
    ap (λ (bytes : List ℕ). Some (c.in-Len.into, length bytes)) (c.bytes_of.ensures.bytes numbers held) ∙ ap (λ a. computed_in s a) (sym c.in-Len.is)

pub returns-in-Sum-clause-value : goal.returns-in-Sum-clause-value
returns-in-Sum-clause-value c = λ numbers held.
    let s : State = state_at c.args.values.now.items (moment c.args.regs.now c.args.blocks.now.items c.args.arena.now) numbers in
    ap (λ (n : ℕ). Some (c.in-Sum.into, n)) (c.sum_of.ensures ∙ ap (λ bytes. sum bytes) (c.bytes_of-in-Sum.ensures.bytes numbers held)) ∙ ap (λ a. computed_in s a) (sym c.in-Sum.is)

pub returns-in-Get-clause-value : goal.returns-in-Get-clause-value
returns-in-Get-clause-value c = λ numbers held.
    let s : State = state_at c.args.values.now.items (moment c.args.regs.now c.args.blocks.now.items c.args.arena.now) numbers in
    ap (λ (n : ℕ). Some (c.in-Get.into, n))
    (c.byte_at.ensures ∙ ap (λ bytes. slice_index bytes c.number-in-Get.result) (c.bytes_of-in-Get.ensures.bytes numbers held)
    ∙ ap (λ n. slice_index (block s c.in-Get.place) n) c.number-in-Get.ensures)
    ∙ ap (λ a. computed_in s a) (sym c.in-Get.is)
