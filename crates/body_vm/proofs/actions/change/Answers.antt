use Rattle.std.proofs.Common.{ℕ, List, ◌∙◌, ap, sym, refl, Option}
use Rattle.body_vm.specs.State.{State, overlay, block}
use Rattle.enclave_memory.specs.Memory.{room_of}
use Rattle.body_vm.specs.declared.Action.TheVariants.{Copy}
use Rattle.body_vm.specs.Places.{IsChanged}
use Rattle.body_vm.specs.Moments.{moment, state_at, IsBegun}
use Rattle.body_vm.specs.Steps.{changed}
use Rattle.body_vm.proofs.PlaceLaws.{kept_same}
use Rattle.body_vm.proofs.StepLaws.{not_changed}
use Rattle.body_vm.proofs.actions.change.Goals as goal

pub returns-in-Copy-clause-changed : goal.returns-in-Copy-clause-changed
returns-in-Copy-clause-changed c = λ numbers held.
    let s : State = state_at c.args.values.now.items (moment c.args.regs.now c.args.blocks.now.items c.args.arena.now) numbers in
    let w : IsChanged c.args.arena.now c.copy.new.arena c.args.blocks.now.items numbers c.in-Copy.place (λ bytes. overlay bytes (block s c.in-Copy.source)) = c.copy.ensures numbers held in (
      numbers,
      record { held = w.held; kept = w.kept },
      ap (λ (bs : List (Option (List ℕ))). record s { blocks = bs; room = room_of c.copy.new.arena }) w.blocks_are
          ∙ ap (λ (r : ℕ). record (changed s (Copy c.in-Copy.place c.in-Copy.source)) { room = r }) w.room
          ∙ ap (λ a. changed s a) (sym c.in-Copy.is),
    )

pub returns-in-Temp-clause-changed : goal.returns-in-Temp-clause-changed
returns-in-Temp-clause-changed c = λ numbers held.
    let s : State = state_at c.args.values.now.items (moment c.args.regs.now c.args.blocks.now.items c.args.arena.now) numbers in
    let b : IsBegun c.args.arena.now c.begin.new.arena c.begin.new.blocks.items numbers c.in-Temp.place c.in-Temp.length = c.begin.ensures.begun numbers held in
    (b.later, record { held = b.held; kept = b.kept }, b.state s.registers s.values ∙ ap (λ a. changed s a) (sym c.in-Temp.is))

pub returns-in_default : goal.returns-in_default
returns-in_default c = record {
  changed = λ numbers held.
      let s : State = state_at c.args.values.now.items (moment c.args.regs.now c.args.blocks.now.items c.args.arena.now) numbers in
      (numbers, record { held = held; kept = kept_same c.args.arena.now numbers }, sym (not_changed s c.args.action.now c.in_default.not-Put c.in_default.not-Fill c.in_default.not-Copy c.in_default.not-Temp));
  count = refl;
}
