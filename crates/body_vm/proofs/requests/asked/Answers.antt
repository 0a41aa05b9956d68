use Rattle.std.proofs.Common.{List, ◌≡◌, ◌∷◌, ◌∙◌, zero, ap, sym, subst, refl, map, Option}
use Rattle.arrayvec.specs.ArrayVec.{array_vec_len}
use Rattle.enclave_memory.specs.declared.Block.{Block}
use Rattle.word_port.specs.declared.Kind.TheVariants.{Load, Swap, Add as to_add, Cas}
use Rattle.body_vm.specs.declared.Action.{Action}
use Rattle.body_vm.specs.declared.Action.TheVariants.{Cload, Cswap, Cadd, Ccas, Ocall}
use Rattle.body_vm.specs.State.{State, passed_argument}
use Rattle.body_vm.specs.Range.{IsInRange}
use Rattle.body_vm.specs.Execution.{execution_from, returned}
use Rattle.body_vm.specs.Moments.{moment, state_at, handed, IsNeed}
use Rattle.body_vm.proofs.RequestLaws.{need_is, cell_is}
use Rattle.body_vm.proofs.requests.asked.Goals as goal
use Rattle.body_vm.proofs.requests.asked.Goals.{in-Cload, in-Cswap, in-Cadd, in-Ccas, in-Ocall, in-Return}

pub returns : goal.returns
returns c = λ numbers arena rest.
    let s : State = state_at c.args.values.now.items (moment c.args.regs.now c.args.blocks.now.items arena) numbers in
    let blocks : List (Option Block) = c.args.blocks.now.items in
    let range : (a : Action) → c.args.action.now ≡ a → IsInRange (array_vec_len c.args.values.now) (array_vec_len c.args.blocks.now) a = λ a e. subst (λ x. IsInRange (array_vec_len c.args.values.now) (array_vec_len c.args.blocks.now) x) e c.requires in
    elim c.match-action.branch as (λ _. IsNeed c.match-action.result (execution_from s zero (c.args.action.now ∷ rest)) s blocks rest) [
      | in-Cload w ↦ need_is s blocks rest c.match-action.result _ c.args.action.now _ w.result-is w.in-Cload.is (cell_is s blocks rest Load w.in-Cload.cell 0 0 0 0 w.in-Cload.into (range (Cload w.in-Cload.into w.in-Cload.cell) w.in-Cload.is) refl refl)
      | in-Cswap w ↦ need_is s blocks rest c.match-action.result _ c.args.action.now _ w.result-is w.in-Cswap.is (cell_is s blocks rest Swap w.in-Cswap.cell _ 0 _ 0 w.in-Cswap.into (range (Cswap w.in-Cswap.into w.in-Cswap.cell w.in-Cswap.value) w.in-Cswap.is).0 w.number.ensures refl)
      | in-Cadd w ↦ need_is s blocks rest c.match-action.result _ c.args.action.now _ w.result-is w.in-Cadd.is (cell_is s blocks rest to_add w.in-Cadd.cell _ 0 _ 0 w.in-Cadd.into (range (Cadd w.in-Cadd.into w.in-Cadd.cell w.in-Cadd.value) w.in-Cadd.is).0 w.number-in-Cadd.ensures refl)
      | in-Ccas w ↦ need_is s blocks rest c.match-action.result _ c.args.action.now _ w.result-is w.in-Ccas.is (cell_is s blocks rest Cas w.in-Ccas.cell _ _ _ _ w.in-Ccas.into (range (Ccas w.in-Ccas.into w.in-Ccas.cell w.in-Ccas.old w.in-Ccas.new) w.in-Ccas.is).0 w.number-in-Ccas.ensures w.number-in-Ccas-2.ensures)
      | in-Ocall w ↦
          let h : IsInRange (array_vec_len c.args.values.now) (array_vec_len c.args.blocks.now) (Ocall w.in-Ocall.ret w.in-Ocall.status w.in-Ocall.ordinal w.in-Ocall.args) = range _ w.in-Ocall.is in
          need_is s blocks rest c.match-action.result _ c.args.action.now _ w.result-is w.in-Ocall.is
          (h.0, h.1, (map (passed_argument s) w.in-Ocall.args, w.arguments.ensures numbers arena ∙ ap (λ ps. map (handed blocks) (map (passed_argument s) ps)) w.as_slice.ensures, refl))
      | in-Return w ↦ need_is s blocks rest c.match-action.result _ c.args.action.now _ w.result-is w.in-Return.is (ap (λ n. returned n s.blocks) (sym w.number-in-Return.ensures))
    ]
