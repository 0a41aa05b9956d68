-- Requests are those of the execution.
use Rattle.std.proofs.Common.{ℕ, zero, ◌-◌, ◌≡◌, ◌<◌, List, ◌∷◌, drop, Option, ap, sym, ◌∙◌, subst, arith}
use Rattle.word_port.specs.declared.Kind.{Kind}
use Rattle.enclave_memory.specs.declared.Block.{Block}
use Rattle.body_vm.specs.declared.Action.{Action}
use Rattle.body_vm.specs.declared.Need.{Need}
use Rattle.body_vm.specs.declared.Need.TheVariants.{Cell}
use Rattle.body_vm.specs.State.{State, with_register}
use Rattle.body_vm.specs.Execution.{on_cell, execution_from, on_cell_into}
use Rattle.body_vm.specs.Moments.{IsNeed}

-- a need that is this one, of an action that is this one
pub need_is : (s : State) (blocks : List (Option Block)) (rest : List Action) (need want : Need) (action this : Action) → need ≡ want → action ≡ this
    → IsNeed want (execution_from s zero (this ∷ rest)) s blocks rest → IsNeed need (execution_from s zero (action ∷ rest)) s blocks rest
need_is s blocks rest need want action this e f h =
    subst (λ n. IsNeed n (execution_from s zero (action ∷ rest)) s blocks rest) (sym e) (subst (λ a. IsNeed want (execution_from s zero (a ∷ rest)) s blocks rest) (sym f) h)

-- a step on a cell with these numbers
pub cell_is : (s : State) (blocks : List (Option Block)) (rest : List Action) (kind : Kind) (cell first second n m into : ℕ) → into < 8 → n ≡ first → m ≡ second
    → IsNeed (Cell kind cell n m into) (on_cell_into s into kind cell first second (λ t. execution_from t zero rest)) s blocks rest
cell_is s blocks rest kind cell first second n m into h e f = (
  h,
  ap (λ x. on_cell (record { kind = kind; cell = cell; first = x; second = second }) (λ old. execution_from (with_register s into old) zero rest)) (sym e)
      ∙ ap (λ x. on_cell (record { kind = kind; cell = cell; first = n; second = x }) (λ old. execution_from (with_register s into old) zero rest)) (sym f),
)

pub drop_none : (n m : ℕ) (rest : List Action) → n ≡ m → drop (n - m) rest ≡ rest
drop_none n m rest e = let z : n - m ≡ 0 = omega (arith, e) in ap (λ k. drop k rest) z
