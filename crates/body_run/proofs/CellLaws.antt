-- What a body's step on a cell is, and how the steps on cells lead on.
use Rattle.std.proofs.Common.{ℕ, zero, suc, ◌≡◌, ◌<◌, List, [], ◌∷◌, Option, refl, sym, subst, drop}
use Rattle.word_port.specs.Port.{PortState, with_steps, IsFull}
use Rattle.word_port.specs.Requests.{step_of}
use Rattle.word_port.specs.Interaction.{ret}
use Rattle.word_port.specs.Runs.{Leads, StopsFull}
use Rattle.word_port.proofs.Laws.{leads_on}
use Rattle.enclave_memory.specs.declared.Block.{Block}
use Rattle.body_vm.specs.declared.Action.{Action}
use Rattle.body_vm.specs.declared.Action.TheVariants.{Set, Add, Sub, Mul, And, Or, Xor, Len, Sum, Get, Put, Fill, Copy, Temp, Cload, Cswap, Cadd, Ccas, Ocall, Skipz, Skipnz, Return}
use Rattle.body_vm.specs.Execution.{Execution, CellRequest, returned, on_cell, on_ocall, execution_from}
use Rattle.body_vm.specs.State.{State}
use Rattle.body_vm.specs.Moments.{IsNeed}
use Rattle.body_run.specs.declared.Pause.{Pause}
use Rattle.body_run.specs.declared.Pause.TheVariants as pause_of
use Rattle.body_run.specs.Running.{Pauses, need_of}
use Rattle.body_run.specs.Cells.{cell_step, over_cells, HaveCells, AreUsed}

-- a step on one of so many cells, which uses its numbers
pub record IsCellStep (count : ℕ) (q : CellRequest) : Type 0 where
  pub within : q.cell < count
  pub used : AreUsed q.kind q.first q.second

abbrev BeginsWithin : ℕ → Execution → Type 0
BeginsWithin count (returned value blocks) = Unit {0}
BeginsWithin count (on_cell q next) = IsCellStep count q
BeginsWithin count (on_ocall q next) = Unit {0}

begins_within : (count skip : ℕ) (actions : List Action) (s : State) → HaveCells count actions → BeginsWithin count (execution_from s skip actions)
begins_within count skip [] s h = tt
begins_within count (suc skip) (action ∷ rest) s h = begins_within count skip rest s h.1
begins_within count zero (Set r v ∷ rest) s h = begins_within count zero rest _ h.1
begins_within count zero (Add r v ∷ rest) s h = begins_within count zero rest _ h.1
begins_within count zero (Sub r v ∷ rest) s h = begins_within count zero rest _ h.1
begins_within count zero (Mul r v ∷ rest) s h = begins_within count zero rest _ h.1
begins_within count zero (And r v ∷ rest) s h = begins_within count zero rest _ h.1
begins_within count zero (Or r v ∷ rest) s h = begins_within count zero rest _ h.1
begins_within count zero (Xor r v ∷ rest) s h = begins_within count zero rest _ h.1
begins_within count zero (Len r b ∷ rest) s h = begins_within count zero rest _ h.1
begins_within count zero (Sum r b ∷ rest) s h = begins_within count zero rest _ h.1
begins_within count zero (Get r b v ∷ rest) s h = begins_within count zero rest _ h.1
begins_within count zero (Put b v w ∷ rest) s h = begins_within count zero rest _ h.1
begins_within count zero (Fill b v ∷ rest) s h = begins_within count zero rest _ h.1
begins_within count zero (Copy b c ∷ rest) s h = begins_within count zero rest _ h.1
begins_within count zero (Temp b n ∷ rest) s h = begins_within count zero rest _ h.1
begins_within count zero (Cload r cell ∷ rest) s h = record { within = h.0; used = (refl, refl) }
begins_within count zero (Cswap r cell v ∷ rest) s h = record { within = h.0; used = refl }
begins_within count zero (Cadd r cell v ∷ rest) s h = record { within = h.0; used = refl }
begins_within count zero (Ccas r cell v w ∷ rest) s h = record { within = h.0; used = tt }
begins_within count zero (Ocall result status ordinal args ∷ rest) s h = tt
begins_within count zero (Skipz r n ∷ rest) s h = begins_within count _ rest s h.1
begins_within count zero (Skipnz r n ∷ rest) s h = begins_within count _ rest s h.1
begins_within count zero (Return v ∷ rest) s h = tt

pub have_cells_behind : (count n : ℕ) (actions : List Action) → HaveCells count actions → HaveCells count (drop n actions)
have_cells_behind count zero actions h = h
have_cells_behind count (suc n) [] h = tt
have_cells_behind count (suc n) (a ∷ actions) h = have_cells_behind count n actions h.1

-- a body that asks for a step on a cell asks for one of its cells
pub cell_within : (count n : ℕ) (actions : List Action) (s : State) (q : CellRequest) (next : ℕ → Execution)
    → HaveCells count actions → execution_from s zero (drop n actions) ≡ on_cell q next → IsCellStep count q
cell_within count n actions s q next h e =
    subst (λ x. BeginsWithin count x) e (begins_within count zero (drop n actions) s (have_cells_behind count n actions h))

-- one step on a cell leads on to what the body does with its answer
pub cell_on : (first found : ℕ) (begun e : Execution) (q : CellRequest) (next : ℕ → Execution) (old mid new : PortState)
    → Leads (over_cells first begun) old mid (over_cells first e) → e ≡ on_cell q next
    → new ≡ with_steps mid (step_of (cell_step first q) found ∷ [])
    → Leads (over_cells first begun) old new (over_cells first (next found))
cell_on first found begun e q next old mid new led is grown =
    leads_on (over_cells first begun) (over_cells first (on_cell q next)) (over_cells first (next found)) old mid new
    (subst (λ x. Leads (over_cells first begun) old mid (over_cells first x)) is led)
    record { steps = step_of (cell_step first q) found ∷ []; grown = grown; after = (refl, refl) }

-- a step on a cell that is wanted, where the log is full
pub cell_full : (first : ℕ) (begun e : Execution) (q : CellRequest) (next : ℕ → Execution) (old mid : PortState)
    → Leads (over_cells first begun) old mid (over_cells first e) → e ≡ on_cell q next → IsFull mid
    → StopsFull (over_cells first begun) old mid
cell_full first begun e q next old mid led is full =
    let wants : Leads (over_cells first begun) old mid (over_cells first (on_cell q next)) =
    subst (λ x. Leads (over_cells first begun) old mid (over_cells first x)) is led in
    record {
      steps = wants.steps;
      grown = wants.grown;
      rest = over_cells first (on_cell q next);
      after = wants.after;
      wants = tt;
      full = full;
    }

-- a body that asks for no step on a cell pauses
pub pauses_at : (first : ℕ) (begun e : Execution) (old new : PortState) (pause : Pause) (s : State) (blocks : List (Option Block)) (rest : List Action)
    → Leads (over_cells first begun) old new (over_cells first e) → IsNeed (need_of pause) e s blocks rest
    → Pauses first begun old new pause s blocks rest
pauses_at first begun e old new (pause_of.Done n) s blocks rest led is = record {
  left = e;
  made = subst (λ t. Leads (over_cells first begun) old new t) (subst (λ x. over_cells first x ≡ ret x) (sym is) refl) led;
  need = is;
}
pauses_at first begun e old new (pause_of.Ocall ordinal args r status) s blocks rest led is =
    let (into, also, handed) = is in
    let (passed, args_are, same) = handed in record {
      left = e;
      made = subst (λ t. Leads (over_cells first begun) old new t) (subst (λ x. over_cells first x ≡ ret x) (sym same) refl) led;
      need = is;
    }
