-- What a body does on words: each step on a cell is one on the word of that cell.
use Rattle.std.specs.Prelude.{ℕ, ◌≡◌, ◌<◌, ◌+◌, List, [], ◌∷◌}
use Rattle.word_port.specs.Requests.{Request}
use Rattle.word_port.specs.declared.Kind.{Kind}
use Rattle.word_port.specs.declared.Kind.TheVariants.{Load, Swap, Add, Cas}
use Rattle.word_port.specs.declared.Side.TheVariants.{Enclave}
use Rattle.word_port.specs.Interaction.{Interaction, ret, ask}
use Rattle.body_vm.specs.declared.Action.{Action}
use Rattle.body_vm.specs.declared.Action.TheVariants as action
use Rattle.body_vm.specs.Execution.{Execution, CellRequest, returned, on_cell, on_ocall}

-- a step on a cell, where the first cell is this word
abbrev pub cell_step : ℕ → CellRequest → Request
cell_step first q = record { side = Enclave; kind = q.kind; index = first + q.cell; first = q.first; second = q.second }

-- what a body does up to its next OCALL or its end, and what it is then
abbrev pub over_cells : ℕ → Execution → Interaction Execution
over_cells first (returned value blocks) = ret (returned value blocks)
over_cells first (on_cell q next) = ask (cell_step first q) (λ old. over_cells first (next old))
over_cells first (on_ocall q next) = ret (on_ocall q next)

-- an action on one of so many cells, or on none
abbrev pub HasCell : ℕ → Action → Type 0
HasCell count (action.Cload r cell) = cell < count
HasCell count (action.Cswap r cell v) = cell < count
HasCell count (action.Cadd r cell v) = cell < count
HasCell count (action.Ccas r cell v w) = cell < count
HasCell count _ = Unit {0}

-- actions on so many cells
abbrev pub HaveCells : ℕ → List Action → Type 0
HaveCells count [] = Unit {0}
HaveCells count (a ∷ actions) = HasCell count a × HaveCells count actions

-- the numbers that a step of this kind does not use are 0
abbrev pub AreUsed : Kind → ℕ → ℕ → Type 0
AreUsed Load first second = (first ≡ 0) × (second ≡ 0)
AreUsed Swap first second = second ≡ 0
AreUsed Add first second = second ≡ 0
AreUsed Cas first second = Unit {0}
