-- Which bodies can be carried out with so many values and blocks.
use Rattle.std.specs.Prelude.{ℕ, ◌<◌, ◌≤◌, List, [], ◌∷◌, length, Some, None}
use Rattle.body_vm.specs.declared.Operand.{Operand}
use Rattle.body_vm.specs.declared.Operand.TheVariants.{Number, Reg, Value}
use Rattle.body_vm.specs.declared.Pass.{Pass}
use Rattle.body_vm.specs.declared.Pass.TheVariants.{Value as by_value, Bytes as by_block}
use Rattle.body_vm.specs.declared.Action.{Action}
use Rattle.body_vm.specs.declared.Action.TheVariants.{Set, Add, Sub, Mul, And, Or, Xor, Len, Sum, Get, Put, Fill, Copy, Temp, Cload, Cswap, Cadd, Ccas, Ocall, Skipz, Skipnz, Return}

-- a register is one of the eight, and the place of a value is below their count
abbrev pub IsOperand : ℕ → Operand → Type 0
IsOperand values (Number n) = Unit {0}
IsOperand values (Reg r) = r < 8
IsOperand values (Value place) = place < values

-- the same of an argument, whose block is below the count of blocks
abbrev pub IsPassable : ℕ → ℕ → Pass → Type 0
IsPassable values blocks (by_value v) = IsOperand values v
IsPassable values blocks (by_block None) = Unit {0}
IsPassable values blocks (by_block (Some place)) = place < blocks

abbrev pub ArePassable : ℕ → ℕ → List Pass → Type 0
ArePassable values blocks [] = Unit {0}
ArePassable values blocks (p ∷ rest) = IsPassable values blocks p × ArePassable values blocks rest

-- a register, and an operand or a block
abbrev pub IsSet : ℕ → ℕ → Operand → Type 0
IsSet values r v = (r < 8) × IsOperand values v

-- every register and place of an action is in range, a temporary block takes a byte, and an OCALL at most 64 arguments
abbrev pub IsInRange : ℕ → ℕ → Action → Type 0
IsInRange values blocks (Set r v) = IsSet values r v
IsInRange values blocks (Add r v) = IsSet values r v
IsInRange values blocks (Sub r v) = IsSet values r v
IsInRange values blocks (Mul r v) = IsSet values r v
IsInRange values blocks (And r v) = IsSet values r v
IsInRange values blocks (Or r v) = IsSet values r v
IsInRange values blocks (Xor r v) = IsSet values r v
IsInRange values blocks (Len r b) = (r < 8) × (b < blocks)
IsInRange values blocks (Sum r b) = (r < 8) × (b < blocks)
IsInRange values blocks (Get r b v) = (b < blocks) × IsSet values r v
IsInRange values blocks (Put b v w) = (b < blocks) × IsOperand values v × IsOperand values w
IsInRange values blocks (Fill b v) = (b < blocks) × IsOperand values v
IsInRange values blocks (Copy b c) = (b < blocks) × (c < blocks)
IsInRange values blocks (Temp b n) = (b < blocks) × (0 < n)
IsInRange values blocks (Cload r cell) = r < 8
IsInRange values blocks (Cswap r cell v) = IsSet values r v
IsInRange values blocks (Cadd r cell v) = IsSet values r v
IsInRange values blocks (Ccas r cell v w) = (r < 8) × IsOperand values v × IsOperand values w
IsInRange values blocks (Ocall ret status ordinal args) =
    (ret < 8) × (status < 8) × (length args ≤ 64) × ArePassable values blocks args
IsInRange values blocks (Skipz r n) = r < 8
IsInRange values blocks (Skipnz r n) = r < 8
IsInRange values blocks (Return v) = IsOperand values v

-- how many actions an action may pass over
abbrev pub skip_of : Action → ℕ
skip_of (Skipz r n) = n
skip_of (Skipnz r n) = n
skip_of _ = 0

-- each action is in range, and passes over no more than there are behind it
abbrev pub AreInRange : ℕ → ℕ → List Action → Type 0
AreInRange values blocks [] = Unit {0}
AreInRange values blocks (action ∷ rest) =
    IsInRange values blocks action × (skip_of action ≤ length rest) × AreInRange values blocks rest
