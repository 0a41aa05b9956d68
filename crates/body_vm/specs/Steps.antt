-- What one action does by itself: it computes a number, changes blocks, or passes over actions.
use Rattle.std.specs.Prelude.{ℕ, zero, suc, ◌+◌, ◌-◌, ◌*◌, ◌%◌, ◌^◌, ◌==◌, if◌then◌else◌, Bool, true, false, length, replicate, sum, bit_and, bit_or, bit_xor, slice_index, slice_set, Option, Some, None, option_map, unwrap_or, slice_get}
use Rattle.body_vm.specs.declared.Action.{Action}
use Rattle.body_vm.specs.declared.Action.TheVariants.{Set, Add, Sub, Mul, And, Or, Xor, Len, Sum, Get, Put, Fill, Copy, Temp, Cload, Cswap, Cadd, Ccas, Ocall, Skipz, Skipnz, Return}
use Rattle.body_vm.specs.Execution.{Execution, returned, on_cell, on_ocall, OcallAnswer}
use Rattle.body_vm.specs.State.{State, operand, register, block, with_block, with_new_block, overlay}

-- the register that an action sets by itself, and its number
abbrev pub computed : State → Action → Option (ℕ × ℕ)
computed s (Set r v) = Some (r, operand s v)
computed s (Add r v) = Some (r, (register s r + operand s v) % 2 ^ 64)
computed s (Sub r v) = Some (r, (register s r + 2 ^ 64 - operand s v) % 2 ^ 64)
computed s (Mul r v) = Some (r, (register s r * operand s v) % 2 ^ 64)
computed s (And r v) = Some (r, bit_and (register s r) (operand s v))
computed s (Or r v) = Some (r, bit_or (register s r) (operand s v))
computed s (Xor r v) = Some (r, bit_xor (register s r) (operand s v))
computed s (Len r b) = Some (r, length (block s b))
computed s (Sum r b) = Some (r, sum (block s b))
computed s (Get r b v) = Some (r, slice_index (block s b) (operand s v))
computed s _ = None

-- the state with the blocks that an action changes
abbrev pub changed : State → Action → State
changed s (Put b v w) = with_block s b (λ bytes. slice_set bytes (operand s v) (operand s w % 256))
changed s (Fill b v) = with_block s b (λ bytes. replicate (length bytes) (operand s v % 256))
changed s (Copy b c) = with_block s b (λ bytes. overlay bytes (block s c))
changed s (Temp b n) = with_new_block s b n
changed s _ = s

-- how many actions it passes over
abbrev pub skipped : State → Action → ℕ
skipped s (Skipz r n) = if register s r == 0 then n else 0
skipped s (Skipnz r n) = if register s r == 0 then 0 else n
skipped s _ = 0

-- whether it asks for something or ends the body
abbrev pub is_asking : Action → Bool
is_asking (Cload r cell) = true
is_asking (Cswap r cell v) = true
is_asking (Cadd r cell v) = true
is_asking (Ccas r cell v w) = true
is_asking (Ocall ret status ordinal args) = true
is_asking (Return v) = true
is_asking _ = false

-- the length of a block, none where it is null
abbrev pub block_length : State → ℕ → Option ℕ
block_length s place = option_map (λ bytes. length bytes) (unwrap_or (slice_get s.blocks place) None)

-- whatever is answered, it asks for at most so many things before it returns
abbrev pub AsksAtMost : ℕ → Execution → Type 0
AsksAtMost n (returned value blocks) = Unit {0}
AsksAtMost zero (on_cell request next) = ⊥
AsksAtMost (suc n) (on_cell request next) = (old : ℕ) → AsksAtMost n (next old)
AsksAtMost zero (on_ocall request next) = ⊥
AsksAtMost (suc n) (on_ocall request next) = (answer : OcallAnswer) → AsksAtMost n (next answer)
