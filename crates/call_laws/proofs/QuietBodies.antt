-- Bodies with no step on a cell and no OCALL ask for nothing.
use Rattle.std.proofs.Common.{ℕ, zero, suc, ◌+◌, ◌-◌, ◌*◌, ◌%◌, ◌^◌, ◌==◌, if◌then◌else◌, List, [], ◌∷◌, length, replicate, slice_index, slice_set, bit_and, bit_or, bit_xor, sum}
use Rattle.body_vm.specs.declared.Action.{Action}
use Rattle.body_vm.specs.declared.Action.TheVariants.{Set, Add, Sub, Mul, And, Or, Xor, Len, Sum, Get, Put, Fill, Copy, Temp, Cload, Cswap, Cadd, Ccas, Ocall, Skipz, Skipnz, Return}
use Rattle.body_vm.specs.State.{State, operand, register, with_register, block, with_block, with_new_block, overlay}
use Rattle.body_vm.specs.Execution.{execution_from, execution}
use Rattle.call_machine.specs.declared.Machine.{Machine}
use Rattle.call_machine.specs.Ecall.{actions_of}
use Rattle.call_laws.specs.Undisturbed.{AsksNothing, AreQuietActions, IsQuiet}

asks_nothing : (s : State) (skip : ℕ) (actions : List Action) → AreQuietActions actions → AsksNothing (execution_from s skip actions)
asks_nothing s skip [] a = tt
asks_nothing s (suc skip) (action ∷ rest) a = asks_nothing s skip rest a.1
asks_nothing s zero (Set r v ∷ rest) a = asks_nothing (with_register s r (operand s v)) zero rest a.1
asks_nothing s zero (Add r v ∷ rest) a = asks_nothing (with_register s r ((register s r + operand s v) % 2 ^ 64)) zero rest a.1
asks_nothing s zero (Sub r v ∷ rest) a = asks_nothing (with_register s r ((register s r + 2 ^ 64 - operand s v) % 2 ^ 64)) zero rest a.1
asks_nothing s zero (Mul r v ∷ rest) a = asks_nothing (with_register s r ((register s r * operand s v) % 2 ^ 64)) zero rest a.1
asks_nothing s zero (And r v ∷ rest) a = asks_nothing (with_register s r (bit_and (register s r) (operand s v))) zero rest a.1
asks_nothing s zero (Or r v ∷ rest) a = asks_nothing (with_register s r (bit_or (register s r) (operand s v))) zero rest a.1
asks_nothing s zero (Xor r v ∷ rest) a = asks_nothing (with_register s r (bit_xor (register s r) (operand s v))) zero rest a.1
asks_nothing s zero (Len r b ∷ rest) a = asks_nothing (with_register s r (length (block s b))) zero rest a.1
asks_nothing s zero (Sum r b ∷ rest) a = asks_nothing (with_register s r (sum (block s b))) zero rest a.1
asks_nothing s zero (Get r b v ∷ rest) a = asks_nothing (with_register s r (slice_index (block s b) (operand s v))) zero rest a.1
asks_nothing s zero (Put b v w ∷ rest) a = asks_nothing (with_block s b (λ bytes. slice_set bytes (operand s v) (operand s w % 256))) zero rest a.1
asks_nothing s zero (Fill b v ∷ rest) a = asks_nothing (with_block s b (λ bytes. replicate (length bytes) (operand s v % 256))) zero rest a.1
asks_nothing s zero (Copy b c ∷ rest) a = asks_nothing (with_block s b (λ bytes. overlay bytes (block s c))) zero rest a.1
asks_nothing s zero (Temp b n ∷ rest) a = asks_nothing (with_new_block s b n) zero rest a.1
asks_nothing s zero (Cload r cell ∷ rest) a = absurd a.0
asks_nothing s zero (Cswap r cell v ∷ rest) a = absurd a.0
asks_nothing s zero (Cadd r cell v ∷ rest) a = absurd a.0
asks_nothing s zero (Ccas r cell v w ∷ rest) a = absurd a.0
asks_nothing s zero (Ocall ret status ordinal args ∷ rest) a = absurd a.0
asks_nothing s zero (Skipz r n ∷ rest) a = asks_nothing s (if register s r == 0 then n else 0) rest a.1
asks_nothing s zero (Skipnz r n ∷ rest) a = asks_nothing s (if register s r == 0 then 0 else n) rest a.1
asks_nothing s zero (Return v ∷ rest) a = tt

pub quiet_bodies : (m : Machine) (ordinal : ℕ) → AreQuietActions (actions_of m ordinal) → IsQuiet m ordinal
unfolding execution
quiet_bodies m ordinal a = λ f frame copies. asks_nothing _ zero (actions_of m ordinal) a
