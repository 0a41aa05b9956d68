-- A sound body hands an OCALL a block for marshalled parameters alone.
use Rattle.std.proofs.Common.{ℕ, zero, suc, ◌+◌, ◌-◌, ◌*◌, ◌%◌, ◌^◌, ◌≡◌, ◌==◌, if◌then◌else◌, true, List, [], ◌∷◌, length, map, replicate, Option, Some, slice_get, slice_index, slice_set, bit_and, bit_or, bit_xor, sum}
use Rattle.edl_interface.specs.declared.Param.{Param}
use Rattle.edl_interface.specs.declared.Function.{Function}
use Rattle.edl_interface.specs.declared.Interface.{Interface}
use Rattle.edl_interface.specs.Parameters.{is_marshalled, marshalled}
use Rattle.enclave_memory.specs.Arguments.{Argument, number, bytes, argument_of}
use Rattle.body_vm.specs.declared.Action.{Action}
use Rattle.body_vm.specs.declared.Action.TheVariants.{Set, Add, Sub, Mul, And, Or, Xor, Len, Sum, Get, Put, Fill, Copy, Temp, Cload, Cswap, Cadd, Ccas, Ocall, Skipz, Skipnz, Return}
use Rattle.body_vm.specs.declared.Pass.{Pass}
use Rattle.body_vm.specs.declared.Pass.TheVariants.{Value, Bytes}
use Rattle.body_vm.specs.State.{State, operand, register, with_register, block, with_block, with_new_block, overlay, passed_argument}
use Rattle.body_vm.specs.Execution.{Execution, returned, on_cell, on_ocall, OcallAnswer, with_answer, execution_from, execution}
use Rattle.call_machine.specs.declared.Machine.{Machine}
use Rattle.call_machine.specs.Ecall.{Copies, actions_of, body_of}
use Rattle.call_machine.specs.Sound.{FitPasses, AreSoundActions, IsSoundBody}

-- a block is handed over for a marshalled parameter alone
abbrev pub FitBlocks : List Param → List Argument → Type 0
FitBlocks (p ∷ params) (number n ∷ arguments) = FitBlocks params arguments
FitBlocks (p ∷ params) (bytes block ∷ arguments) = (is_marshalled p.class ≡ true) × FitBlocks params arguments
FitBlocks _ _ = Unit {0}

-- the arguments fit the OCALL of this ordinal
abbrev pub FitOcall : Interface → ℕ → List Argument → Type 0
FitOcall interface ordinal arguments = (f : Function) → slice_get interface.ocalls ordinal ≡ Some f → FitBlocks f.params arguments

-- whatever it is answered, a body asks for OCALLs with arguments that fit
abbrev pub AsksFitting : Interface → Execution → Type 0
AsksFitting interface (returned value blocks) = Unit {0}
AsksFitting interface (on_cell q next) = (old : ℕ) → AsksFitting interface (next old)
AsksFitting interface (on_ocall q next) = FitOcall interface q.ordinal (map (argument_of q.blocks) q.arguments) × ((answer : OcallAnswer) → AsksFitting interface (next answer))

passes_fit : (s : State) (blocks : List (Option (List ℕ))) (params : List Param) (args : List Pass) → FitPasses params args → FitBlocks params (map (argument_of blocks) (map (passed_argument s) args))
passes_fit s blocks [] [] h = tt
passes_fit s blocks [] (arg ∷ args) h = absurd h
passes_fit s blocks (p ∷ params) [] h = absurd h
passes_fit s blocks (p ∷ params) (Value v ∷ args) h = passes_fit s blocks params args h.1
passes_fit s blocks (p ∷ params) (Bytes place ∷ args) h = (h.0, passes_fit s blocks params args h.1)

module _ (interface : Interface) (count : ℕ) where
  actions_fit : (s : State) (skip : ℕ) (actions : List Action) → AreSoundActions interface count actions → AsksFitting interface (execution_from s skip actions)
  actions_fit s skip [] a = tt
  actions_fit s (suc skip) (action ∷ rest) a = actions_fit s skip rest a.1
  actions_fit s zero (Set r v ∷ rest) a = actions_fit (with_register s r (operand s v)) zero rest a.1
  actions_fit s zero (Add r v ∷ rest) a = actions_fit (with_register s r ((register s r + operand s v) % 2 ^ 64)) zero rest a.1
  actions_fit s zero (Sub r v ∷ rest) a = actions_fit (with_register s r ((register s r + 2 ^ 64 - operand s v) % 2 ^ 64)) zero rest a.1
  actions_fit s zero (Mul r v ∷ rest) a = actions_fit (with_register s r ((register s r * operand s v) % 2 ^ 64)) zero rest a.1
  actions_fit s zero (And r v ∷ rest) a = actions_fit (with_register s r (bit_and (register s r) (operand s v))) zero rest a.1
  actions_fit s zero (Or r v ∷ rest) a = actions_fit (with_register s r (bit_or (register s r) (operand s v))) zero rest a.1
  actions_fit s zero (Xor r v ∷ rest) a = actions_fit (with_register s r (bit_xor (register s r) (operand s v))) zero rest a.1
  actions_fit s zero (Len r b ∷ rest) a = actions_fit (with_register s r (length (block s b))) zero rest a.1
  actions_fit s zero (Sum r b ∷ rest) a = actions_fit (with_register s r (sum (block s b))) zero rest a.1
  actions_fit s zero (Get r b v ∷ rest) a = actions_fit (with_register s r (slice_index (block s b) (operand s v))) zero rest a.1
  actions_fit s zero (Put b v w ∷ rest) a = actions_fit (with_block s b (λ these. slice_set these (operand s v) (operand s w % 256))) zero rest a.1
  actions_fit s zero (Fill b v ∷ rest) a = actions_fit (with_block s b (λ these. replicate (length these) (operand s v % 256))) zero rest a.1
  actions_fit s zero (Copy b c ∷ rest) a = actions_fit (with_block s b (λ these. overlay these (block s c))) zero rest a.1
  actions_fit s zero (Temp b n ∷ rest) a = actions_fit (with_new_block s b n) zero rest a.1
  actions_fit s zero (Cload r cell ∷ rest) a = λ old. actions_fit (with_register s r old) zero rest a.1
  actions_fit s zero (Cswap r cell v ∷ rest) a = λ old. actions_fit (with_register s r old) zero rest a.1
  actions_fit s zero (Cadd r cell v ∷ rest) a = λ old. actions_fit (with_register s r old) zero rest a.1
  actions_fit s zero (Ccas r cell v w ∷ rest) a = λ old. actions_fit (with_register s r old) zero rest a.1
  actions_fit s zero (Ocall ret status ordinal args ∷ rest) a =
      (λ f e. passes_fit s s.blocks f.params args (a.0 f e), λ answer. actions_fit (with_answer s ret status answer) zero rest a.1)
  actions_fit s zero (Skipz r n ∷ rest) a = actions_fit s (if register s r == 0 then n else 0) rest a.1
  actions_fit s zero (Skipnz r n ∷ rest) a = actions_fit s (if register s r == 0 then 0 else n) rest a.1
  actions_fit s zero (Return v ∷ rest) a = tt

-- the body of an ECALL
pub body_fits : (m : Machine) (ordinal : ℕ) (f : Function) (frame : List ℕ) (copies : Copies) → slice_get m.interface.ecalls ordinal ≡ Some f → IsSoundBody m ordinal
    → AsksFitting m.interface (body_of m ordinal f frame copies)
unfolding execution
body_fits m ordinal f frame copies found sound = actions_fit m.interface (length (marshalled f)) _ zero (actions_of m ordinal) (sound f found)
