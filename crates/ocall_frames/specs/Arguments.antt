-- The arguments that an OCALL is made with.
use Rattle.std.specs.Prelude.{◌≡◌, ◌≤◌, ℕ, Bool, true, false, List, [], ◌∷◌, Option, Some, None, Result, Ok, Err}
use Rattle.sgx_base.specs.Rows.{first_row}
use Rattle.sgx_base.specs.declared.Status.{Status}
use Rattle.edl_interface.specs.declared.Function.{Function}
use Rattle.edl_interface.specs.declared.Param.{Param}
use Rattle.edl_interface.specs.Parameters.{is_marshalled}
use Rattle.edl_interface.specs.Runnable.{IsRunnableFunction}
use Rattle.enclave_memory.specs.declared.Arg.{Arg}
use Rattle.enclave_memory.specs.declared.Arg.TheVariants.{Value, Bytes}
use Rattle.enclave_memory.specs.Arguments.{Argument, Passed, ArePassed}
use Rattle.enclave_memory.specs.Memory.{Memory}
use Rattle.ocall_frames.specs.Frames.{argument_rows, ocall_size}

-- whether an argument is a block or null, and no number
abbrev pub has_place : Arg → Bool
has_place (Value n) = false
has_place (Bytes block) = true

-- one argument for each parameter: a block or null exactly where it is marshalled
abbrev pub AreOfKinds : List Param → List Arg → Type 0
AreOfKinds [] [] = Unit {0}
AreOfKinds (p ∷ params) (a ∷ args) = (has_place a ≡ is_marshalled p.class) × AreOfKinds params args
AreOfKinds _ _ = ⊥

-- what an OCALL may be made with: a function that a run passes, and an argument of each parameter's kind, whose block
-- is live
pub record MayCall (f : Function) (args : List Arg) (arena : Memory) : Type 0 where
  pub runs : IsRunnableFunction false f
  pub small : f.frame_size ≤ 1024
  pub kinds : AreOfKinds f.params args
  pub live : (passed : List Passed) × ArePassed arena args passed

-- a refusal, or a size
abbrev pub size_unless : Option Status → ℕ → Result ℕ Status
size_unless (Some status) size = Err status
size_unless None size = Ok size

-- the size of the frame, or the first refusal
abbrev pub checked_size : Function → List Argument → Result ℕ Status
checked_size f arguments = size_unless (first_row (argument_rows f arguments)) (ocall_size f arguments)
