-- How registers, blocks and an arena stand to the execution of a body.
use Rattle.std.specs.Prelude.{ℕ, zero, ◌≡◌, ◌<◌, List, drop, map, Option, Some, None, option_and_then, unwrap_or, slice_get}
use Rattle.enclave_memory.specs.declared.Block.{Block}
use Rattle.enclave_memory.specs.declared.Arg.{Arg}
use Rattle.enclave_memory.specs.declared.Arg.TheVariants.{Value as arg_value, Bytes as arg_bytes}
use Rattle.enclave_memory.specs.Memory.{Memory, room_of}
use Rattle.enclave_memory.specs.Arguments.{Passed, by_number, by_place}
use Rattle.body_vm.specs.declared.Regs.{Regs}
use Rattle.body_vm.specs.declared.Action.{Action}
use Rattle.body_vm.specs.declared.Need.{Need}
use Rattle.body_vm.specs.declared.Need.TheVariants.{Cell, Ocall, Done}
use Rattle.body_vm.specs.State.{State, with_register, with_new_block}
use Rattle.body_vm.specs.Execution.{Execution, returned, on_cell, on_ocall, with_answer, execution_from}
use Rattle.body_vm.specs.Places.{blocks_in, IsHeld, IsKept}

-- registers, blocks and arena
pub record Moment : Type 0 where
  pub registers : List ℕ
  pub blocks : List (Option Block)
  pub arena : Memory

abbrev pub moment : Regs → List (Option Block) → Memory → Moment
moment regs blocks arena = record { registers = regs.regs; blocks = blocks; arena = arena }

-- the state of these registers and values, where the blocks have these numbers in the arena
abbrev pub state_of : List ℕ → List ℕ → Memory → List (Option ℕ) → State
state_of registers values arena numbers =
    record { registers = registers; values = values; blocks = blocks_in arena numbers; room = room_of arena }

-- the state that they are, where the blocks have these numbers in the arena
abbrev pub state_at : List ℕ → Moment → List (Option ℕ) → State
state_at values now numbers = state_of now.registers values now.arena numbers

-- the execution of these actions from here
abbrev pub execution_at : List Action → List ℕ → Regs → List (Option Block) → Memory → List (Option ℕ) → Execution
execution_at actions values regs blocks arena numbers =
    execution_from (state_at values (moment regs blocks arena) numbers) zero (drop regs.next actions)

-- the blocks have their numbers still or new ones, and all others of the arena stay
pub record IsOnward (before after : Moment) (numbers later : List (Option ℕ)) : Type 0 where
  pub held : IsHeld after.arena after.blocks later
  pub kept : IsKept before.arena after.arena numbers later

-- a place has a new block of zeros behind all others where it fits, else null, and nothing else changed
pub record IsBegun (before after : Memory) (blocks : List (Option Block)) (numbers : List (Option ℕ))
    (place n : ℕ) : Type 0 where
  pub later : List (Option ℕ)
  pub held : IsHeld after blocks later
  pub kept : IsKept before after numbers later
  pub state : (registers values : List ℕ)
      → state_of registers values after later ≡ with_new_block (state_of registers values before numbers) place n

-- the argument that is handed over, with its block
abbrev pub handed : List (Option Block) → Passed → Arg
handed blocks (by_number n) = arg_value n
handed blocks (by_place place) = arg_bytes (option_and_then (λ k. unwrap_or (slice_get blocks k) None) place)

-- an execution is this request, and goes on with these actions from this state with the answer in its registers; or it
-- has returned
abbrev pub IsNeed : Need → Execution → State → List (Option Block) → List Action → Type 0
IsNeed (Cell kind cell first second into) e s blocks rest =
    (into < 8)
    × (e ≡ on_cell (record { kind = kind; cell = cell; first = first; second = second })
    (λ old. execution_from (with_register s into old) zero rest))
IsNeed (Ocall ordinal args ret status) e s blocks rest =
    (ret < 8) × (status < 8) × ((passed : List Passed) × (args.items ≡ map (handed blocks) passed)
    × (e ≡ on_ocall (record { ordinal = ordinal; arguments = passed; blocks = s.blocks; room = s.room })
    (λ answer. execution_from (with_answer s ret status answer) zero rest)))
IsNeed (Done n) e s blocks rest = e ≡ returned n s.blocks

-- what an action comes to: it asks for this, or the execution goes on from this state with these actions
abbrev pub IsDone : Option Need → Execution → State → List (Option Block) → List Action → Type 0
IsDone None e s blocks rest = e ≡ execution_from s zero rest
IsDone (Some need) e s blocks rest = IsNeed need e s blocks rest

-- unless the body has ended, the next action is a later one
abbrev pub IsFurther : Need → ℕ → ℕ → Type 0
IsFurther (Done n) before after = Unit {0}
IsFurther _ before after = before < after
