-- A body carried out on the machine: the execution of the direct call on its copies, request by request.
use Rattle.std.specs.Prelude.{ℕ, ◌≡◌, ◌+◌, List, [], ◌∷◌, ◌++◌, length, map, Option, Contains}
use Rattle.word_port.specs.declared.Step.{Step}
use Rattle.word_port.specs.declared.Side.TheVariants.{Enclave}
use Rattle.enclave_memory.specs.Arguments.{argument_of}
use Rattle.body_vm.specs.Execution.{Execution, returned, on_cell, on_ocall, CellRequest, OcallRequest}
use Rattle.call_report.specs.declared.CallKind.TheVariants.{Ocall}
use Rattle.call_script.specs.Words.{cell_word}
use Rattle.call_machine.specs.declared.Machine.{Machine}
use Rattle.call_machine.specs.Context.{Context}
use Rattle.call_machine.specs.Ecall.{OcallOutcome, answer_of}
use Rattle.run_laws.specs.Calls.{Call}
use Rattle.run_laws.specs.Ocalls.{IsOcall}

-- the step on a cell that a body asked for, with its answer
abbrev pub cell_step : Machine → CellRequest → ℕ → Step
cell_step m q old = record { side = Enclave; kind = q.kind; index = cell_word m.script.settings q.cell; first = q.first; second = q.second; answer = old }

-- the OCALL that a body asked for is this call, in the body's context with the room that the body left; it begins at this place, and made these steps
pub record IsAnsweredRequest (m : Machine) (calls : List Call) (log : List Step) (cx : Context) (place : ℕ) (q : OcallRequest) (call : Call) (steps : List Step) (out : OcallOutcome) : Type 0 where
  pub is_call : Contains calls call
  pub is_ocall : call.made.kind ≡ Ocall
  pub ordinal_is : call.made.ordinal ≡ q.ordinal
  pub context_is : call.context ≡ record cx { room = q.room }
  pub begins : call.made.first ≡ place
  pub did : IsOcall m log call (map (argument_of q.blocks) q.arguments) steps out

-- these are the OCALLs and the steps, from this place on, of what a body asks for, one request after another; it ends with this value and these blocks
abbrev pub IsCarriedOut : Machine → List Call → List Step → Context → ℕ → Execution → List Call → List Step → ℕ → List (Option (List ℕ)) → Type 0
IsCarriedOut m calls log cx place (returned last_value last_blocks) asked steps value blocks = (asked ≡ []) × (steps ≡ []) × (value ≡ last_value) × (blocks ≡ last_blocks)
IsCarriedOut m calls log cx place (on_cell q next) asked steps value blocks =
    (old : ℕ) × (rest : List Step) × (steps ≡ cell_step m q old ∷ rest) × IsCarriedOut m calls log cx (place + 1) (next old) asked rest value blocks
IsCarriedOut m calls log cx place (on_ocall q next) asked steps value blocks =
    (call : Call) × (others : List Call) × (first : List Step) × (rest : List Step) × (out : OcallOutcome) × (asked ≡ call ∷ others) × (steps ≡ first ++ rest)
    × IsAnsweredRequest m calls log cx place q call first out
    × IsCarriedOut m calls log cx (place + length first) (next (answer_of m.interface q out)) others rest value blocks
