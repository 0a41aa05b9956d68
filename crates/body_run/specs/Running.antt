-- Where a body that is carried out on words pauses.
use Rattle.std.specs.Prelude.{ℕ, List, Option}
use Rattle.word_port.specs.Port.{PortState}
use Rattle.word_port.specs.Runs.{Makes}
use Rattle.enclave_memory.specs.declared.Block.{Block}
use Rattle.body_vm.specs.declared.Action.{Action}
use Rattle.body_vm.specs.declared.Need.{Need}
use Rattle.body_vm.specs.declared.Need.TheVariants as need
use Rattle.body_vm.specs.Execution.{Execution}
use Rattle.body_vm.specs.State.{State}
use Rattle.body_vm.specs.Moments.{IsNeed}
use Rattle.body_run.specs.Cells.{over_cells}
use Rattle.body_run.specs.declared.Pause.{Pause}
use Rattle.body_run.specs.declared.Pause.TheVariants.{Ocall, Done}

-- the need at which a body pauses
abbrev pub need_of : Pause → Need
need_of (Ocall ordinal args ret status) = need.Ocall ordinal args ret status
need_of (Done value) = need.Done value

-- the port has made the body's steps up to this pause, from which it goes on with these actions in this state
pub record Pauses (first : ℕ) (e : Execution) (old new : PortState) (pause : Pause) (s : State)
    (blocks : List (Option Block)) (rest : List Action) : Type 0 where
  pub left : Execution
  pub made : Makes (over_cells first e) old new left
  pub need : IsNeed (need_of pause) left s blocks rest
