use Rattle.std.proofs.Common.{sym, ◌∙◌, ap}
use Rattle.std.specs.Prelude.{Result, Ok, Err}
use Rattle.call_script.specs.declared.Script.{Script}
use Rattle.call_script.specs.Faults.{Fault}
use Rattle.script_language.proofs.one_reading_law.Goals as goal

fault_in : Result Script Fault → Fault
fault_in (Ok s) = record { line = 0; code = 0 }
fault_in (Err fault) = fault

pub returns-clause-script : goal.returns-clause-script
returns-clause-script c = λ i racing bytes s t h k. cc

pub returns-clause-fault : goal.returns-clause-fault
unfolding fault_in
returns-clause-fault c = λ i racing bytes n m code other h k. (
  ap (λ r. (fault_in r).line) (sym h ∙ k),
  ap (λ r. (fault_in r).code) (sym h ∙ k),
)

pub returns-clause-either : goal.returns-clause-either
returns-clause-either c = λ i racing bytes s n code h k. absurd cc
