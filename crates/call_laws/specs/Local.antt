-- An answered ECALL whose body makes no OCALL, between whose steps no other participant writes.
use Rattle.std.specs.Prelude.{ℕ, ◌≡◌, ◌<◌, List, slice_get}
use Rattle.edl_interface.specs.declared.Function.{Function}
use Rattle.word_port.specs.Events.{Event}
use Rattle.body_vm.specs.Execution.{Execution, returned, on_cell, on_ocall}
use Rattle.call_machine.specs.declared.Machine.{Machine}
use Rattle.call_machine.specs.Context.{Context}
use Rattle.call_machine.specs.Ecall.{Ocalls, Copies, body_of}
use Rattle.call_laws.specs.Undisturbed.{words_at_end, with_answer, IsUndisturbedRun}

-- whatever its cells answer, it makes no OCALL
abbrev pub MakesNoOcall : Execution → Type 0
MakesNoOcall (returned value blocks) = Unit {0}
MakesNoOcall (on_cell q next) = (old : ℕ) → MakesNoOcall (next old)
MakesNoOcall (on_ocall q next) = ⊥

-- the body makes no OCALL, whatever it is given
abbrev pub IsLocal : Machine → ℕ → Type 0
IsLocal m ordinal = (f : Function) (frame : List ℕ) (copies : Copies) → MakesNoOcall (body_of m ordinal f frame copies)

-- the first words, so many, are the same
abbrev pub BeginAlike : ℕ → List ℕ → List ℕ → Type 0
BeginAlike count words others = (n : ℕ) → n < count → slice_get words n ≡ slice_get others n

-- its copies are bytes of the words that it began with, and host memory in the end is as it was, with the body's answer written
pub record IsLocalCall (m : Machine) (ocalls : Ocalls) (cx : Context) (ordinal address : ℕ) (words : List ℕ) (events : List Event) : Type 0 where
  pub run : IsUndisturbedRun m ocalls cx ordinal address words events
  pub host_is : BeginAlike m.script.settings.host (words_at_end words events)
      (with_answer run.function address run.frame run.finished.value run.finished.blocks words)
