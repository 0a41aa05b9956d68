-- What a thread control structure shows of itself.
use Rattle.std.specs.Prelude.{ℕ, ◌≡◌, ◌≤◌, ◌+◌, List, [], ◌∷◌, None, length}
use Rattle.sgx_base.specs.Ranges.{host_start}
use Rattle.word_port.specs.Port.{PortState}
use Rattle.word_port.specs.Limits.{Progress, progress}
use Rattle.enclave_memory.specs.Memory.{Memory, room_of}
use Rattle.call_report.specs.RecordList.{RecordList, records_left}
use Rattle.call_machine.specs.declared.Machine.{Machine}
use Rattle.bridge_program.specs.Entry.{Entered}
use Rattle.call_machine.specs.Context.{Context}

-- the call stack, the host stack, both arenas, and the waiting looks that are left
pub record TcsState : Type 0 where
  pub stack : List Entered
  pub base : ℕ
  pub top : ℕ
  pub frames : Memory
  pub arena : Memory
  pub waits : ℕ

-- where the participant stands
abbrev pub context_of : TcsState → Context
context_of t = record { stack = t.stack; base = t.base; top = t.top; room = room_of t.arena }

-- how far a participant is
abbrev pub moment : PortState → RecordList → TcsState → Progress
moment port records t = progress port (records_left records) t.waits

-- a body runs that may make an OCALL
abbrev pub IsInBody : List Entered → Type 0
IsInBody [] = ⊥
IsInBody (e ∷ stack) = e.ocall ≡ None

-- the port is one for the machine's script
pub record IsPortOf (m : Machine) (port : PortState) : Type 0 where
  pub host_is : port.host ≡ m.script.settings.host
  pub words_are : port.words ≡ length m.script.words

-- the host stack lies in the machine's host memory
abbrev pub HasStackInHost : Machine → TcsState → Type 0
HasStackInHost m t = (host_start ≤ t.base) × (t.top ≤ host_start + m.script.settings.host)
