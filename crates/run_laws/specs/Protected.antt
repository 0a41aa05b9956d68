-- What a run keeps, whatever the host writes and whenever it writes it.
use Rattle.std.specs.Prelude.{ℕ, ◌≡◌, ◌≢◌, ◌≤◌, ◌<◌, ◌+◌, ◌⊎◌, List, ◌++◌, length, map, All, Contains, Some, slice_get}
use Rattle.word_port.specs.declared.Step.{Step}
use Rattle.word_port.specs.declared.Side.TheVariants.{Enclave}
use Rattle.word_port.specs.declared.Kind.TheVariants.{Load, Swap}
use Rattle.word_port.specs.Events.{steps_of}
use Rattle.edl_interface.specs.declared.Function.{Function}
use Rattle.enclave_memory.specs.Arguments.{Argument}
use Rattle.ocall_frames.specs.Frames.{ocall_size}
use Rattle.call_report.specs.declared.CallKind.TheVariants.{Ecall, Ocall}
use Rattle.call_report.specs.declared.Way.TheVariants.{Taken}
use Rattle.call_report.specs.declared.CallRecord.{CallRecord}
use Rattle.call_machine.specs.declared.Machine.{Machine}
use Rattle.call_machine.specs.Context.{Context, depth_of, first_context}
use Rattle.call_machine.specs.Ecall.{OcallOutcome}
use Rattle.call_machine.specs.Ocall.{handler_context}
use Rattle.call_laws.specs.Transfers.{loads_of}
use Rattle.call_laws.specs.Within.{IsWordIn, IsInAnswer}
use Rattle.run_laws.specs.Calls.{Call, IsMadeIn}
use Rattle.run_laws.specs.Ecalls.{IsRefused, IsAnswered, IsEcall}
use Rattle.run_laws.specs.Ocalls.{IsMadeOcall, IsOcall}
use Rattle.run_laws.specs.Places.{StandAt}

-- the inner call was made by the handler of the outer one, an OCALL: between its first step and its last, with the OCALL in progress and its frame on the host stack
pub record IsMadeByHandler (m : Machine) (outer inner : Call) : Type 0 where
  pub is_ocall : outer.made.kind ≡ Ocall
  pub function : Function
  pub found : slice_get m.interface.ocalls outer.made.ordinal ≡ Some function
  pub context_is : IsMadeIn (handler_context outer.context outer.made.ordinal function outer.made.frame) inner
  pub from_first : outer.made.first ≤ inner.made.first
  pub to_last : inner.made.last ≤ outer.made.last

-- the inner call was made by the body of the outer one, an answered ECALL
pub record IsMadeByBody (m : Machine) (calls : List Call) (log : List Step) (outer inner : Call) : Type 0 where
  pub is_ecall : outer.made.kind ≡ Ecall
  pub answered : IsAnswered m calls log outer
  pub is_asked : Contains answered.asked inner

-- the call was made inside another one of these
pub record IsNested (m : Machine) (calls : List Call) (log : List Step) (inner : Call) : Type 0 where
  pub outer : Call
  pub is_call : Contains calls outer
  pub how : IsMadeByHandler m outer inner ⊎ IsMadeByBody m calls log outer inner

-- a call's context is that in which the participant began, or that which the call around it gave it
abbrev pub IsInContext : Machine → Context → List Call → List Step → Call → Type 0
IsInContext m cx calls log c = IsMadeIn cx c ⊎ IsNested m calls log c

-- a call is what its record says; one that a worker took over is told in that worker's log, and comes only where there are workers
pub record IsProtectedCall (m : Machine) (calls : List Call) (log : List Step) (c : Call) : Type 0 where
  pub depth_is : c.made.depth ≡ depth_of c.context
  pub ecall : c.made.kind ≡ Ecall → c.made.way ≢ Taken → IsEcall m calls log c
  pub taken : c.made.kind ≡ Ecall → c.made.way ≡ Taken → 0 < m.script.settings.tworkers
  pub ocall : c.made.kind ≡ Ocall → (arguments : List Argument) × (steps : List Step) × (out : OcallOutcome) × IsOcall m log c arguments steps out

-- a load of an ECALL's snapshot, that is of its frame or an `in` parameter, before its body begins
pub record IsArgumentLoad (m : Machine) (calls : List Call) (log : List Step) (place : ℕ) (s : Step) (c : Call) : Type 0 where
  pub is_ecall : c.made.kind ≡ Ecall
  pub is_load : s.kind ≡ Load
  pub in_host : s.index < m.script.settings.host
  pub from_first : c.made.first ≤ place
  pub before_body : (IsRefused m log c × (place < c.made.last))
      ⊎ ((answered : IsAnswered m calls log c) × (place < c.made.first + length (steps_of (loads_of c.made.frame answered.frame ++ answered.copying))))

-- a store of the answer of an ECALL: from its turn on, in its return field or an `out` parameter's range by the one copy of its frame
pub record IsAnswerStore (m : Machine) (calls : List Call) (log : List Step) (place : ℕ) (s : Step) (c : Call) : Type 0 where
  pub is_ecall : c.made.kind ≡ Ecall
  pub is_store : s.kind ≡ Swap
  pub in_host : s.index < m.script.settings.host
  pub answered : IsAnswered m calls log c
  pub from_turn : c.made.turn ≤ place
  pub to_last : place < c.made.last
  pub inside : IsInAnswer answered.function answered.frame c.made.frame answered.copies.blocks s

-- a store of the frame of an OCALL, before the host runs
pub record IsFrameStore (m : Machine) (log : List Step) (place : ℕ) (s : Step) (c : Call) : Type 0 where
  pub is_ocall : c.made.kind ≡ Ocall
  pub is_store : s.kind ≡ Swap
  pub in_host : s.index < m.script.settings.host
  pub arguments : List Argument
  pub steps : List Step
  pub out : OcallOutcome
  pub there : StandAt log c.made.first steps
  pub made_it : IsMadeOcall m c arguments steps out
  pub from_first : c.made.first ≤ place
  pub before_host : place < c.made.first + length (steps_of made_it.entering)
  pub inside : IsWordIn c.made.frame (ocall_size made_it.function arguments) s.index

-- one of the loads of an OCALL's reply, after the host ran, within the OCALL's frame
pub record IsReplyLoad (m : Machine) (log : List Step) (place : ℕ) (s : Step) (c : Call) : Type 0 where
  pub is_ocall : c.made.kind ≡ Ocall
  pub is_load : s.kind ≡ Load
  pub in_host : s.index < m.script.settings.host
  pub arguments : List Argument
  pub steps : List Step
  pub out : OcallOutcome
  pub there : StandAt log c.made.first steps
  pub made_it : IsMadeOcall m c arguments steps out
  pub from_turn : c.made.turn ≤ place
  pub to_last : place < c.made.last
  pub inside : IsWordIn c.made.frame (ocall_size made_it.function arguments) s.index

-- a step on a cell, which is no byte of host memory, while the body of an answered ECALL runs
pub record IsCellStep (m : Machine) (calls : List Call) (log : List Step) (place : ℕ) (s : Step) (c : Call) : Type 0 where
  pub is_ecall : c.made.kind ≡ Ecall
  pub answered : IsAnswered m calls log c
  pub from_body : c.made.first + length (steps_of (loads_of c.made.frame answered.frame ++ answered.copying)) ≤ place
  pub to_turn : place < c.made.turn
  pub no_host_byte : m.script.settings.host ≤ s.index

-- some call of the run made this step of the enclave where it may
pub record IsAccountedFor (m : Machine) (calls : List Call) (log : List Step) (place : ℕ) (s : Step) : Type 0 where
  pub call : Call
  pub is_call : Contains calls call
  pub how : IsArgumentLoad m calls log place s call ⊎ IsAnswerStore m calls log place s call ⊎ IsFrameStore m log place s call ⊎ IsReplyLoad m log place s call
      ⊎ IsCellStep m calls log place s call

-- Each ECALL found no room for its frame on the host stack, or was refused before its body began, with the status of the first row that held, or ran as a direct call on one snapshot of its arguments.
-- The enclave read of host memory these snapshots and the replies of OCALLs alone, wrote to it returns, `out` parameters and the frames of OCALLs alone, and stepped on cells only while bodies ran.
-- No premise speaks of what the host writes.
pub record IsProtectedRun (m : Machine) (records : List CallRecord) (log : List Step) : Type 0 where
  -- the records' calls, each with the context that it met
  pub calls : List Call
  pub records_are : records ≡ map (λ c. c.made) calls
  pub contexts : All (IsInContext m (first_context m.script.settings 0) calls log) calls
  -- not entered, refused, or a direct call on one snapshot
  pub protected : All (IsProtectedCall m calls log) calls
  -- the enclave made no other step: no double fetch, and no store to a byte that no call gave it
  pub steps : (place : ℕ) (s : Step) → slice_get log place ≡ Some s → s.side ≡ Enclave → IsAccountedFor m calls log place s
