-- What a host thread does, with all its calls.
use Rattle.std.specs.Prelude.{ℕ, zero, suc, ◌-◌, List, [], length}
use Rattle.sgx_base.specs.declared.TheConstants.Status.{UNEXPECTED}
use Rattle.edl_interface.specs.Parameters.{return_size}
use Rattle.word_port.specs.declared.Side.TheVariants.{Host, Racer}
use Rattle.word_port.specs.Interaction.{Interaction, ret}
use Rattle.call_script.specs.declared.HostAct.{HostAct}
use Rattle.call_report.specs.declared.Way.{Way}
use Rattle.call_machine.specs.declared.Machine.{Machine}
use Rattle.call_machine.specs.Context.{Context, depth_of}
use Rattle.call_machine.specs.Result.{Outcome}
use Rattle.call_machine.specs.Ecall.{Ecalls, Ocalls, OcallOutcome, ecall_by}
use Rattle.call_machine.specs.Ocall.{Handlers, ocall_by}
use Rattle.call_machine.specs.Acts.{Actor, acts_of, racer_actor}
use Rattle.call_machine.specs.Calls.{host_call, raw_call, with_record}
use Rattle.call_machine.specs.Served.{handler_acts}
use Rattle.enclave_memory.specs.Arguments.{Argument}

-- the host in a context, where this is what ECALLs do; in a handler with its frame and the size of its return
abbrev pub host_actor : Machine → Ecalls → Context → ℕ → ℕ → Actor
host_actor m ecalls cx frame size = record {
  side = Host;
  host = m.script.settings.host;
  depth = depth_of cx;
  frame = frame;
  return_size = size;
  calls = host_call m ecalls cx frame;
  raw_calls = raw_call ecalls cx;
}

-- the handlers of OCALLs, where this is what ECALLs do
abbrev pub handlers_by : Machine → Ecalls → Handlers
handlers_by m ecalls cx ordinal f frame = acts_of (host_actor m ecalls cx frame (return_size f)) (handler_acts m ordinal)

-- with 16 entries no ECALL gets in, so no body runs and makes this OCALL
abbrev pub no_ocalls : Ocalls
no_ocalls cx ordinal arguments = ret (record { status = UNEXPECTED; value = 0; loaded = []; records = [] })

-- ECALLs where so many more entries fit the call stack
abbrev pub ecalls_to : Machine → ℕ → Ecalls
ecalls_to m zero = ecall_by m no_ocalls
ecalls_to m (suc depth) = ecall_by m (ocall_by m (handlers_by m (ecalls_to m depth)))

-- ECALLs, and OCALLs, in a context
abbrev pub ecalls : Machine → Context → Ecalls
ecalls m cx = ecalls_to m (16 - length cx.stack)

-- the OCALLs of the body of an ECALL where so many more entries fit the call stack
abbrev pub ocalls_to : Machine → ℕ → Ocalls
ocalls_to m zero = no_ocalls
ocalls_to m (suc depth) = ocall_by m (handlers_by m (ecalls_to m depth))

-- those of an ECALL that is entered in a context
abbrev pub entry_ocalls : Machine → Context → Ocalls
entry_ocalls m cx = ocalls_to m (16 - length cx.stack)

-- those of a body that runs in a context
abbrev pub body_ocalls : Machine → Context → Ocalls
body_ocalls m cx = ocall_by m (handlers_by m (ecalls m cx))

-- an ECALL with its record
unfoldable pub ecall : Machine → Context → ℕ → ℕ → Way → Interaction Outcome
ecall m cx ordinal address way = with_record (ecalls m cx cx ordinal address way)

-- an OCALL with its record
unfoldable pub ocall : Machine → Context → ℕ → List Argument → Interaction OcallOutcome
ocall m cx ordinal arguments = ocall_by m (handlers_by m (ecalls m cx)) cx ordinal arguments

-- the host outside handlers
abbrev pub thread_actor : Machine → Context → Actor
thread_actor m cx = host_actor m (ecalls m cx) cx 0 0

-- what a host thread does for its acts
unfoldable pub thread : Machine → Context → List HostAct → Interaction Outcome
thread m cx acts = acts_of (thread_actor m cx) acts

-- what a racer does for its acts, in a host memory of so many bytes
unfoldable pub racer_acts : ℕ → List HostAct → Interaction Outcome
racer_acts host acts = acts_of (racer_actor Racer host) acts
