-- What the host does, act by act, where calls are given.
use Rattle.std.specs.Prelude.{ℕ, zero, suc, ◌+◌, if◌then◌else◌, List, [], ◌∷◌, ◌++◌}
use Rattle.sgx_base.specs.Bytes.{low_bytes}
use Rattle.sgx_base.specs.Ranges.{is_mapped}
use Rattle.sgx_base.specs.declared.Status.{Status}
use Rattle.sgx_base.specs.declared.TheConstants.Status.{SUCCESS}
use Rattle.word_port.specs.declared.Side.{Side}
use Rattle.word_port.specs.Events.{new_record}
use Rattle.word_port.specs.Interaction.{Interaction, ret, here, tick, and_then, map_value}
use Rattle.word_port.specs.Accesses.{word_at, load, swap, stores}
use Rattle.call_script.specs.declared.Place.{Place}
use Rattle.call_script.specs.declared.Place.TheVariants.{At, InFrame}
use Rattle.call_script.specs.declared.CallArg.{CallArg}
use Rattle.call_script.specs.declared.HostAct.{HostAct, Call, Raw, Poke, Peek, Return, Reply, Repeat', Row_of-HostAct, end_of-HostAct, more_of-HostAct}
use Rattle.call_report.specs.declared.CallKind.TheVariants.{Peek as peek_kind}
use Rattle.call_report.specs.declared.Way.TheVariants.{Ordinary}
use Rattle.call_report.specs.declared.CallRecord.{CallRecord}
use Rattle.call_machine.specs.Result.{Outcome}

-- who acts, the size of host memory, the number of calls in progress, the frame and its return's size in a handler, and what calls do
pub record Actor : Type 0 where
  pub side : Side
  pub host : ℕ
  pub depth : ℕ
  pub frame : ℕ
  pub return_size : ℕ
  pub calls : ℕ → List CallArg → Interaction (List CallRecord)
  pub raw_calls : ℕ → ℕ → Interaction (List CallRecord)

-- the address of a place, where frames of the handler begin at this one
abbrev pub place_address : ℕ → Place → ℕ
place_address frame (At address) = address
place_address frame (InFrame offset) = frame + offset

-- the address of a place
abbrev pub address_of : Actor → Place → ℕ
address_of actor place = place_address actor.frame place

-- writes the bytes, and passes over those that fall outside a host memory of so many bytes
abbrev pub mapped_stores : Side → ℕ → ℕ → List ℕ → Interaction (Unit {0})
mapped_stores side host address [] = ret tt
mapped_stores side host address (b ∷ bytes) =
    if is_mapped host address 1 then and_then (swap side (word_at address) b) (λ old. mapped_stores side host (address + 1) bytes)
    else mapped_stores side host (address + 1) bytes

-- loads so many bytes, and passes over those that fall outside a host memory of so many bytes
abbrev pub mapped_loads : Side → ℕ → ℕ → ℕ → Interaction (Unit {0})
mapped_loads side host address zero = ret tt
mapped_loads side host address (suc count) =
    if is_mapped host address 1 then and_then (load side (word_at address)) (λ b. mapped_loads side host (address + 1) count)
    else mapped_loads side host (address + 1) count

-- the record of a peek, where so many calls are in progress
abbrev pub peek_record : ℕ → ℕ → ℕ → ℕ → CallRecord
peek_record depth address first last = record {
  kind = peek_kind;
  ordinal = 0;
  depth = depth;
  frame = address;
  way = Ordinary;
  status = SUCCESS;
  first = first;
  turn = first;
  last = last;
}

-- the loads of a peek in a host memory of so many bytes, and its record
abbrev pub peek : Side → ℕ → ℕ → ℕ → ℕ → Interaction (List CallRecord)
peek side host depth address count =
    tick new_record (here (λ first. and_then (mapped_loads side host address count) (λ done. here (λ last. ret (peek_record depth address first last ∷ [])))))

-- with this status, whatever records come
abbrev pub with_status : Status → Interaction (List CallRecord) → Interaction Outcome
with_status status t = map_value (λ records. record { status = status; records = records }) t

-- no record
abbrev pub no_records : Unit {0} → List CallRecord
no_records done = []

-- one after another: the reply's status is handed on, and the records follow one another
abbrev pub then_acts : Interaction Outcome → (Status → Interaction Outcome) → Interaction Outcome
then_acts t next = and_then t (λ out. map_value (λ more. record { status = more.status; records = out.records ++ more.records }) (next out.status))

-- so many times
abbrev pub repeat : ℕ → (Status → Interaction Outcome) → Status → Interaction Outcome
repeat zero act status = ret (record { status = status; records = [] })
repeat (suc times) act status = then_acts (act status) (repeat times act)

-- one act, where the reply's status so far is given, and those of a repeat
abbrev mutual
  pub act_of : Actor → HostAct → Status → Interaction Outcome
  act_of actor (Call ordinal args) status = with_status status (actor.calls ordinal args)
  act_of actor (Raw ordinal address) status = with_status status (actor.raw_calls ordinal address)
  act_of actor (Poke place bytes) status = with_status status (map_value no_records (mapped_stores actor.side actor.host (address_of actor place) bytes))
  act_of actor (Peek place count) status = with_status status (peek actor.side actor.host actor.depth (address_of actor place) count)
  act_of actor (Return n) status = with_status status (map_value no_records (stores actor.side actor.frame (low_bytes actor.return_size n)))
  act_of actor (Reply n) status = ret (record { status = record { 0 = n }; records = [] })
  act_of actor (Repeat' times shape acts) status = repeat times (row_of actor acts) status

  pub row_of : {n : _} → Actor → Row_of-HostAct n → Status → Interaction Outcome
  row_of actor end_of-HostAct status = ret (record { status = status; records = [] })
  row_of actor (more_of-HostAct act rest) status = then_acts (act_of actor act status) (row_of actor rest)

-- the acts in order, where the reply's status so far is given
abbrev pub acts_from : Actor → List HostAct → Status → Interaction Outcome
acts_from actor [] status = ret (record { status = status; records = [] })
acts_from actor (act ∷ rest) status = then_acts (act_of actor act status) (acts_from actor rest)

-- the acts in order
unfoldable pub acts_of : Actor → List HostAct → Interaction Outcome
acts_of actor acts = acts_from actor acts SUCCESS

-- a racer writes host bytes alone
abbrev pub racer_actor : Side → ℕ → Actor
racer_actor side host = record {
  side = side;
  host = host;
  depth = 0;
  frame = 0;
  return_size = 0;
  calls = λ ordinal args. ret [];
  raw_calls = λ ordinal address. ret [];
}
