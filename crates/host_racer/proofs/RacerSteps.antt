-- A racer only writes host bytes.
use Rattle.std.proofs.Common.{ℕ, zero, suc, ◌+◌, ◌<◌, ◌≡◌, Bool, true, false, if◌then◌else◌, List, [], ◌∷◌, ◌++◌, All, refl, arith}
use Rattle.std.proofs.lemmas.List.Elements.{All-nil, All-cons}
use Rattle.sgx_base.specs.Ranges.{is_mapped}
use Rattle.sgx_base.specs.declared.Status.{Status}
use Rattle.sgx_base.specs.declared.TheConstants.Status.{SUCCESS}
use Rattle.word_port.specs.declared.Kind.TheVariants.{Swap}
use Rattle.word_port.specs.declared.Side.TheVariants.{Racer}
use Rattle.word_port.specs.declared.Step.{Step}
use Rattle.word_port.specs.Accesses.{word_at, swap}
use Rattle.word_port.specs.Events.{Event, steps_of}
use Rattle.word_port.specs.Requests.{Request}
use Rattle.word_port.specs.Interaction.{Interaction, ret, and_then, map_value, AllRequests, IsBegun}
use Rattle.word_port.proofs.RequestLaws.{AllSteps, all_and_then, steps_of_run}
use Rattle.call_script.specs.declared.HostAct.{HostAct, Call, Raw, Poke, Peek, Return, Reply, Repeat', Row_of-HostAct, end_of-HostAct, more_of-HostAct}
use Rattle.call_machine.specs.Acts.{address_of, mapped_stores, no_records, then_acts, repeat, act_of, row_of, acts_from, acts_of}
use Rattle.call_machine.specs.Result.{Outcome}
use Rattle.call_machine.specs.Thread.{racer_acts}
use Rattle.host_racer.specs.Racing.{IsRacerAct, AreRacerRow, AreRacerActs, IsRacerStep, racer}

-- a request for such a write
abbrev IsRacerRequest : ℕ → Request → Type 0
IsRacerRequest host q = (q.side ≡ Racer) × (q.kind ≡ Swap) × (q.index < host)

module _ (host : ℕ) where
  abbrev Writes : {A : Type 0} → Interaction A → Type 0
  Writes t = AllRequests (IsRacerRequest host) t

  below : (address : ℕ) → is_mapped host address 1 ≡ true → word_at address < host
  below address is = grind arith

  stores_write : (address : ℕ) (bytes : List ℕ) → Writes (mapped_stores Racer host address bytes)
  stores_write address [] = tt
  stores_write address (b ∷ bytes) = by_mapped (is_mapped host address 1) refl (stores_write (address + 1) bytes)
    where
      by_mapped : (c : Bool) → is_mapped host address 1 ≡ c → Writes (mapped_stores Racer host (address + 1) bytes)
          → Writes (if c then and_then (swap Racer (word_at address) b) (λ old. mapped_stores Racer host (address + 1) bytes) else mapped_stores Racer host (address + 1) bytes)
      by_mapped true is more = ((refl, refl, below address is), λ old. more)
      by_mapped false is more = more

  then_write : (t : Interaction Outcome) (next : Status → Interaction Outcome) → Writes t → ((status : Status) → Writes (next status)) → Writes (then_acts t next)
  then_write t next p q =
      all_and_then (IsRacerRequest host) t (λ out. map_value (λ more. record { status = more.status; records = out.records ++ more.records }) (next out.status)) p (λ out.
      all_and_then (IsRacerRequest host) (next out.status) (λ more. ret (record { status = more.status; records = out.records ++ more.records })) (q out.status) (λ more. tt))

  repeat_writes : (times : ℕ) (act : Status → Interaction Outcome) (status : Status) → ((s : Status) → Writes (act s)) → Writes (repeat times act status)
  repeat_writes zero act status h = tt
  repeat_writes (suc times) act status h = then_write (act status) (repeat times act) (h status) (λ s. repeat_writes times act s h)

  mutual
    act_writes : (act : HostAct) (status : Status) → IsRacerAct host act → Writes (act_of (racer host) act status)
    act_writes (Poke place bytes) status h =
        all_and_then (IsRacerRequest host) (map_value no_records (mapped_stores Racer host (address_of (racer host) place) bytes)) (λ records. ret (record { status = status; records = records }))
        (all_and_then (IsRacerRequest host) (mapped_stores Racer host (address_of (racer host) place) bytes) (λ done. ret (no_records done)) (stores_write (address_of (racer host) place) bytes) (λ done. tt))
        (λ records. tt)
    act_writes (Repeat' times shape acts) status h = repeat_writes times (row_of (racer host) acts) status (λ s. row_writes acts s h)
    act_writes (Call ordinal args) status h = absurd h
    act_writes (Raw ordinal address) status h = absurd h
    act_writes (Peek place count) status h = absurd h
    act_writes (Return n) status h = absurd h
    act_writes (Reply n) status h = absurd h

    row_writes : {n : _} (row : Row_of-HostAct n) (status : Status) → AreRacerRow host row → Writes (row_of (racer host) row status)
    row_writes end_of-HostAct status h = tt
    row_writes (more_of-HostAct act rest) status h = then_write (act_of (racer host) act status) (row_of (racer host) rest) (act_writes act status h.0) (λ s. row_writes rest s h.1)

  acts_write : (acts : List HostAct) (status : Status) → AreRacerActs host acts → Writes (acts_from (racer host) acts status)
  acts_write [] status h = tt
  acts_write (act ∷ acts) status h = then_write (act_of (racer host) act status) (acts_from (racer host) acts) (act_writes act status h.0) (λ s. acts_write acts s h.1)

  racer_writes : (acts : List HostAct) → AreRacerActs host acts → Writes (racer_acts host acts)
  unfolding racer_acts acts_of
  racer_writes acts h = acts_write acts SUCCESS h

  all_steps : (steps : List Step) → AllSteps (IsRacerRequest host) steps → All (IsRacerStep host) steps
  all_steps [] h = All-nil (IsRacerStep host)
  all_steps (s ∷ steps) h = All-cons (IsRacerStep host) s steps (record { side = h.0.0; kind = h.0.1; index = h.0.2 }) (all_steps steps h.1)

-- each step of a racer's run
pub racer_steps : (host : ℕ) (acts : List HostAct) (events : List Event) → AreRacerActs host acts → IsBegun (racer_acts host acts) events → All (IsRacerStep host) (steps_of events)
racer_steps host acts events h (rest, run) = all_steps host (steps_of events) (steps_of_run (IsRacerRequest host) (racer_acts host acts) rest events (racer_writes host acts h) run)
