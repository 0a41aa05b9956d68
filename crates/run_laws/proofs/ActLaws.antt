-- What the host does is protected, where its calls are.
use Rattle.std.proofs.Common.{ℕ, zero, suc, ◌+◌, ◌≡◌, inl, true, false, if◌then◌else◌, List, [], ◌∷◌, ◌++◌, length, refl, sym, subst, arith, append-nil, length-append}
use Rattle.sgx_base.specs.Bytes.{low_bytes}
use Rattle.sgx_base.specs.Ranges.{is_mapped}
use Rattle.sgx_base.specs.declared.Status.{Status}
use Rattle.sgx_base.specs.declared.TheConstants.Status.{SUCCESS}
use Rattle.word_port.specs.declared.Step.{Step}
use Rattle.word_port.specs.declared.Side.{Side}
use Rattle.word_port.specs.declared.Side.TheVariants.{Enclave}
use Rattle.word_port.specs.Events.{new_record}
use Rattle.word_port.specs.Interaction.{Interaction, ret, and_then, map_value, AllRequests}
use Rattle.word_port.specs.Accesses.{word_at, load, swap, loads, stores}
use Rattle.word_port.proofs.RequestLaws.{AllSteps, all_and_then}
use Rattle.call_script.specs.declared.HostAct.{HostAct, Call as by_ordinal, Raw, Poke, Peek, Return, Reply, Repeat', Row_of-HostAct, end_of-HostAct, more_of-HostAct}
use Rattle.call_script.specs.declared.CallArg.{CallArg}
use Rattle.call_report.specs.declared.CallRecord.{CallRecord}
use Rattle.call_report.specs.declared.CallKind.TheVariants.{Ecall, Ocall, Peek as peek_kind}
use Rattle.call_machine.specs.declared.Machine.{Machine}
use Rattle.call_machine.specs.Context.{Context, depth_of}
use Rattle.call_machine.specs.Result.{Outcome}
use Rattle.call_machine.specs.Acts.{Actor, address_of, mapped_stores, mapped_loads, peek_record, peek, with_status, no_records, then_acts, repeat, act_of, row_of, acts_from, acts_of}
use Rattle.run_laws.specs.Calls.{Call, IsMadeIn}
use Rattle.run_laws.specs.Protected.{IsProtectedCall}
use Rattle.run_laws.proofs.Triples.{Ensures, ensures_ret, ensures_then, ensures_map, ensures_here, ensures_tick, ensures_requests}
use Rattle.run_laws.proofs.Protects.{Protects, IsElsewhere, protects_none, protects_one, protects_then}

-- each request is by this side
side_loads : (side : Side) → ¬ (side ≡ Enclave) → (address n : ℕ) → AllRequests IsElsewhere (loads side address n)
side_loads side other address zero = tt
side_loads side other address (suc n) = (
  record { not_enclave = other },
  λ b. all_and_then IsElsewhere (loads side (address + 1) n) (λ bytes. ret (b ∷ bytes)) (side_loads side other (address + 1) n) (λ bytes. tt),
)

side_stores : (side : Side) → ¬ (side ≡ Enclave) → (address : ℕ) (bytes : List ℕ) → AllRequests IsElsewhere (stores side address bytes)
side_stores side other address [] = tt
side_stores side other address (b ∷ bytes) = (record { not_enclave = other }, λ old. side_stores side other (address + 1) bytes)

pub host_loads : (side : Side) → ¬ (side ≡ Enclave) → (address n : ℕ) → AllRequests IsElsewhere (loads side address n)
host_loads side other address n = side_loads side other address n

pub host_stores : (side : Side) → ¬ (side ≡ Enclave) → (address : ℕ) (bytes : List ℕ) → AllRequests IsElsewhere (stores side address bytes)
host_stores side other address bytes = side_stores side other address bytes

module _ (m : Machine) (cx : Context) where
  -- runs with these records are protected, their calls made in this context
  abbrev pub ProtectsRecords : List Step → Interaction (List CallRecord) → Type 0
  ProtectsRecords before t = Ensures before (λ steps records. Protects m (IsMadeIn cx) before steps records) t

  abbrev pub ProtectsOutcome : List Step → Interaction Outcome → Type 0
  ProtectsOutcome before t = Ensures before (λ steps (out : Outcome). Protects m (IsMadeIn cx) before steps out.records) t

  -- steps by others, and no record
  pub elsewhere_then : {A B : Type 0} (before : List Step) (Q : List Step → B → Type 0) (t : Interaction A) (f : A → Interaction B) → AllRequests IsElsewhere t
      → ((steps : List Step) (x : A) → AllSteps IsElsewhere steps → Ensures (before ++ steps) (λ more y. Q (steps ++ more) y) (f x)) → Ensures before Q (and_then t f)
  elsewhere_then before Q t f p q = ensures_then before (λ steps x. AllSteps IsElsewhere steps) Q t f (ensures_requests before IsElsewhere t p) q

  pub status_kept : (before : List Step) (status : Status) (t : Interaction (List CallRecord)) → ProtectsRecords before t → ProtectsOutcome before (with_status status t)
  status_kept before status t p =
      ensures_map before (λ steps records. Protects m (IsMadeIn cx) before steps records) (λ steps (out : Outcome). Protects m (IsMadeIn cx) before steps out.records)
      (λ records. record { status = status; records = records }) t p (λ steps records h. h)

  pub no_calls : (before : List Step) (t : Interaction (Unit {0})) → AllRequests IsElsewhere t → ProtectsRecords before (map_value no_records t)
  no_calls before t p =
      ensures_map before (λ steps x. AllSteps IsElsewhere steps) (λ steps records. Protects m (IsMadeIn cx) before steps records) no_records t
      (ensures_requests before IsElsewhere t p) (λ steps x h. protects_none m (IsMadeIn cx) before steps h)

  pub acts_then : (before : List Step) (t : Interaction Outcome) (next : Status → Interaction Outcome)
      → ProtectsOutcome before t → ((log : List Step) (status : Status) → ProtectsOutcome log (next status)) → ProtectsOutcome before (then_acts t next)
  acts_then before t next p q =
      ensures_then before (λ steps (out : Outcome). Protects m (IsMadeIn cx) before steps out.records) (λ steps (out : Outcome). Protects m (IsMadeIn cx) before steps out.records) t
      (λ out. map_value (λ more. record { status = more.status; records = out.records ++ more.records }) (next out.status)) p (λ steps out h.
      ensures_map (before ++ steps) (λ others (more : Outcome). Protects m (IsMadeIn cx) (before ++ steps) others more.records)
      (λ others (more : Outcome). Protects m (IsMadeIn cx) before (steps ++ others) more.records)
      (λ more. record { status = more.status; records = out.records ++ more.records }) (next out.status) (q (before ++ steps) out.status)
      (λ others more g. protects_then m (IsMadeIn cx) before steps others out.records more.records h g))

  pub nothing_done : (before : List Step) (status : Status) → ProtectsOutcome before (ret (record { status = status; records = [] }))
  nothing_done before status =
      ensures_ret before (λ steps (out : Outcome). Protects m (IsMadeIn cx) before steps out.records) (record { status = status; records = [] }) (protects_none m (IsMadeIn cx) before [] tt)

  module _ (actor : Actor) (other : ¬ (actor.side ≡ Enclave)) (depth_is : actor.depth ≡ depth_of cx)
      (calls : (before : List Step) (ordinal : ℕ) (args : List CallArg) → ProtectsRecords before (actor.calls ordinal args))
      (raw_calls : (before : List Step) (ordinal address : ℕ) → ProtectsRecords before (actor.raw_calls ordinal address)) where
    stores_elsewhere : (address : ℕ) (bytes : List ℕ) → AllRequests IsElsewhere (mapped_stores actor.side actor.host address bytes)
    stores_elsewhere address [] = tt
    stores_elsewhere address (b ∷ bytes) =
        elim (is_mapped actor.host address 1) as (λ c. AllRequests IsElsewhere (if c then and_then (swap actor.side (word_at address) b) (λ old. mapped_stores actor.side actor.host (address + 1) bytes) else mapped_stores actor.side actor.host (address + 1) bytes)) [
          | true ↦ (record { not_enclave = other }, λ old. stores_elsewhere (address + 1) bytes)
          | false ↦ stores_elsewhere (address + 1) bytes
        ]

    loads_elsewhere : (address n : ℕ) → AllRequests IsElsewhere (mapped_loads actor.side actor.host address n)
    loads_elsewhere address zero = tt
    loads_elsewhere address (suc n) =
        elim (is_mapped actor.host address 1) as (λ c. AllRequests IsElsewhere (if c then and_then (load actor.side (word_at address)) (λ b. mapped_loads actor.side actor.host (address + 1) n) else mapped_loads actor.side actor.host (address + 1) n)) [
          | true ↦ (record { not_enclave = other }, λ old. loads_elsewhere (address + 1) n)
          | false ↦ loads_elsewhere (address + 1) n
        ]

    peek_protected : (address first last : ℕ) (log : List Step) (among : List Call) → IsProtectedCall m among log (record { made = peek_record actor.depth address first last; context = cx })
    peek_protected address first last log among = record {
      depth_is = depth_is;
      ecall = λ kind way. let no : peek_kind ≡ Ecall = kind in cc;
      taken = λ kind way. let no : peek_kind ≡ Ecall = kind in cc;
      ocall = λ kind. let no : peek_kind ≡ Ocall = kind in cc;
    }

    peeks : (before : List Step) (address n : ℕ) → ProtectsRecords before (peek actor.side actor.host actor.depth address n)
    peeks before address n =
        let Q : List Step → List CallRecord → Type 0 = λ steps records. Protects m (IsMadeIn cx) before steps records in
        let first : ℕ = length before in
        ensures_tick before Q new_record _ (ensures_here before Q _ (elsewhere_then before Q (mapped_loads actor.side actor.host address n) _ (loads_elsewhere address n) (λ steps x h.
        ensures_here (before ++ steps) (λ more records. Q (steps ++ more) records) _
        (ensures_ret (before ++ steps) (λ more records. Q (steps ++ more) records) (peek_record actor.depth address first (length (before ++ steps)) ∷ [])
        (subst (λ l. Q l (peek_record actor.depth address first (length (before ++ steps)) ∷ [])) (sym (append-nil steps))
        (protects_one m (IsMadeIn cx) before steps (record { made = peek_record actor.depth address first (length (before ++ steps)); context = cx }) h (inl refl) (omega arith, let grown = length-append before steps in omega (arith, grown))
        (peek_protected address first (length (before ++ steps)) (before ++ steps) _)))))))

    repeats : (times : ℕ) (act : Status → Interaction Outcome) → ((before : List Step) (status : Status) → ProtectsOutcome before (act status))
        → (before : List Step) (status : Status) → ProtectsOutcome before (repeat times act status)
    repeats zero act p before status = nothing_done before status
    repeats (suc times) act p before status = acts_then before (act status) (repeat times act) (p before status) (λ log s. repeats times act p log s)

    mutual
      act_protected : (act : HostAct) (before : List Step) (status : Status) → ProtectsOutcome before (act_of actor act status)
      act_protected (by_ordinal ordinal args) before status = status_kept before status (actor.calls ordinal args) (calls before ordinal args)
      act_protected (Raw ordinal address) before status = status_kept before status (actor.raw_calls ordinal address) (raw_calls before ordinal address)
      act_protected (Poke place bytes) before status =
          status_kept before status (map_value no_records (mapped_stores actor.side actor.host (address_of actor place) bytes)) (no_calls before (mapped_stores actor.side actor.host (address_of actor place) bytes) (stores_elsewhere (address_of actor place) bytes))
      act_protected (Peek place count) before status = status_kept before status (peek actor.side actor.host actor.depth (address_of actor place) count) (peeks before (address_of actor place) count)
      act_protected (Return n) before status =
          let t : Interaction (Unit {0}) = stores actor.side actor.frame (low_bytes actor.return_size n) in
          status_kept before status (map_value no_records t) (no_calls before t (side_stores actor.side other actor.frame (low_bytes actor.return_size n)))
      act_protected (Reply n) before status = nothing_done before (record { 0 = n })
      act_protected (Repeat' times shape acts) before status = repeats times (row_of actor acts) (λ log s. row_protected acts log s) before status

      row_protected : {n : _} (row : Row_of-HostAct n) (before : List Step) (status : Status) → ProtectsOutcome before (row_of actor row status)
      row_protected end_of-HostAct before status = nothing_done before status
      row_protected (more_of-HostAct act rest) before status =
          acts_then before (act_of actor act status) (row_of actor rest) (act_protected act before status) (λ log s. row_protected rest log s)

    from_protected : (acts : List HostAct) (before : List Step) (status : Status) → ProtectsOutcome before (acts_from actor acts status)
    from_protected [] before status = nothing_done before status
    from_protected (act ∷ rest) before status = acts_then before (act_of actor act status) (acts_from actor rest) (act_protected act before status) (λ log s. from_protected rest log s)

    -- the acts in order
    pub acts_protected : (acts : List HostAct) (before : List Step) → ProtectsOutcome before (acts_of actor acts)
    unfolding acts_of
    acts_protected acts before = from_protected acts before SUCCESS
