-- What the host does comes to slots by roles alone, where its calls do.
use Rattle.std.proofs.Common.{ℕ, zero, suc, ◌+◌, ◌≡◌, ◌≢◌, ◌≤◌, Bool, true, false, if◌then◌else◌, List, [], ◌∷◌, ◌++◌, Some, slice_get, refl, sym, subst, arith}
use Rattle.sgx_base.specs.Bytes.{low_bytes}
use Rattle.sgx_base.specs.Ranges.{is_mapped}
use Rattle.sgx_base.specs.declared.Status.{Status}
use Rattle.sgx_base.specs.declared.TheConstants.Status.{SUCCESS}
use Rattle.edl_interface.specs.declared.Function.{Function}
use Rattle.edl_interface.specs.declared.Interface.{Interface}
use Rattle.word_port.specs.declared.Side.TheVariants.{Pool as by_pool}
use Rattle.word_port.specs.Interaction.{Interaction, ret, and_then, map_value, AllRequests}
use Rattle.word_port.specs.Accesses.{word_at, load, swap, stores}
use Rattle.call_script.specs.declared.CallArg.{CallArg}
use Rattle.call_script.specs.declared.HostAct.{HostAct, Call, Raw, Poke, Peek, Return, Reply, Repeat', Row_of-HostAct, end_of-HostAct, more_of-HostAct}
use Rattle.call_report.specs.declared.CallRecord.{CallRecord}
use Rattle.call_machine.specs.Result.{Outcome}
use Rattle.call_machine.specs.Acts.{Actor, address_of, mapped_stores, mapped_loads, peek_record, peek, with_status, no_records, then_acts, repeat, act_of, row_of, acts_from, acts_of}
use Rattle.pool_laws.specs.Machines.{FillFields, IsFittingAct, AreFittingRow, AreFitting}
use Rattle.pool_laws.proofs.ByRoles.{IsBelow, ByRoles, roles_ret, roles_then, roles_map, roles_here, roles_record, roles_below}
use Rattle.pool_laws.proofs.Transfers.{AreFirst, mapped_first, stores_below, low_length}

module _ (limit : ℕ) (Among : ℕ → Type 0) (slot : ℕ) (interface : Interface) (actor : Actor)
    (beside : actor.side ≢ by_pool) (le : actor.host ≤ limit)
    (returns : AreFirst limit actor.frame actor.return_size)
    (calls : (ordinal : ℕ) (args : List CallArg) → ((f : Function) → slice_get interface.ecalls ordinal ≡ Some f
    → FillFields f.params args) → ByRoles limit Among slot (actor.calls ordinal args))
    (raw_calls : (ordinal address : ℕ) → ByRoles limit Among slot (actor.raw_calls ordinal address)) where
  abbrev Visits : {A : Type 0} → Interaction A → Type 0
  Visits t = ByRoles limit Among slot t

  stores_mapped : (address : ℕ) (bytes : List ℕ) → AllRequests (IsBelow limit) (mapped_stores actor.side actor.host address bytes)
  stores_mapped address [] = tt
  stores_mapped address (b ∷ bytes) = by_mapped (is_mapped actor.host address 1) refl
      (stores_mapped (address + 1) bytes)
    where
      by_mapped : (c : Bool) → is_mapped actor.host address 1 ≡ c
          → AllRequests (IsBelow limit) (mapped_stores actor.side actor.host (address + 1) bytes)
          → AllRequests (IsBelow limit) (if c then and_then (swap actor.side (word_at address) b)
          (λ old. mapped_stores actor.side actor.host (address + 1) bytes) else mapped_stores actor.side actor.host (address + 1) bytes)
      by_mapped true is more = (
        (
          beside,
          mapped_first actor.host limit address 1 le is (word_at address)
              (address, (omega arith, omega arith), refl),
        ),
        λ old. more,
      )
      by_mapped false is more = more

  loads_mapped : (address count : ℕ) → AllRequests (IsBelow limit) (mapped_loads actor.side actor.host address count)
  loads_mapped address zero = tt
  loads_mapped address (suc count) = by_mapped (is_mapped actor.host address 1) refl (loads_mapped (address + 1) count)
    where
      by_mapped : (c : Bool) → is_mapped actor.host address 1 ≡ c
          → AllRequests (IsBelow limit) (mapped_loads actor.side actor.host (address + 1) count)
          → AllRequests (IsBelow limit) (if c then and_then (load actor.side (word_at address))
          (λ b. mapped_loads actor.side actor.host (address + 1) count) else mapped_loads actor.side actor.host (address + 1) count)
      by_mapped true is more = (
        (
          beside,
          mapped_first actor.host limit address 1 le is (word_at address)
              (address, (omega arith, omega arith), refl),
        ),
        λ b. more,
      )
      by_mapped false is more = more

  peeks : (address count : ℕ) → Visits (peek actor.side actor.host actor.depth address count)
  peeks address count =
      roles_record limit Among slot _ (roles_here limit Among slot _ (λ first.
      roles_then limit Among slot (mapped_loads actor.side actor.host address count) (λ done. _)
      (roles_below limit Among slot (mapped_loads actor.side actor.host address count) (loads_mapped address count)) (λ done.
      roles_here limit Among slot _ (λ last. roles_ret limit Among slot (peek_record actor.depth address first last ∷ [])))))

  status_kept : (status : Status) (t : Interaction (List CallRecord)) → Visits t → Visits (with_status status t)
  status_kept status t h = roles_map limit Among slot (λ records. record { status = status; records = records }) t h

  no_calls : (status : Status) (t : Interaction (Unit {0})) → AllRequests (IsBelow limit) t
      → Visits (with_status status (map_value no_records t))
  no_calls status t h = status_kept status (map_value no_records t)
      (roles_map limit Among slot no_records t (roles_below limit Among slot t h))

  acts_then : (t : Interaction Outcome) (next : Status → Interaction Outcome) → Visits t
      → ((status : Status) → Visits (next status)) → Visits (then_acts t next)
  acts_then t next p q =
      roles_then limit Among slot t (λ out. map_value (λ more. record
      { status = more.status; records = out.records ++ more.records }) (next out.status)) p
      (λ out. roles_map limit Among slot (λ more. record {
        status = more.status;
        records =
            out.records ++ more.records;
      }) (next out.status) (q out.status))

  nothing_done : (status : Status) → Visits {A = Outcome} (ret (record { status = status; records = [] }))
  nothing_done status = roles_ret limit Among slot (record { status = status; records = [] })

  repeats : (times : ℕ) (act : Status → Interaction Outcome) → ((status : Status) → Visits (act status))
      → (status : Status) → Visits (repeat times act status)
  repeats zero act p status = nothing_done status
  repeats (suc times) act p status = acts_then (act status) (repeat times act) (p status) (λ s. repeats times act p s)

  mutual
    one_act : (act : HostAct) → IsFittingAct interface act → (status : Status) → Visits (act_of actor act status)
    one_act (Call ordinal args) fit status = status_kept status (actor.calls ordinal args) (calls ordinal args fit)
    one_act (Raw ordinal address) fit status = status_kept status (actor.raw_calls ordinal address)
        (raw_calls ordinal address)
    one_act (Poke place bytes) fit status = no_calls status (mapped_stores actor.side actor.host (address_of actor place) bytes)
        (stores_mapped (address_of actor place) bytes)
    one_act (Peek place count) fit status = status_kept status (peek actor.side actor.host actor.depth (address_of actor place) count)
        (peeks (address_of actor place) count)
    one_act (Return n) fit status =
        no_calls status (stores actor.side actor.frame (low_bytes actor.return_size n))
        (stores_below actor.side beside limit actor.frame (low_bytes actor.return_size n)
        (subst (λ k. AreFirst limit actor.frame k) (sym (low_length actor.return_size n)) returns))
    one_act (Reply n) fit status = nothing_done (record { 0 = n })
    one_act (Repeat' times shape acts) fit status = repeats times (row_of actor acts) (λ s. one_row acts fit s) status

    one_row : {n : _} (row : Row_of-HostAct n) → AreFittingRow interface row → (status : Status)
        → Visits (row_of actor row status)
    one_row end_of-HostAct fit status = nothing_done status
    one_row (more_of-HostAct act rest) fit status = acts_then (act_of actor act status) (row_of actor rest)
        (one_act act fit.0 status) (λ s. one_row rest fit.1 s)

  acts_on : (acts : List HostAct) → AreFitting interface acts → (status : Status) → Visits (acts_from actor acts status)
  acts_on [] fit status = nothing_done status
  acts_on (act ∷ rest) fit status = acts_then (act_of actor act status) (acts_from actor rest)
      (one_act act fit.0 status) (λ s. acts_on rest fit.1 s)

  -- the acts in order
  pub acts_by_roles : (acts : List HostAct) → AreFitting interface acts → Visits (acts_of actor acts)
  unfolding acts_of
  acts_by_roles acts fit = acts_on acts fit SUCCESS
