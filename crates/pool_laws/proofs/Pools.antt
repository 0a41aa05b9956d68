-- Each participant of a machine keeps to the rules of both pools, and what was taken is what was served.
use Rattle.std.proofs.Common.{ℕ, ◌+◌, ◌≢◌, ◌<◌, ◌≤◌, inl, inr, List, All, refl, sym, subst, arith}
use Rattle.std.proofs.lemmas.List.Elements.{All-weaker}
use Rattle.word_port.specs.declared.Step.{Step}
use Rattle.word_port.specs.Requests.{Request}
use Rattle.word_port.specs.Interaction.{Interaction}
use Rattle.switchless.specs.declared.Pool.{Pool}
use Rattle.switchless.specs.Worker.{worker}
use Rattle.switchless_laws.specs.Phases.{idle, elsewhere, PhaseLeads}
use Rattle.switchless_laws.specs.Moments.{IsSlotOf, KeepsSlots, LeavesSlots}
use Rattle.switchless_laws.specs.Roles.{IsElsewhere}
use Rattle.call_script.specs.declared.HostAct.{HostAct}
use Rattle.call_script.specs.Words.{ecall_slots, stop_word}
use Rattle.call_report.specs.declared.Way.TheVariants.{Served as served_way}
use Rattle.call_machine.specs.declared.Machine.{Machine}
use Rattle.call_machine.specs.Context.{first_context}
use Rattle.call_machine.specs.Calls.{ecall_pool}
use Rattle.call_machine.specs.Ocall.{ocall_pool}
use Rattle.call_machine.specs.Served.{served_ocall}
use Rattle.call_machine.specs.Thread.{ecall, thread, racer_acts}
use Rattle.pool_laws.specs.Keeping.{KeepsPool}
use Rattle.pool_laws.specs.Machines.{AreFitting, IsBoundedMachine, HasStackFor}
use Rattle.pool_laws.specs.Participants.{to_worker, trusted_worker, untrusted_worker, IsPoolOf, IsWholeLog, IsParticipantOf, host_thread, trusted, untrusted, racer, stopper}
use Rattle.pool_laws.proofs.Keeping.{log_leaves, weaker_requests}
use Rattle.pool_laws.proofs.Workers.{not_slot, own_worker, other_worker}
use Rattle.pool_laws.proofs.ByRoles.{IsMine, ByRoles, roles_keep, roles_map}
use Rattle.pool_laws.proofs.Participants.{served_by_roles, thread_by_roles, handler_by_roles, racer_by_roles}

abbrev Anywhere : ℕ → Type 0
Anywhere i = Unit {0}

abbrev Nowhere : ℕ → Type 0
Nowhere i = ⊥

module _ (m : Machine) (fit : IsBoundedMachine m) where
  -- where the pools stand
  low_slot : (pool : Pool) (slot : ℕ) → IsPoolOf m pool → IsSlotOf pool slot → ecall_slots m.script.settings ≤ slot
  low_slot pool slot (inl e) at = (subst (λ p. IsSlotOf p slot) e at).0
  low_slot pool slot (inr e) at =
      let there : IsSlotOf (ocall_pool m.script.settings) slot = subst (λ p. IsSlotOf p slot) e at in
      let low : ecall_slots m.script.settings + m.script.settings.slots ≤ slot = there.0 in
      omega (arith, low)

  stop_apart : (pool : Pool) → IsPoolOf m pool → IsElsewhere pool (stop_word m.script.settings)
  stop_apart pool (inl e) at =
      let there : IsSlotOf (ecall_pool m.script.settings) (stop_word m.script.settings) = subst
      (λ p. IsSlotOf p (stop_word m.script.settings)) e at in
      let high : stop_word m.script.settings < ecall_slots m.script.settings + m.script.settings.slots = there.1 in
      omega (arith, high)
  stop_apart pool (inr e) at =
      let there : IsSlotOf (ocall_pool m.script.settings) (stop_word m.script.settings) = subst
      (λ p. IsSlotOf p (stop_word m.script.settings)) e at in
      let high : stop_word m.script.settings <
      (ecall_slots m.script.settings + m.script.settings.slots) + m.script.settings.slots = there.1 in
      omega (arith, high)

  apart : (slot : ℕ) → IsSlotOf (ecall_pool m.script.settings) slot → IsSlotOf (ocall_pool m.script.settings) slot → ⊥
  apart slot e o =
      let high : slot < ecall_slots m.script.settings + m.script.settings.slots = e.1 in
      let low : ecall_slots m.script.settings + m.script.settings.slots ≤ slot = o.0 in
      omega (arith, high, low)

  -- a host thread
  pub thread_keeps : (pool : Pool) → IsPoolOf m pool → (participant : ℕ) (acts : List HostAct)
      → HasStackFor m.script.settings participant → AreFitting m.interface acts
      → KeepsPool pool (thread m (first_context m.script.settings participant) acts)
  thread_keeps pool is participant acts room fits slot waits at few =
      roles_keep (ecall_slots m.script.settings) Anywhere slot
      (thread m (first_context m.script.settings participant) acts) waits (low_slot pool slot is at) few
      (thread_by_roles m fit Anywhere slot (λ i h. tt) (λ i h. tt) participant acts room fits)

  -- a racer
  pub racer_keeps : (pool : Pool) → IsPoolOf m pool → (acts : List HostAct)
      → KeepsPool pool (racer_acts m.script.settings.host acts)
  racer_keeps pool is acts slot waits at few =
      roles_keep (ecall_slots m.script.settings) Nowhere slot (racer_acts m.script.settings.host acts) waits
      (low_slot pool slot is at) few (racer_by_roles m fit Nowhere slot acts)

  -- a worker for ECALLs
  module _ (participant limit : ℕ) (room : HasStackFor m.script.settings participant) where
    serving : (slot ordinal frame : ℕ) → ByRoles (ecall_slots m.script.settings)
        (IsSlotOf (ocall_pool m.script.settings)) slot ((trusted_worker m participant limit).serve ordinal frame)
    serving slot ordinal frame =
        roles_map (ecall_slots m.script.settings) (IsSlotOf (ocall_pool m.script.settings)) slot to_worker
        (ecall m (first_context m.script.settings participant) ordinal frame served_way)
        (served_by_roles m fit (IsSlotOf (ocall_pool m.script.settings)) slot
        (λ i h. h) participant ordinal frame served_way room)

    other_slots : (q : Request) → IsMine (ecall_slots m.script.settings) (IsSlotOf (ocall_pool m.script.settings)) q
        → IsElsewhere (ecall_pool m.script.settings) q.index
    other_slots q (inl low) at = let begin : ecall_slots m.script.settings ≤ q.index = at.0 in omega (arith, low, begin)
    other_slots q (inr h) at = apart q.index at h.1

    pub trusted_keeps : (pool : Pool) → IsPoolOf m pool → KeepsPool pool (worker (trusted_worker m participant limit))
    trusted_keeps pool (inl e) =
        subst (λ p. KeepsPool p (worker (trusted_worker m participant limit))) (sym e)
        (own_worker (trusted_worker m participant limit) (ecall_pool m.script.settings)
        (stop_apart (ecall_pool m.script.settings) (inl refl)) (λ ordinal frame.
        weaker_requests (IsMine (ecall_slots m.script.settings) (IsSlotOf (ocall_pool m.script.settings)))
        (λ q. IsElsewhere (ecall_pool m.script.settings) q.index) other_slots
        ((trusted_worker m participant limit).serve ordinal frame) (serving 0 ordinal frame).mine))
    trusted_keeps pool (inr e) =
        subst (λ p. KeepsPool p (worker (trusted_worker m participant limit))) (sym e)
        (other_worker (trusted_worker m participant limit) (ocall_pool m.script.settings)
        (stop_apart (ocall_pool m.script.settings) (inr refl)) (λ slot at. apart slot at)
        (λ ordinal frame slot waits at few.
        roles_keep (ecall_slots m.script.settings) (IsSlotOf (ocall_pool m.script.settings)) slot
        ((trusted_worker m participant limit).serve ordinal frame) waits
        (low_slot (ocall_pool m.script.settings) slot (inr refl) at) few (serving slot ordinal frame)))

  -- a worker for OCALLs
  module _ (limit : ℕ) where
    handling : (slot ordinal frame : ℕ) → ByRoles (ecall_slots m.script.settings) Nowhere slot
        ((untrusted_worker m limit).serve ordinal frame)
    handling slot ordinal frame = roles_map (ecall_slots m.script.settings) Nowhere slot to_worker
        (served_ocall m ordinal frame) (handler_by_roles m fit Nowhere slot ordinal frame)

    no_slots : (q : Request) → IsMine (ecall_slots m.script.settings) Nowhere q
        → IsElsewhere (ocall_pool m.script.settings) q.index
    no_slots q (inl low) at = let begin : ecall_slots m.script.settings + m.script.settings.slots ≤ q.index =
        at.0 in omega (arith, low, begin)
    no_slots q (inr h) at = absurd h.1

    pub untrusted_keeps : (pool : Pool) → IsPoolOf m pool → KeepsPool pool (worker (untrusted_worker m limit))
    untrusted_keeps pool (inl e) =
        subst (λ p. KeepsPool p (worker (untrusted_worker m limit))) (sym e)
        (other_worker (untrusted_worker m limit) (ecall_pool m.script.settings)
        (stop_apart (ecall_pool m.script.settings) (inl refl)) (λ slot at there. apart slot there at)
        (λ ordinal frame slot waits at few.
        roles_keep (ecall_slots m.script.settings) Nowhere slot ((untrusted_worker m limit).serve ordinal frame) waits
        (low_slot (ecall_pool m.script.settings) slot (inl refl) at) few
        (handling slot ordinal frame)))
    untrusted_keeps pool (inr e) =
        subst (λ p. KeepsPool p (worker (untrusted_worker m limit))) (sym e)
        (own_worker (untrusted_worker m limit) (ocall_pool m.script.settings)
        (stop_apart (ocall_pool m.script.settings) (inr refl)) (λ ordinal frame.
        weaker_requests (IsMine (ecall_slots m.script.settings) Nowhere)
        (λ q. IsElsewhere (ocall_pool m.script.settings) q.index) no_slots
        ((untrusted_worker m limit).serve ordinal frame) (handling 0 ordinal frame).mine))

  whole_leaves : {A : Type 0} (pool : Pool) (t : Interaction A) (log : List Step) → KeepsPool pool t → IsWholeLog t log
      → LeavesSlots pool log
  whole_leaves pool t log kept w = subst (λ l. LeavesSlots pool l) w.log_is
      (log_leaves pool t w.value w.before w.after w.empty w.few w.run kept)

  participant_leaves : (pool : Pool) → IsPoolOf m pool → (log : List Step) → IsParticipantOf m log
      → LeavesSlots pool log
  participant_leaves pool is log (host_thread participant acts room fits w) = whole_leaves pool
      (thread m (first_context m.script.settings participant) acts) log
      (thread_keeps pool is participant acts room fits) w
  participant_leaves pool is log (trusted participant limit room w) = whole_leaves pool
      (worker (trusted_worker m participant limit)) log (trusted_keeps participant limit room pool is) w
  participant_leaves pool is log (untrusted limit w) = whole_leaves pool (worker (untrusted_worker m limit)) log
      (untrusted_keeps limit pool is) w
  participant_leaves pool is log (racer acts w) = whole_leaves pool (racer_acts m.script.settings.host acts) log
      (racer_keeps pool is acts) w
  participant_leaves pool is log (stopper s index log_is) = λ slot at.
      let far : s.index ≢ slot = not_slot pool slot s.index at
      (subst (λ n. IsElsewhere pool n) (sym index) (stop_apart pool is)) in
      (idle, tt, subst (λ l. PhaseLeads slot idle l idle) (sym log_is) (idle, elsewhere far refl, refl))

  pub all_leave : (pool : Pool) → IsPoolOf m pool → (participants : List (List Step))
      → All (IsParticipantOf m) participants → All (LeavesSlots pool) participants
  all_leave pool is participants h = All-weaker (IsParticipantOf m) (LeavesSlots pool)
      (participant_leaves pool is) participants h

pub all_keep : (pool : Pool) (participants : List (List Step)) → All (LeavesSlots pool) participants
    → All (KeepsSlots pool) participants
all_keep pool participants h = All-weaker (LeavesSlots pool) (KeepsSlots pool)
    (λ log leave slot at. ((leave slot at).0, (leave slot at).2)) participants h
