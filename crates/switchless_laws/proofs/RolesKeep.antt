-- Participants keep to the rules of each slot.
use Rattle.std.proofs.Common.{ℕ, ◌≡◌, ◌≢◌, ◌≤◌, List, [], ◌∷◌, ◌++◌, Option, All, refl, sym, subst, arith}
use Rattle.std.specs.List.{flat_map}
use Rattle.std.proofs.lemmas.List.Elements.{All-head, All-tail}
use Rattle.word_port.specs.declared.Step.{Step}
use Rattle.word_port.specs.Requests.{Request}
use Rattle.word_port.specs.Events.{steps_of}
use Rattle.word_port.specs.Interaction.{Interaction, ret, ask, here, tick, AllRequests}
use Rattle.switchless.specs.declared.Pool.{Pool as Slots}
use Rattle.switchless.specs.Caller.{caller, more_than_any}
use Rattle.switchless.specs.Worker.{worker}
use Rattle.switchless_laws.specs.Phases.{Phase, idle, elsewhere, PhaseLeads}
use Rattle.switchless_laws.specs.Moments.{IsSlotOf, KeepsSlots, HoldsNothing, LeavesSlots}
use Rattle.switchless_laws.specs.Roles.{IsElsewhere, IsCallerLog, IsWorkerLog, IsWholeRole, IsRole, IsLeftRole, IsParticipant, HasLeft}
use Rattle.switchless_laws.proofs.Following.{Led, follows_events}
use Rattle.switchless_laws.proofs.CallerFollows.{Any, caller_follows}
use Rattle.switchless_laws.proofs.WorkerFollows.{worker_follows}

weaker_requests : {A : Type 0} (P Q : Request → Type 0) → ((q : Request) → P q → Q q) → (t : Interaction A) → AllRequests P t → AllRequests Q t
weaker_requests P Q f (ret x) h = tt
weaker_requests P Q f (ask q next) h = (f q h.0, λ n. weaker_requests P Q f (next n) (h.1 n))
weaker_requests P Q f (here next) h = λ n. weaker_requests P Q f (next n) (h n)
weaker_requests P Q f (tick k next) h = weaker_requests P Q f next h

leads_append : (slot : ℕ) (p m last : Phase) (xs ys : List Step) → PhaseLeads slot p xs m → PhaseLeads slot m ys last → PhaseLeads slot p (xs ++ ys) last
leads_append slot p m last [] ys f g = subst (λ n. PhaseLeads slot n ys last) (sym f) g
leads_append slot p m last (s ∷ xs) ys f g = (f.0, f.1, leads_append slot f.0 m last xs ys f.2 g)

module _ (R : Type 0) (pool : Slots) (slot : ℕ) (at : IsSlotOf pool slot) where
  not_slot : (index : ℕ) → IsElsewhere pool index → index ≢ slot
  not_slot index far e = far (subst (λ n. IsSlotOf pool n) (sym e) at)

  other_leads : (log : List Step) → All (λ s. IsElsewhere pool s.index) log → PhaseLeads slot idle log idle
  other_leads [] h = refl
  other_leads (s ∷ log) h =
      (idle, elsewhere (not_slot s.index (All-head (λ (u : Step). IsElsewhere pool u.index) s log h)) refl, other_leads log (All-tail (λ (u : Step). IsElsewhere pool u.index) s log h))

  caller_led : (log : List Step) (rest : Interaction (Option ℕ)) → (h : IsCallerLog log rest)
      → Led slot Any idle (steps_of h.events) rest (λ x m left. (m ≡ idle) × (left ≤ more_than_any))
  caller_led log rest h =
      let le : more_than_any ≤ more_than_any = omega arith in
      follows_events slot Any (caller h.pool h.word) rest h.events (λ x m left. (m ≡ idle) × (left ≤ more_than_any)) idle more_than_any tt
      (caller_follows slot h.word more_than_any h.offers more_than_any more_than_any h.pool le le) h.begun h.waits

  worker_led : (log : List Step) (rest : Interaction (List R)) → (h : IsWorkerLog R pool log rest)
      → Led slot HoldsNothing idle (steps_of h.events) rest (λ x m left. (m ≡ idle) × (left ≤ more_than_any))
  worker_led log rest h =
      let le : more_than_any ≤ more_than_any = omega arith in
      follows_events slot HoldsNothing (worker h.setup) rest h.events (λ x m left. (m ≡ idle) × (left ≤ more_than_any)) idle more_than_any tt
      (worker_follows h.setup slot more_than_any
      (λ ordinal frame. weaker_requests (λ q. IsElsewhere pool q.index) (λ q. q.index ≢ slot) (λ q far. not_slot q.index far) (h.setup.serve ordinal frame) (h.serves ordinal frame))
      (not_slot h.setup.stop h.stops) more_than_any le) h.begun h.waits

  pub caller_ended : (log : List Step) (end : Option ℕ) → IsCallerLog log (ret end) → PhaseLeads slot idle log idle
  caller_ended log end h =
      let led : Led slot Any idle (steps_of h.events) (ret end) (λ x m left. (m ≡ idle) × (left ≤ more_than_any)) = caller_led log (ret end) h in
      subst (λ l. PhaseLeads slot idle l idle) h.steps (subst (λ m. PhaseLeads slot idle (steps_of h.events) m) led.follows.0 led.leads)

  whole_leads : (log : List Step) → IsWholeRole R pool log → PhaseLeads slot idle log idle
  whole_leads log (IsWholeRole.other_steps h) = other_leads log h
  whole_leads log (IsWholeRole.called end h) = caller_ended log end h
  whole_leads log (IsWholeRole.worked records h) =
      let led : Led slot HoldsNothing idle (steps_of h.events) (ret records) (λ x m left. (m ≡ idle) × (left ≤ more_than_any)) = worker_led log (ret records) h in
      subst (λ l. PhaseLeads slot idle l idle) h.steps (subst (λ m. PhaseLeads slot idle (steps_of h.events) m) led.follows.0 led.leads)

  role_leads : (log : List Step) → IsRole R pool log → (last : Phase) × PhaseLeads slot idle log last
  role_leads log (IsRole.other_steps h) = (idle, other_leads log h)
  role_leads log (IsRole.calls rest h) =
      let led : Led slot Any idle (steps_of h.events) rest (λ x m left. (m ≡ idle) × (left ≤ more_than_any)) = caller_led log rest h in
      (led.last, subst (λ l. PhaseLeads slot idle l led.last) h.steps led.leads)
  role_leads log (IsRole.works rest h) =
      let led : Led slot HoldsNothing idle (steps_of h.events) rest (λ x m left. (m ≡ idle) × (left ≤ more_than_any)) = worker_led log rest h in
      (led.last, subst (λ l. PhaseLeads slot idle l led.last) h.steps led.leads)

  left_leads : (log : List Step) → IsLeftRole R pool log → (last : Phase) × HoldsNothing last × PhaseLeads slot idle log last
  left_leads log (IsLeftRole.other_steps h) = (idle, tt, other_leads log h)
  left_leads log (IsLeftRole.called end h) = (idle, tt, caller_ended log end h)
  left_leads log (IsLeftRole.works rest h) =
      let led : Led slot HoldsNothing idle (steps_of h.events) rest (λ x m left. (m ≡ idle) × (left ≤ more_than_any)) = worker_led log rest h in
      (led.last, led.valid, subst (λ l. PhaseLeads slot idle l led.last) h.steps led.leads)

  pub worker_leads : (log : List Step) (rest : Interaction (List R)) → IsWorkerLog R pool log rest → (last : Phase) × HoldsNothing last × PhaseLeads slot idle log last
  worker_leads log rest h = left_leads log (IsLeftRole.works rest h)

  done_leads : (done : List (List Step)) → All (IsWholeRole R pool) done → PhaseLeads slot idle (flat_map (λ l. l) done) idle
  done_leads [] h = refl
  done_leads (log ∷ done) h =
      leads_append slot idle idle idle log (flat_map (λ l. l) done) (whole_leads log (All-head (IsWholeRole R pool) log done h)) (done_leads done (All-tail (IsWholeRole R pool) log done h))

pub participant_keeps : (R : Type 0) (pool : Slots) (log : List Step) → IsParticipant R pool log → KeepsSlots pool log
participant_keeps R pool log h slot at =
    let last : (p : Phase) × PhaseLeads slot idle h.last p = role_leads R pool slot at h.last h.last_role in (
      last.0,
      subst (λ l. PhaseLeads slot idle l last.0) h.steps
          (leads_append slot idle idle last.0 (flat_map (λ l. l) h.done) h.last (done_leads R pool slot at h.done h.roles) last.1),
    )

pub participant_leaves : (R : Type 0) (pool : Slots) (log : List Step) → HasLeft R pool log → LeavesSlots pool log
participant_leaves R pool log h slot at =
    let last : (p : Phase) × HoldsNothing p × PhaseLeads slot idle h.last p = left_leads R pool slot at h.last h.last_role in (
      last.0,
      last.1,
      subst (λ l. PhaseLeads slot idle l last.0) h.steps
          (leads_append slot idle idle last.0 (flat_map (λ l. l) h.done) h.last (done_leads R pool slot at h.done h.roles) last.2),
    )
