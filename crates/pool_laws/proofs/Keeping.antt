-- Behaviours that keep to the rules of a slot: their parts, and their logs.
use Rattle.std.proofs.Common.{ℕ, zero, suc, ◌≡◌, ◌≢◌, ◌≤◌, IsTrue, [], ◌++◌, refl, sym, ◌∙◌, ap, subst, arith}
use Rattle.word_port.specs.Requests.{Request}
use Rattle.word_port.specs.Events.{new_record, waiting_look, steps_of, waits_in}
use Rattle.word_port.specs.Limits.{Progress}
use Rattle.word_port.specs.Interaction.{Interaction, ret, ask, here, tick, and_then, AllRequests}
use Rattle.word_port.specs.Runs.{Reaches}
use Rattle.switchless.specs.declared.Pool.{Pool}
use Rattle.switchless.specs.Slots.{is_offered}
use Rattle.switchless.specs.Caller.{caller, more_than_any}
use Rattle.switchless_laws.specs.Phases.{Phase, idle, elsewhere, PhaseLeads}
use Rattle.switchless_laws.specs.Moments.{IsSlotOf, KeepsSlots, LeavesSlots}
use Rattle.switchless_laws.proofs.Following.{Follows, Led, follows_events}
use Rattle.switchless_laws.proofs.CallerFollows.{Any, caller_follows}
use Rattle.pool_laws.specs.Keeping.{KeepsTo, KeepsPool}

-- nothing of its own is at the slot, and so many waiting looks are left at most
abbrev pub Ends : ℕ → {A : Type 0} → A → Phase → ℕ → Type 0
Ends bound x phase left = (phase ≡ idle) × (left ≤ bound)

module _ (slot : ℕ) where
  pub follows_kept : {A : Type 0} (V : Phase → Type 0) (t : Interaction A) (p : Phase) (left bound : ℕ)
      → Follows slot V p left t (Ends bound) → KeepsTo slot p left t
  follows_kept V (ret x) p left bound h = h.0
  follows_kept V (ask q next) p left bound h = λ n. (
    (h n).0,
    (h n).1,
    follows_kept V (next n) (h n).0 left bound
        (h n).3,
  )
  follows_kept V (here next) p left bound h = λ n. follows_kept V (next n) p left bound (h n)
  follows_kept V (tick new_record next) p left bound h = follows_kept V next p left bound h
  follows_kept V (tick waiting_look next) p zero bound h = tt
  follows_kept V (tick waiting_look next) p (suc left) bound h = follows_kept V next p left bound h

  pub kept_follows : {A : Type 0} (t : Interaction A) (p : Phase) (left bound : ℕ) → left ≤ bound
      → KeepsTo slot p left t → Follows slot Any p left t (Ends bound)
  kept_follows (ret x) p left bound le h = (h, le)
  kept_follows (ask q next) p left bound le h = λ n. (
    (h n).0,
    (h n).1,
    tt,
    kept_follows (next n) (h n).0 left bound le
        (h n).2,
  )
  kept_follows (here next) p left bound le h = λ n. kept_follows (next n) p left bound le (h n)
  kept_follows (tick new_record next) p left bound le h = kept_follows next p left bound le h
  kept_follows (tick waiting_look next) p zero bound le h = tt
  kept_follows (tick waiting_look next) p (suc left) bound le h = kept_follows next p left bound (omega arith) h

  -- one after another
  pub keeps_then : {A B : Type 0} (t : Interaction A) (f : A → Interaction B) (p : Phase) (left bound : ℕ)
      → left ≤ bound → KeepsTo slot p left t
      → ((x : A) (k : ℕ) → k ≤ bound → KeepsTo slot idle k (f x)) → KeepsTo slot p left (and_then t f)
  keeps_then (ret x) f p left bound le h g = subst (λ m. KeepsTo slot m left (f x)) (sym h) (g x left le)
  keeps_then (ask q next) f p left bound le h g = λ n. (
    (h n).0,
    (h n).1,
    keeps_then (next n) f (h n).0 left bound le
        (h n).2 g,
  )
  keeps_then (here next) f p left bound le h g = λ n. keeps_then (next n) f p left bound le (h n) g
  keeps_then (tick new_record next) f p left bound le h g = keeps_then next f p left bound le h g
  keeps_then (tick waiting_look next) f p zero bound le h g = tt
  keeps_then (tick waiting_look next) f p (suc left) bound le h g = keeps_then next f p left bound (omega arith) h g

  -- what makes no step on the slot
  pub keeps_away : {A : Type 0} (t : Interaction A) (left : ℕ) → AllRequests (λ q. q.index ≢ slot) t
      → KeepsTo slot idle left t
  keeps_away (ret x) left h = refl
  keeps_away (ask q next) left h = λ n. (idle, elsewhere h.0 refl, keeps_away (next n) left (h.1 n))
  keeps_away (here next) left h = λ n. keeps_away (next n) left (h n)
  keeps_away (tick new_record next) left h = keeps_away next left h
  keeps_away (tick waiting_look next) zero h = tt
  keeps_away (tick waiting_look next) (suc left) h = keeps_away next left h

-- a participant's log, from its beginning on
module _ {A : Type 0} (pool : Pool) (t rest : Interaction A) (before after : Progress) (empty : before.port.log ≡ [])
    (few : before.waits ≤ more_than_any) (r : Reaches t before after rest)
    (kept : KeepsPool pool t) where
  pub waits_few : waits_in r.events ≤ more_than_any
  waits_few = let all = r.waits in omega (arith, all, few)

  log_is : steps_of r.events ≡ after.port.log
  log_is = sym (ap (λ p. p.log) r.grown ∙ ap (λ l. l ++ steps_of r.events) empty)

  led : (slot : ℕ) → IsSlotOf pool slot → Led slot Any idle (steps_of r.events) rest (Ends more_than_any)
  led slot at =
      let all : more_than_any ≤ more_than_any = omega arith in
      follows_events slot Any t rest r.events (Ends more_than_any) idle more_than_any tt
      (kept_follows slot t idle more_than_any more_than_any all (kept slot more_than_any at all)) r.begun waits_few

  pub log_keeps : KeepsSlots pool after.port.log
  log_keeps slot at = (
    (led slot at).last,
    subst (λ l. PhaseLeads slot idle l (led slot at).last) log_is
        (led slot at).leads,
  )

-- and of a whole run
pub log_leaves : {A : Type 0} (pool : Pool) (t : Interaction A) (x : A) (before after : Progress)
    → before.port.log ≡ [] → before.waits ≤ more_than_any → Reaches t before after (ret x) → KeepsPool pool t
    → LeavesSlots pool after.port.log
log_leaves pool t x before after empty few r kept slot at =
    let l : Led slot Any idle (steps_of r.events) (ret x) (Ends more_than_any) = led pool t
    (ret x) before after empty few r kept slot at in (
      idle,
      tt,
      subst (λ steps. PhaseLeads slot idle steps idle) (log_is pool t (ret x) before after empty few r kept)
          (subst (λ m. PhaseLeads slot idle (steps_of r.events) m) l.follows.0 l.leads),
    )

-- a caller's role, in any pool
pub caller_kept : (slot word left : ℕ) (pool : Pool) → IsTrue (is_offered word) → left ≤ more_than_any
    → KeepsTo slot idle left (caller pool word)
caller_kept slot word left pool offered le =
    let all : more_than_any ≤ more_than_any = omega arith in
    follows_kept slot Any (caller pool word) idle left more_than_any
    (caller_follows slot word more_than_any offered more_than_any left pool all le)

pub weaker_requests : {A : Type 0} (P Q : Request → Type 0) → ((q : Request) → P q → Q q) → (t : Interaction A)
    → AllRequests P t → AllRequests Q t
weaker_requests P Q f (ret x) h = tt
weaker_requests P Q f (ask q next) h = (f q h.0, λ n. weaker_requests P Q f (next n) (h.1 n))
weaker_requests P Q f (here next) h = λ n. weaker_requests P Q f (next n) (h n)
weaker_requests P Q f (tick k next) h = weaker_requests P Q f next h

-- a participant makes no more waiting looks than it had
pub few_looks : {A : Type 0} (t rest : Interaction A) (before after : Progress) (r : Reaches t before after rest)
    → waits_in r.events ≤ before.waits
few_looks t rest before after r = let all = r.waits in omega (arith, all)
