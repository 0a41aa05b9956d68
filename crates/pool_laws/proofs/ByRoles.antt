-- Behaviours that come to slots by callers' roles alone.
use Rattle.std.proofs.Common.{ℕ, zero, suc, ◌+◌, ◌≡◌, ◌≢◌, ◌<◌, ◌≤◌, ◌==◌, ◌⊎◌, inl, inr, IsTrue, Bool, true, false, if◌then◌else◌, List, [], ◌∷◌, Some, refl, sym, subst, arith}
use Rattle.word_port.specs.declared.Side.TheVariants.{Pool as by_pool}
use Rattle.word_port.specs.Requests.{Request, step_of}
use Rattle.word_port.specs.Events.{Event, made, ticked, placed, new_record, waiting_look, steps_of}
use Rattle.word_port.specs.Interaction.{Interaction, ret, ask, here, tick, and_then, map_value, IsRun, AllRequests}
use Rattle.word_port.proofs.RequestLaws.{AllSteps, all_and_then}
use Rattle.switchless.specs.declared.Pool.{Pool}
use Rattle.switchless.specs.Slots.{is_offered}
use Rattle.switchless.specs.Caller.{offer, look, withdraw, collect, looks, waiting_looks, collected_status, unless_withdrawn, after_looks, after_offer, caller_within, caller, more_than_any}
use Rattle.switchless_laws.specs.Phases.{Phase, idle, IsMove, elsewhere}
use Rattle.switchless_laws.specs.Moments.{IsSlotOf}
use Rattle.pool_laws.specs.Keeping.{after_look, KeepsTo}
use Rattle.pool_laws.proofs.Keeping.{caller_kept, weaker_requests}

-- a step by another side than the pool, which leaves the phase, or a move at the slot
abbrev pub IsPlay : ℕ → Phase → Request → ℕ → Phase → Type 0
IsPlay slot phase q n next = ((q.side ≢ by_pool) × (next ≡ phase)) ⊎ IsMove slot phase (step_of q n) next

-- its steps by the pool's side are moves at the slot, and in the end nothing of its own is there
abbrev pub Plays : {A : Type 0} → ℕ → Phase → ℕ → Interaction A → Type 0
Plays slot p left (ret x) = p ≡ idle
Plays slot p left (ask q next) = (n : ℕ) → (m : Phase) × IsPlay slot p q n m × Plays slot m left (next n)
Plays slot p left (here next) = (n : ℕ) → Plays slot p left (next n)
Plays slot p left (tick new_record next) = Plays slot p left next
Plays slot p left (tick waiting_look next) = after_look left (λ k. Plays slot p k next)

-- on a word below the slots, or by the pool's side on one of these words
abbrev pub IsMine : ℕ → (ℕ → Type 0) → Request → Type 0
IsMine limit Among q = (q.index < limit) ⊎ ((q.side ≡ by_pool) × Among q.index)

-- by another side than the pool, on a word below the slots
abbrev pub IsBelow : ℕ → Request → Type 0
IsBelow limit q = (q.side ≢ by_pool) × (q.index < limit)

plays_then : {A B : Type 0} (slot : ℕ) (t : Interaction A) (f : A → Interaction B) (p : Phase) (left bound : ℕ)
    → left ≤ bound → Plays slot p left t
    → ((x : A) (k : ℕ) → k ≤ bound → Plays slot idle k (f x)) → Plays slot p left (and_then t f)
plays_then slot (ret x) f p left bound le h g = subst (λ m. Plays slot m left (f x)) (sym h) (g x left le)
plays_then slot (ask q next) f p left bound le h g = λ n. (
  (h n).0,
  (h n).1,
  plays_then slot (next n) f
      (h n).0 left bound le (h n).2 g,
)
plays_then slot (here next) f p left bound le h g = λ n. plays_then slot (next n) f p left bound le (h n) g
plays_then slot (tick new_record next) f p left bound le h g = plays_then slot next f p left bound le h g
plays_then slot (tick waiting_look next) f p zero bound le h g = tt
plays_then slot (tick waiting_look next) f p (suc left) bound le h g = plays_then slot next f p left bound
    (omega arith) h g

plays_beside : {A : Type 0} (slot : ℕ) (t : Interaction A) (left : ℕ) → AllRequests (λ q. q.side ≢ by_pool) t
    → Plays slot idle left t
plays_beside slot (ret x) left h = refl
plays_beside slot (ask q next) left h = λ n. (idle, inl (h.0, refl), plays_beside slot (next n) left (h.1 n))
plays_beside slot (here next) left h = λ n. plays_beside slot (next n) left (h n)
plays_beside slot (tick new_record next) left h = plays_beside slot next left h
plays_beside slot (tick waiting_look next) zero h = tt
plays_beside slot (tick waiting_look next) (suc left) h = plays_beside slot next left h

plays_kept : {A : Type 0} (slot : ℕ) (t : Interaction A) (p : Phase) (left : ℕ) → KeepsTo slot p left t
    → Plays slot p left t
plays_kept slot (ret x) p left h = h
plays_kept slot (ask q next) p left h = λ n. ((h n).0, inr (h n).1, plays_kept slot (next n) (h n).0 left (h n).2)
plays_kept slot (here next) p left h = λ n. plays_kept slot (next n) p left (h n)
plays_kept slot (tick new_record next) p left h = plays_kept slot next p left h
plays_kept slot (tick waiting_look next) p zero h = tt
plays_kept slot (tick waiting_look next) p (suc left) h = plays_kept slot next p left h

-- with all other steps below the slot, it keeps to the slot's rules
kept_plays : {A : Type 0} (slot limit : ℕ) (Among : ℕ → Type 0) (t : Interaction A) (p : Phase) (left : ℕ)
    → limit ≤ slot → Plays slot p left t → AllRequests (IsMine limit Among) t → KeepsTo slot p left t
kept_plays slot limit Among (ret x) p left le h a = h
kept_plays slot limit Among (ask q next) p left le h a = λ n.
    ((h n).0, by_play n a.0 (h n).1, kept_plays slot limit Among (next n) (h n).0 left le (h n).2 (a.1 n))
  where
    by_play : (n : ℕ) → IsMine limit Among q → IsPlay slot p q n (h n).0 → IsMove slot p (step_of q n) (h n).0
    by_play n mine (inr move) = move
    by_play n (inl low) (inl beside) = elsewhere (λ e. omega (arith, low, le, e)) beside.1
    by_play n (inr pool) (inl beside) = absurd (beside.0 pool.0)
kept_plays slot limit Among (here next) p left le h a = λ n. kept_plays slot limit Among (next n) p left le (h n) (a n)
kept_plays slot limit Among (tick new_record next) p left le h a = kept_plays slot limit Among next p left le h a
kept_plays slot limit Among (tick waiting_look next) p zero le h a = tt
kept_plays slot limit Among (tick waiting_look next) p (suc left) le h a =
    kept_plays slot limit Among next p left le h a

-- it comes to slots by callers' roles alone, and to these words alone; all its other steps are below the slots
pub record ByRoles (limit : ℕ) (Among : ℕ → Type 0) (slot : ℕ) {A : Type 0} (t : Interaction A) : Type 0 where
  pub plays : (left : ℕ) → left ≤ more_than_any → Plays slot idle left t
  pub mine : AllRequests (IsMine limit Among) t

pub roles_keep : {A : Type 0} (limit : ℕ) (Among : ℕ → Type 0) (slot : ℕ) (t : Interaction A) (left : ℕ) → limit ≤ slot
    → left ≤ more_than_any → ByRoles limit Among slot t → KeepsTo slot idle left t
roles_keep limit Among slot t left le few h = kept_plays slot limit Among t idle left le (h.plays left few) h.mine

module _ (limit : ℕ) (Among : ℕ → Type 0) (slot : ℕ) where
  pub roles_ret : {A : Type 0} (x : A) → ByRoles limit Among slot (ret x)
  roles_ret x = record { plays = λ left le. refl; mine = tt }

  pub roles_then : {A B : Type 0} (t : Interaction A) (f : A → Interaction B) → ByRoles limit Among slot t
      → ((x : A) → ByRoles limit Among slot (f x)) → ByRoles limit Among slot (and_then t f)
  roles_then t f p q = record {
    plays = λ left le. plays_then slot t f idle left more_than_any le (p.plays left le) (λ x k few. (q x).plays k few);
    mine = all_and_then (IsMine limit Among) t f p.mine (λ x. (q x).mine);
  }

  pub roles_map : {A B : Type 0} (f : A → B) (t : Interaction A) → ByRoles limit Among slot t
      → ByRoles limit Among slot (map_value f t)
  roles_map f t p = roles_then t (λ x. ret (f x)) p (λ x. roles_ret (f x))

  pub roles_here : {A : Type 0} (next : ℕ → Interaction A) → ((n : ℕ) → ByRoles limit Among slot (next n))
      → ByRoles limit Among slot (here next)
  roles_here next p = record { plays = λ left le n. (p n).plays left le; mine = λ n. (p n).mine }

  pub roles_record : {A : Type 0} (t : Interaction A) → ByRoles limit Among slot t
      → ByRoles limit Among slot (tick new_record t)
  roles_record t p = record { plays = λ left le. p.plays left le; mine = p.mine }

  pub roles_below : {A : Type 0} (t : Interaction A) → AllRequests (IsBelow limit) t → ByRoles limit Among slot t
  roles_below t h = record {
    plays = λ left le. plays_beside slot t left (weaker_requests (IsBelow limit) (λ q. q.side ≢ by_pool)
        (λ q b. b.0) t h);
    mine = weaker_requests (IsBelow limit) (IsMine limit Among) (λ q b. inl b.1) t h;
  }

  -- of two parts, where the steps of the whole are known
  pub plays_two : {A B : Type 0} (t : Interaction A) (f : A → Interaction B)
      → ((left : ℕ) → left ≤ more_than_any → Plays slot idle left t)
      → ((x : A) (left : ℕ) → left ≤ more_than_any → Plays slot idle left (f x))
      → (left : ℕ) → left ≤ more_than_any → Plays slot idle left (and_then t f)
  plays_two t f p q left le = plays_then slot t f idle left more_than_any le (p left le) q

  pub plays_other : {A : Type 0} (t : Interaction A) → AllRequests (λ q. q.side ≢ by_pool) t → (left : ℕ)
      → left ≤ more_than_any → Plays slot idle left t
  plays_other t h left le = plays_beside slot t left h

-- the steps of a caller's role are by the pool's side, on its pool's slots
module _ (Among : ℕ → Type 0) where
  abbrev IsRoleStep : Request → Type 0
  IsRoleStep q = (q.side ≡ by_pool) × Among q.index

  abbrev Steps : {A : Type 0} → Interaction A → Type 0
  Steps t = AllRequests IsRoleStep t

  module _ (slot : ℕ) (at : Among slot) where
    look_steps : Steps (look slot)
    unfolding look
    look_steps = ((refl, at), λ n. tt)

    looks_steps : (count : ℕ) → Steps (looks slot count)
    unfolding looks
    looks_steps zero = tt
    looks_steps (suc count) =
        all_and_then IsRoleStep (look slot) (λ done. if done then ret true else looks slot count) look_steps
        (λ done. elim done as
        (λ b. Steps (if b then ret true else looks slot count)) [ true ↦ tt | false ↦ looks_steps count ])

    waits_steps : (most : ℕ) → Steps (waiting_looks slot most)
    unfolding waiting_looks
    waits_steps zero = tt
    waits_steps (suc most) =
        all_and_then IsRoleStep (look slot) (λ done. if done then ret tt else waiting_looks slot most) look_steps
        (λ done. elim done as
        (λ b. Steps (if b then ret tt else waiting_looks slot most)) [ true ↦ tt | false ↦ waits_steps most ])

    collect_steps : Steps (collected_status slot)
    unfolding collect
    collect_steps = ((refl, at), λ n. tt)

    withdrawn_steps : (most : ℕ) (won : Bool) → Steps (unless_withdrawn most slot won)
    withdrawn_steps most true = tt
    withdrawn_steps most false = all_and_then IsRoleStep (waiting_looks slot most) (λ done. collected_status slot)
        (waits_steps most) (λ done. collect_steps)

    looked_steps : (most word : ℕ) (done : Bool) → Steps (after_looks most slot word done)
    unfolding withdraw
    looked_steps most word true = collect_steps
    looked_steps most word false = all_and_then IsRoleStep (withdraw slot word) (unless_withdrawn most slot)
        ((refl, at), λ n. tt) (withdrawn_steps most)

    won_steps : (most word : ℕ) (pool : Pool) → Steps (after_offer most pool word (Some slot))
    won_steps most word pool = all_and_then IsRoleStep (looks slot pool.retries) (after_looks most slot word)
        (looks_steps pool.retries) (looked_steps most word)

  offered_steps : (most word : ℕ) (pool : Pool) (count slot : ℕ) → ((i : ℕ) → slot ≤ i → i < slot + count → Among i)
      → Steps (and_then (offer slot count word) (after_offer most pool word))
  unfolding offer
  offered_steps most word pool zero slot among = tt
  offered_steps most word pool (suc count) slot among =
      let at : Among slot = among slot (omega arith) (omega arith) in
      let more : Steps (and_then (offer (slot + 1) count word) (after_offer most pool word)) =
      offered_steps most word pool count (slot + 1) (λ i low high. among i (omega (arith, low))
      (omega (arith, high))) in (
        (refl, at),
        λ n. elim (n == 0) as (λ b. Steps (and_then
            (if b then ret (Some slot) else offer (slot + 1) count word)
            (after_offer most pool word))) [ true ↦ won_steps slot at most word pool | false ↦ more ],
      )

  caller_steps : (pool : Pool) (word : ℕ) → ((i : ℕ) → IsSlotOf pool i → Among i) → Steps (caller pool word)
  unfolding caller_within
  caller_steps pool word among = offered_steps more_than_any word pool pool.slots pool.from
      (λ i low high. among i (low, high))

pub roles_caller : (limit : ℕ) (Among : ℕ → Type 0) (slot : ℕ) (pool : Pool) (word : ℕ) → IsTrue (is_offered word)
    → ((i : ℕ) → IsSlotOf pool i → Among i) → ByRoles limit Among slot (caller pool word)
roles_caller limit Among slot pool word offered among = record {
  plays = λ left le. plays_kept slot (caller pool word) idle left (caller_kept slot word left pool offered le);
  mine = weaker_requests (IsRoleStep Among) (IsMine limit Among) (λ q h. inr h) (caller pool word)
      (caller_steps Among pool word among);
}

-- what holds of each step of each run holds of each request
record IsEnded {A : Type 0} (t : Interaction A) : Type 0 where
  pub events : List Event
  pub value : A
  pub run : IsRun t events value

some_run : {A : Type 0} (t : Interaction A) → IsEnded t
some_run (ret x) = record { events = []; value = x; run = refl }
some_run (ask q next) = let r = some_run (next 0) in record {
  events = made
      (step_of q 0) ∷ r.events;
  value = r.value;
  run = (refl, r.run);
}
some_run (here next) = let r = some_run (next 0) in record {
  events = placed 0 ∷ r.events;
  value = r.value;
  run =
      r.run;
}
some_run (tick k next) = let r = some_run next in record {
  events = ticked k ∷ r.events;
  value = r.value;
  run =
      (refl, r.run);
}

pub requests_of_runs : {A : Type 0} (P : Request → Type 0) (t : Interaction A)
    → ((events : List Event) (x : A) → IsRun t events x → AllSteps P (steps_of events)) → AllRequests P t
requests_of_runs P (ret x) h = tt
requests_of_runs P (ask q next) h =
    let r : IsEnded (next 0) = some_run (next 0) in (
      (h (made (step_of q 0) ∷ r.events) r.value (refl, r.run)).0,
      λ n. requests_of_runs P (next n)
          (λ events x run. (h (made (step_of q n) ∷ events) x (refl, run)).1),
    )
requests_of_runs P (here next) h = λ n. requests_of_runs P (next n) (λ events x run. h (placed n ∷ events) x run)
requests_of_runs P (tick k next) h = requests_of_runs P next (λ events x run. h (ticked k ∷ events) x (refl, run))

pub both_requests : {A : Type 0} (P Q : Request → Type 0) (t : Interaction A) → AllRequests P t → AllRequests Q t
    → AllRequests (λ q. P q × Q q) t
both_requests P Q (ret x) p q = tt
both_requests P Q (ask r next) p q = ((p.0, q.0), λ n. both_requests P Q (next n) (p.1 n) (q.1 n))
both_requests P Q (here next) p q = λ n. both_requests P Q (next n) (p n) (q n)
both_requests P Q (tick k next) p q = both_requests P Q next p q

-- a step below the slots
pub roles_ask : {A : Type 0} (limit : ℕ) (Among : ℕ → Type 0) (slot : ℕ) (q : Request) (next : ℕ → Interaction A)
    → IsBelow limit q → ((n : ℕ) → ByRoles limit Among slot (next n)) → ByRoles limit Among slot (ask q next)
roles_ask limit Among slot q next b p = record {
  plays = λ left le n. (idle, inl (b.0, refl), (p n).plays left le);
  mine = (inl b.1, λ n. (p n).mine);
}
