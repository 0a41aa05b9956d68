-- The caller's role keeps to the rules of each slot.
use Rattle.std.proofs.Common.{ℕ, zero, suc, ◌+◌, ◌≡◌, ◌≢◌, ◌≤◌, ◌==◌, ◌⊎◌, inl, inr, IsTrue, Bool, true, false, if◌then◌else◌, Option, Some, None, refl, ap, sym, ◌∙◌, subst, arith}
use Rattle.std.proofs.lemmas.Bool.Decides.{eqb_tells}
use Rattle.word_port.specs.declared.Side.TheVariants.{Pool}
use Rattle.word_port.specs.Requests.{step_of, cas_of}
use Rattle.word_port.specs.Interaction.{Interaction, ret, AllRequests}
use Rattle.word_port.proofs.RequestLaws.{all_and_then}
use Rattle.switchless.specs.declared.Pool.{Pool as Slots}
use Rattle.switchless.specs.Slots.{is_offered, is_done}
use Rattle.switchless.specs.Caller.{offer, look, withdraw, collect, looks, waiting_looks, collected_status, unless_withdrawn, after_looks, after_offer, caller_within}
use Rattle.switchless_laws.specs.Phases.{Phase, idle, holds, seen, IsMove, elsewhere, there, FromIdle, FromHolding}
use Rattle.switchless_laws.proofs.Following.{Follows, follows_then, follows_away}

-- every phase
abbrev pub Any : Phase → Type 0
Any p = Unit {0}

module _ (slot w bound : ℕ) (o : IsTrue (is_offered w)) where
  -- nothing is left to do at the slot
  abbrev pub Ends : {A : Type 0} → A → Phase → ℕ → Type 0
  Ends x m left = (m ≡ idle) × (left ≤ bound)

  abbrev Looked : Bool → Phase → ℕ → Type 0
  Looked done m left = (m ≡ (if done then seen w else holds w)) × (left ≤ bound)

  abbrev Waited : Unit {0} → Phase → ℕ → Type 0
  Waited x m left = (m ≡ seen w) × (left ≤ bound)

  looks_follow : (count left : ℕ) → left ≤ bound → Follows slot Any (holds w) left (looks slot count) Looked
  unfolding looks look
  looks_follow zero left le = (refl, le)
  looks_follow (suc count) left le = λ n. ((if is_done n then seen w else holds w), there refl (FromHolding.looked refl refl), tt, by_tag (looks_follow count left le) (is_done n))
    where
      by_tag : Follows slot Any (holds w) left (looks slot count) Looked → (d : Bool) → Follows slot Any (if d then seen w else holds w) left (if d then ret true else looks slot count) Looked
      by_tag more true = (refl, le)
      by_tag more false = more

  waits_follow : (most left : ℕ) → left ≤ most → left ≤ bound → Follows slot Any (holds w) left (waiting_looks slot most) Waited
  unfolding waiting_looks look
  waits_follow zero zero few le = tt
  waits_follow zero (suc left) few le = absurd (omega (arith, few))
  waits_follow (suc most) zero few le = tt
  waits_follow (suc most) (suc left) few le =
      λ n. ((if is_done n then seen w else holds w), there refl (FromHolding.looked refl refl), tt, by_tag (waits_follow most left (omega arith) (omega arith)) (is_done n))
    where
      by_tag : Follows slot Any (holds w) left (waiting_looks slot most) Waited → (d : Bool) → Follows slot Any (if d then seen w else holds w) left (if d then ret tt else waiting_looks slot most) Waited
      by_tag more true = (refl, omega arith)
      by_tag more false = more

  collect_follows : (left : ℕ) → left ≤ bound → Follows slot Any (seen w) left (collected_status slot) Ends
  unfolding collect
  collect_follows left le = λ n. (idle, there refl (record { collected = refl; is_idle = refl }), tt, (refl, le))

  after_wait_follows : (left : ℕ) (m : Phase) → (m ≡ seen w) × (left ≤ bound) → Follows slot Any m left (collected_status slot) Ends
  after_wait_follows left m h = subst (λ p. Follows slot Any p left (collected_status slot) Ends) (sym h.0) (collect_follows left h.1)

  unless_follows : (most left : ℕ) → bound ≤ most → left ≤ bound → (won : Bool) → Follows slot Any (if won then idle else holds w) left (unless_withdrawn most slot won) Ends
  unless_follows most left few le true = (refl, le)
  unless_follows most left few le false =
      follows_then slot Any (waiting_looks slot most) (λ done. collected_status slot) Waited Ends (holds w) left (waits_follow most left (omega arith) le) (λ x m k h. after_wait_follows k m h)

  after_looks_follows : (most left : ℕ) → bound ≤ most → left ≤ bound → (done : Bool) → Follows slot Any (if done then seen w else holds w) left (after_looks most slot w done) Ends
  unfolding withdraw
  after_looks_follows most left few le true = collect_follows left le
  after_looks_follows most left few le false = λ n. ((if n == w then idle else holds w), there refl (FromHolding.withdrew refl refl), tt, unless_follows most left few le (n == w))

  -- the slot that was won
  abbrev IsWon : Option ℕ → Phase → ℕ → Type 0
  IsWon None m left = (m ≡ idle) × (left ≤ bound)
  IsWon (Some s) m left = (m ≡ (if s == slot then holds w else idle)) × (left ≤ bound)

  offer_follows : (s count left : ℕ) → left ≤ bound → Follows slot Any idle left (offer s count w) IsWon
  unfolding offer
  offer_follows s zero left le = (refl, le)
  offer_follows s (suc count) left le = λ n. by_place n (offer_follows (s + 1) count left le) (eqb_tells s slot)
    where
      by_place : (n : ℕ) → Follows slot Any idle left (offer (s + 1) count w) IsWon → ((s == slot) ≡ true) × (s ≡ slot) ⊎ ((s == slot) ≡ false) × (s ≢ slot)
          → (m : Phase) × IsMove slot idle (step_of (cas_of Pool s 0 w) n) m × Any m × Follows slot Any m left (if n == 0 then ret (Some s) else offer (s + 1) count w) IsWon
      by_place n more (inl h) = (
        (if n == 0 then holds w else idle),
        there h.1 (FromIdle.offered w o (ap (λ i. step_of (cas_of Pool i 0 w) n) h.1) refl),
        tt,
        won (n == 0),
      )
        where
          won : (d : Bool) → Follows slot Any (if d then holds w else idle) left (if d then ret (Some s) else offer (s + 1) count w) IsWon
          won true = (ap (λ b. if b then holds w else idle) (sym h.0), le)
          won false = more
      by_place n more (inr h) = (idle, elsewhere h.1 refl, tt, won (n == 0))
        where
          won : (d : Bool) → Follows slot Any idle left (if d then ret (Some s) else offer (s + 1) count w) IsWon
          won true = (ap (λ b. if b then holds w else idle) (sym h.0), le)
          won false = more

  abbrev Avoids : {A : Type 0} → Interaction A → Type 0
  Avoids t = AllRequests (λ q. q.index ≢ slot) t

  module _ (s : ℕ) (far : s ≢ slot) where
    looks_avoid : (count : ℕ) → Avoids (looks s count)
    unfolding looks look
    looks_avoid zero = tt
    looks_avoid (suc count) = (far, λ n. by_tag (looks_avoid count) (is_done n))
      where
        by_tag : Avoids (looks s count) → (d : Bool) → Avoids (if d then ret true else looks s count)
        by_tag more true = tt
        by_tag more false = more

    waits_avoid : (most : ℕ) → Avoids (waiting_looks s most)
    unfolding waiting_looks look
    waits_avoid zero = tt
    waits_avoid (suc most) = (far, λ n. by_tag (waits_avoid most) (is_done n))
      where
        by_tag : Avoids (waiting_looks s most) → (d : Bool) → Avoids (if d then ret tt else waiting_looks s most)
        by_tag more true = tt
        by_tag more false = more

    collect_avoids : Avoids (collected_status s)
    unfolding collect
    collect_avoids = (far, λ n. tt)

    unless_avoids : (most : ℕ) (won : Bool) → Avoids (unless_withdrawn most s won)
    unless_avoids most true = tt
    unless_avoids most false = all_and_then (λ q. q.index ≢ slot) (waiting_looks s most) (λ done. collected_status s) (waits_avoid most) (λ x. collect_avoids)

    after_looks_avoids : (most : ℕ) (done : Bool) → Avoids (after_looks most s w done)
    unfolding withdraw
    after_looks_avoids most true = collect_avoids
    after_looks_avoids most false = (far, λ n. unless_avoids most (n == w))

    won_avoids : (most : ℕ) (pool : Slots) → Avoids (after_offer most pool w (Some s))
    won_avoids most pool = all_and_then (λ q. q.index ≢ slot) (looks s pool.retries) (after_looks most s w) (looks_avoid pool.retries) (λ d. after_looks_avoids most d)

  won_follows : (most left : ℕ) (pool : Slots) → bound ≤ most → left ≤ bound → Follows slot Any (holds w) left (after_offer most pool w (Some slot)) Ends
  won_follows most left pool few le =
      follows_then slot Any (looks slot pool.retries) (after_looks most slot w) Looked Ends (holds w) left (looks_follow pool.retries left le)
      (λ d m k h. subst (λ p. Follows slot Any p k (after_looks most slot w d) Ends) (sym h.0) (after_looks_follows most k few h.1 d))

  after_offer_follows : (most left : ℕ) (pool : Slots) → bound ≤ most → (won : Option ℕ) (m : Phase) → IsWon won m left → Follows slot Any m left (after_offer most pool w won) Ends
  after_offer_follows most left pool few None m h = h
  after_offer_follows most left pool few (Some s) m h = by_place (eqb_tells s slot)
    where
      by_place : ((s == slot) ≡ true) × (s ≡ slot) ⊎ ((s == slot) ≡ false) × (s ≢ slot) → Follows slot Any m left (after_offer most pool w (Some s)) Ends
      by_place (inl e) =
          let is : m ≡ holds w = h.0 ∙ ap (λ b. if b then holds w else idle) e.0 in
          subst (λ p. Follows slot Any p left (after_offer most pool w (Some s)) Ends) (sym is)
          (subst (λ i. Follows slot Any (holds w) left (after_offer most pool w (Some i)) Ends) (sym e.1) (won_follows most left pool few h.1))
      by_place (inr e) =
          let is : m ≡ idle = h.0 ∙ ap (λ b. if b then holds w else idle) e.0 in
          subst (λ p. Follows slot Any p left (after_offer most pool w (Some s)) Ends) (sym is) (follows_away slot Any (after_offer most pool w (Some s)) idle left bound tt h.1 (won_avoids s e.1 most pool))

  -- the whole role
  pub caller_follows : (most left : ℕ) (pool : Slots) → bound ≤ most → left ≤ bound → Follows slot Any idle left (caller_within most pool w) Ends
  unfolding caller_within
  caller_follows most left pool few le =
      follows_then slot Any (offer pool.from pool.slots w) (after_offer most pool w) IsWon Ends idle left (offer_follows pool.from pool.slots left le)
      (λ won m k h. after_offer_follows most k pool few won m h)
