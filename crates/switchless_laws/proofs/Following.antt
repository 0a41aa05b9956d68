-- Behaviours that keep to the rules of a slot.
use Rattle.std.proofs.Common.{ℕ, zero, suc, ◌≡◌, ◌≢◌, ◌≤◌, List, [], ◌∷◌, refl, sym, subst, arith}
use Rattle.word_port.specs.declared.Step.{Step}
use Rattle.word_port.specs.Requests.{step_of}
use Rattle.word_port.specs.Events.{Event, made, ticked, placed, new_record, waiting_look, steps_of, waits_in}
use Rattle.word_port.specs.Interaction.{Interaction, ret, ask, here, tick, and_then, IsAfter, AllRequests}
use Rattle.switchless_laws.specs.Phases.{Phase, IsMove, elsewhere, PhaseLeads}

-- after a waiting look, where one is left
abbrev pub after_wait : ℕ → (ℕ → Type 0) → Type 0
after_wait zero P = Unit {0}
after_wait (suc left) P = P left

module _ (slot : ℕ) (V : Phase → Type 0) where
  -- with so many waiting looks left, each step is a move at the slot to a phase of this kind, and what it ends with is as said
  abbrev pub Follows : {A : Type 0} → Phase → ℕ → Interaction A → (A → Phase → ℕ → Type 0) → Type 0
  Follows p left (ret x) Q = Q x p left
  Follows p left (ask q next) Q = (n : ℕ) → (m : Phase) × IsMove slot p (step_of q n) m × V m × Follows m left (next n) Q
  Follows p left (here next) Q = (n : ℕ) → Follows p left (next n) Q
  Follows p left (tick new_record next) Q = Follows p left next Q
  Follows p left (tick waiting_look next) Q = after_wait left (λ k. Follows p k next Q)

  -- one after another
  pub follows_then : {A B : Type 0} (t : Interaction A) (f : A → Interaction B) (Q : A → Phase → ℕ → Type 0) (R : B → Phase → ℕ → Type 0) (p : Phase) (left : ℕ)
      → Follows p left t Q → ((x : A) (m : Phase) (k : ℕ) → Q x m k → Follows m k (f x) R) → Follows p left (and_then t f) R
  follows_then (ret x) f Q R p left h g = g x p left h
  follows_then (ask q next) f Q R p left h g = λ n. ((h n).0, (h n).1, (h n).2, follows_then (next n) f Q R (h n).0 left (h n).3 g)
  follows_then (here next) f Q R p left h g = λ n. follows_then (next n) f Q R p left (h n) g
  follows_then (tick new_record next) f Q R p left h g = follows_then next f Q R p left h g
  follows_then (tick waiting_look next) f Q R p zero h g = tt
  follows_then (tick waiting_look next) f Q R p (suc left) h g = follows_then next f Q R p left h g

  -- what makes no step on the slot follows in every phase
  pub follows_away : {A : Type 0} (t : Interaction A) (p : Phase) (left bound : ℕ) → V p → left ≤ bound → AllRequests (λ q. q.index ≢ slot) t → Follows p left t (λ x m k. (m ≡ p) × (k ≤ bound))
  follows_away (ret x) p left bound v le h = (refl, le)
  follows_away (ask q next) p left bound v le h = λ n. (p, elsewhere h.0 refl, v, follows_away (next n) p left bound v le (h.1 n))
  follows_away (here next) p left bound v le h = λ n. follows_away (next n) p left bound v le (h n)
  follows_away (tick new_record next) p left bound v le h = follows_away next p left bound v le h
  follows_away (tick waiting_look next) p zero bound v le h = tt
  follows_away (tick waiting_look next) p (suc left) bound v le h = follows_away next p left bound v (omega arith) h

  -- the events of what follows lead through phases
  pub record Led {A : Type 0} (p : Phase) (steps : List Step) (rest : Interaction A) (Q : A → Phase → ℕ → Type 0) : Type 0 where
    pub last : Phase
    pub left : ℕ
    pub leads : PhaseLeads slot p steps last
    pub valid : V last
    pub follows : Follows last left rest Q

  pub follows_events : {A : Type 0} (t rest : Interaction A) (events : List Event) (Q : A → Phase → ℕ → Type 0) (p : Phase) (left : ℕ)
      → V p → Follows p left t Q → IsAfter t events rest → waits_in events ≤ left → Led p (steps_of events) rest Q
  follows_events t rest [] Q p left v f h w = record { last = p; left = left; leads = refl; valid = v; follows = subst (λ u. Follows p left u Q) h f }
  follows_events (ret x) rest (e ∷ events) Q p left v f h w = absurd h
  follows_events (ask q next) rest (made s ∷ events) Q p left v f h w =
      let now : (m : Phase) × IsMove slot p (step_of q s.answer) m × V m × Follows m left (next s.answer) Q = f s.answer in
      let on : Led now.0 (steps_of events) rest Q = follows_events (next s.answer) rest events Q now.0 left now.2 now.3 h.1 w in
      record { last = on.last; left = on.left; leads = (now.0, subst (λ u. IsMove slot p u now.0) (sym h.0) now.1, on.leads); valid = on.valid; follows = on.follows }
  follows_events (ask q next) rest (ticked k ∷ events) Q p left v f h w = absurd h
  follows_events (ask q next) rest (placed n ∷ events) Q p left v f h w = absurd h
  follows_events (here next) rest (made s ∷ events) Q p left v f h w = absurd h
  follows_events (here next) rest (ticked k ∷ events) Q p left v f h w = absurd h
  follows_events (here next) rest (placed n ∷ events) Q p left v f h w = follows_events (next n) rest events Q p left v (f n) h w
  follows_events (tick k next) rest (made s ∷ events) Q p left v f h w = absurd h
  follows_events (tick k next) rest (placed n ∷ events) Q p left v f h w = absurd h
  follows_events (tick new_record next) rest (ticked new_record ∷ events) Q p left v f h w = follows_events next rest events Q p left v f h.1 w
  follows_events (tick new_record next) rest (ticked waiting_look ∷ events) Q p left v f h w = let e : waiting_look ≡ new_record = h.0 in cc
  follows_events (tick waiting_look next) rest (ticked new_record ∷ events) Q p left v f h w = let e : new_record ≡ waiting_look = h.0 in cc
  follows_events (tick waiting_look next) rest (ticked waiting_look ∷ events) Q p zero v f h w = absurd (omega (arith, w))
  follows_events (tick waiting_look next) rest (ticked waiting_look ∷ events) Q p (suc left) v f h w = follows_events next rest events Q p left v f h.1 (omega (arith, w))
