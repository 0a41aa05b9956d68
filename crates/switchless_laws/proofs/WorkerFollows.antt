-- The worker's role keeps to the rules of each slot.
use Rattle.std.proofs.Common.{ℕ, zero, suc, ◌+◌, ◌≡◌, ◌≢◌, ◌≤◌, ◌==◌, ◌⊎◌, inl, inr, IsTrue, Bool, true, false, if◌then◌else◌, List, [], ◌++◌, Option, Some, None, refl, ap, sym, subst}
use Rattle.std.proofs.lemmas.Bool.Decides.{eqb_tells}
use Rattle.word_port.specs.declared.Side.TheVariants.{Pool}
use Rattle.word_port.specs.Requests.{step_of, load_of}
use Rattle.word_port.specs.Interaction.{Interaction, ret, and_then, map_value, AllRequests}
use Rattle.word_port.specs.Accesses.{load}
use Rattle.word_port.proofs.RequestLaws.{all_and_then}
use Rattle.switchless.specs.Slots.{is_offered, ordinal_in, frame_in}
use Rattle.switchless.specs.Worker.{scan, accept, finish, Served, WorkerSetup, must_stop, serve_slot, if_accepted, if_offered, Round, slots_from, one_round, rounds, worker}
use Rattle.switchless_laws.specs.Phases.{Phase, idle, serves, IsMove, elsewhere, there, FromIdle}
use Rattle.switchless_laws.specs.Moments.{HoldsNothing}
use Rattle.switchless_laws.proofs.Following.{Follows, follows_then, follows_away}

module _ {R : Type 0} (setup : WorkerSetup R) (slot bound : ℕ)
    (serves_away : (ordinal frame : ℕ) → AllRequests (λ q. q.index ≢ slot) (setup.serve ordinal frame)) (stops_away : setup.stop ≢ slot) where
  abbrev Ends : {A : Type 0} → A → Phase → ℕ → Type 0
  Ends x m left = (m ≡ idle) × (left ≤ bound)

  abbrev Avoids : {A : Type 0} → Interaction A → Type 0
  Avoids t = AllRequests (λ q. q.index ≢ slot) t

  -- where an offered word was seen
  abbrev Scanned : Option ℕ → Phase → ℕ → Type 0
  Scanned None m left = (m ≡ idle) × (left ≤ bound)
  Scanned (Some w) m left = (m ≡ idle) × (left ≤ bound) × IsTrue (is_offered w)

  abbrev StillServes : ℕ → {A : Type 0} → A → Phase → ℕ → Type 0
  StillServes w x m left = (m ≡ serves w) × (left ≤ bound)

  finish_follows : (w left : ℕ) (served : Served R) → left ≤ bound → Follows slot HoldsNothing (serves w) left (map_value (λ done. served.records) (finish slot w served.status)) Ends
  unfolding finish
  finish_follows w left served le = λ n. (idle, there refl (record { status = served.status; finished = refl; is_idle = refl }), tt, (refl, le))

  serve_follows : (w left : ℕ) → left ≤ bound → Follows slot HoldsNothing (serves w) left (serve_slot setup slot w) Ends
  serve_follows w left le =
      follows_then slot HoldsNothing (setup.serve (ordinal_in w) (frame_in w)) (λ served. map_value (λ done. served.records) (finish slot w served.status))
      (λ x m k. (m ≡ serves w) × (k ≤ bound)) Ends (serves w) left
      (follows_away slot HoldsNothing (setup.serve (ordinal_in w) (frame_in w)) (serves w) left bound tt le (serves_away (ordinal_in w) (frame_in w)))
      (λ x m k h. subst (λ p. Follows slot HoldsNothing p k (map_value (λ done. x.records) (finish slot w x.status)) Ends) (sym h.0) (finish_follows w k x h.1))

  if_accepted_follows : (w left : ℕ) → left ≤ bound → (won : Bool) → Follows slot HoldsNothing (if won then serves w else idle) left (if_accepted setup slot w won) Ends
  if_accepted_follows w left le true = serve_follows w left le
  if_accepted_follows w left le false = (refl, le)

  at_slot : (seen : Option ℕ) (left : ℕ) → Scanned seen idle left → Follows slot HoldsNothing idle left (if_offered setup slot seen) Ends
  unfolding accept
  at_slot None left h = h
  at_slot (Some w) left h = λ n. ((if n == w then serves w else idle), there refl (FromIdle.accepted w h.2 refl refl), by_win w (n == w), if_accepted_follows w left h.1 (n == w))
    where
      by_win : (w : ℕ) (d : Bool) → HoldsNothing (if d then serves w else idle)
      by_win w true = tt
      by_win w false = tt

  module _ (s : ℕ) (far : s ≢ slot) where
    finish_avoids : (w : ℕ) (served : Served R) → Avoids (map_value (λ done. served.records) (finish s w served.status))
    unfolding finish
    finish_avoids w served = (far, λ n. tt)

    if_accepted_avoids : (w : ℕ) (won : Bool) → Avoids (if_accepted setup s w won)
    if_accepted_avoids w true =
        all_and_then (λ q. q.index ≢ slot) (setup.serve (ordinal_in w) (frame_in w)) (λ served. map_value (λ done. served.records) (finish s w served.status))
        (serves_away (ordinal_in w) (frame_in w)) (λ x. finish_avoids w x)
    if_accepted_avoids w false = tt

    if_offered_avoids : (seen : Option ℕ) → Avoids (if_offered setup s seen)
    unfolding accept
    if_offered_avoids None = tt
    if_offered_avoids (Some w) = (far, λ n. if_accepted_avoids w (n == w))

  scan_follows : (s left : ℕ) → left ≤ bound → Follows slot HoldsNothing idle left (scan s) Scanned
  unfolding scan
  scan_follows s left le = λ n. (idle, by_place n (eqb_tells s slot), tt, by_tag n (is_offered n) refl)
    where
      by_place : (n : ℕ) → ((s == slot) ≡ true) × (s ≡ slot) ⊎ ((s == slot) ≡ false) × (s ≢ slot) → IsMove slot idle (step_of (load_of Pool s) n) idle
      by_place n (inl h) = there h.1 (FromIdle.looked (ap (λ i. step_of (load_of Pool i) n) h.1) refl)
      by_place n (inr h) = elsewhere h.1 refl

      by_tag : (n : ℕ) (d : Bool) → is_offered n ≡ d → Scanned (if d then Some n else None) idle left
      by_tag n true e = (refl, le, e)
      by_tag n false e = (refl, le)

  if_offered_follows : (s left : ℕ) (seen : Option ℕ) (m : Phase) → Scanned seen m left → Follows slot HoldsNothing m left (if_offered setup s seen) Ends
  if_offered_follows s left seen m h = by_place (eqb_tells s slot) (is_idle seen h)
    where
      is_idle : (seen : Option ℕ) → Scanned seen m left → (m ≡ idle) × (left ≤ bound) × Scanned seen idle left
      is_idle None q = (q.0, q.1, (refl, q.1))
      is_idle (Some w) q = (q.0, q.1, (refl, q.1, q.2))

      by_place : ((s == slot) ≡ true) × (s ≡ slot) ⊎ ((s == slot) ≡ false) × (s ≢ slot) → (m ≡ idle) × (left ≤ bound) × Scanned seen idle left → Follows slot HoldsNothing m left (if_offered setup s seen) Ends
      by_place (inl e) q =
          subst (λ p. Follows slot HoldsNothing p left (if_offered setup s seen) Ends) (sym q.0)
          (subst (λ i. Follows slot HoldsNothing idle left (if_offered setup i seen) Ends) (sym e.1) (at_slot seen left q.2))
      by_place (inr e) q =
          subst (λ p. Follows slot HoldsNothing p left (if_offered setup s seen) Ends) (sym q.0) (follows_away slot HoldsNothing (if_offered setup s seen) idle left bound tt q.1 (if_offered_avoids s e.1 seen))

  -- the slots of a round
  slots_follow : (count s : ℕ) (records : List R) (left : ℕ) → left ≤ bound → Follows slot HoldsNothing idle left (slots_from setup records s count) Ends
  slots_follow zero s records left le = (refl, le)
  slots_follow (suc count) s records left le = λ steps. by_stop (must_stop setup steps records) (λ more k few. slots_follow count (s + 1) (records ++ more) k few)
    where
      by_stop : (d : Bool) → ((more : List R) (k : ℕ) → k ≤ bound → Follows slot HoldsNothing idle k (slots_from setup (records ++ more) (s + 1) count) Ends)
          → Follows slot HoldsNothing idle left (if d then ret (record { ended = true; records = records })
          else and_then (scan s) (λ seen. and_then (if_offered setup s seen) (λ more. slots_from setup (records ++ more) (s + 1) count))) Ends
      by_stop true go = (refl, le)
      by_stop false go =
          follows_then slot HoldsNothing (scan s) (λ seen. and_then (if_offered setup s seen) (λ more. slots_from setup (records ++ more) (s + 1) count)) Scanned Ends idle left (scan_follows s left le)
          (λ seen m k h. follows_then slot HoldsNothing (if_offered setup s seen) (λ more. slots_from setup (records ++ more) (s + 1) count) Ends Ends m k (if_offered_follows s k seen m h)
          (λ more n l g. subst (λ p. Follows slot HoldsNothing p l (slots_from setup (records ++ more) (s + 1) count) Ends) (sym g.0) (go more l g.1)))

  stop_follows : (round : Round R) (left : ℕ) → left ≤ bound
      → Follows slot HoldsNothing idle left (if round.ended then ret round else map_value (λ stop. record { ended = stop == 1; records = round.records }) (load Pool setup.stop)) Ends
  stop_follows round left le = by_end round.ended
    where
      by_end : (d : Bool) → Follows slot HoldsNothing idle left (if d then ret round else map_value (λ stop. record { ended = stop == 1; records = round.records }) (load Pool setup.stop)) Ends
      by_end true = (refl, le)
      by_end false = λ n. (idle, elsewhere stops_away refl, tt, (refl, le))

  round_follows : (records : List R) (left : ℕ) → left ≤ bound → Follows slot HoldsNothing idle left (one_round setup records) Ends
  round_follows records left le =
      follows_then slot HoldsNothing (slots_from setup records setup.pool.from setup.pool.slots)
      (λ round. if round.ended then ret round else map_value (λ stop. record { ended = stop == 1; records = round.records }) (load Pool setup.stop)) Ends Ends idle left
      (slots_follow setup.pool.slots setup.pool.from records left le)
      (λ round m k h. subst (λ p. Follows slot HoldsNothing p k (if round.ended then ret round else map_value (λ stop. record { ended = stop == 1; records = round.records }) (load Pool setup.stop)) Ends) (sym h.0)
      (stop_follows round k h.1))

  rounds_follow : (count : ℕ) (records : List R) (left : ℕ) → left ≤ bound → Follows slot HoldsNothing idle left (rounds setup count records) Ends
  rounds_follow zero records left le = (refl, le)
  rounds_follow (suc count) records left le =
      follows_then slot HoldsNothing (one_round setup records) (λ round. if round.ended then ret round.records else rounds setup count round.records) Ends Ends idle left (round_follows records left le)
      (λ round m k h. subst (λ p. Follows slot HoldsNothing p k (if round.ended then ret round.records else rounds setup count round.records) Ends) (sym h.0)
      (by_end round k h.1 (rounds_follow count round.records k h.1) round.ended))
    where
      by_end : (round : Round R) (k : ℕ) → k ≤ bound → Follows slot HoldsNothing idle k (rounds setup count round.records) Ends
          → (d : Bool) → Follows slot HoldsNothing idle k (if d then ret round.records else rounds setup count round.records) Ends
      by_end round k few go true = (refl, few)
      by_end round k few go false = go

  -- the whole role
  pub worker_follows : (left : ℕ) → left ≤ bound → Follows slot HoldsNothing idle left (worker setup) Ends
  unfolding worker
  worker_follows left le = rounds_follow (setup.limit + 1) [] left le
