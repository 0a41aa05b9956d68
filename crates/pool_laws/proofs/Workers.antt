-- A worker keeps to the rules of its own pool's slots, and where it serves by a behaviour that keeps to those of
-- another pool, of these too.
use Rattle.std.proofs.Common.{ℕ, zero, suc, ◌+◌, ◌≢◌, ◌<◌, ◌≤◌, ◌==◌, Bool, true, false, if◌then◌else◌, List, [], ◌++◌, Option, Some, None, refl, sym, subst, arith}
use Rattle.word_port.specs.declared.Side.TheVariants.{Pool as by_pool}
use Rattle.word_port.specs.Interaction.{ret, and_then, map_value, AllRequests}
use Rattle.word_port.specs.Accesses.{load}
use Rattle.switchless.specs.declared.Pool.{Pool}
use Rattle.switchless.specs.Slots.{ordinal_in, frame_in}
use Rattle.switchless.specs.Worker.{scan, accept, finish, WorkerSetup, must_stop, serve_slot, if_accepted, if_offered, Round, slots_from, one_round, rounds, worker}
use Rattle.switchless_laws.specs.Phases.{idle}
use Rattle.switchless_laws.specs.Moments.{IsSlotOf, HoldsNothing}
use Rattle.switchless_laws.specs.Roles.{IsElsewhere}
use Rattle.switchless_laws.proofs.WorkerFollows.{worker_follows}
use Rattle.pool_laws.specs.Keeping.{KeepsTo, KeepsPool}
use Rattle.pool_laws.proofs.Keeping.{follows_kept, keeps_then, keeps_away, weaker_requests}

-- the number of another word than the slot's
pub not_slot : (pool : Pool) (slot index : ℕ) → IsSlotOf pool slot → IsElsewhere pool index → index ≢ slot
not_slot pool slot index at far e = far (subst (λ n. IsSlotOf pool n) (sym e) at)

module _ {R : Type 0} (setup : WorkerSetup R) (slot bound : ℕ) (stops : setup.stop ≢ slot) where
  -- its own slots are others
  module _ (serves : (ordinal frame left : ℕ) → left ≤ bound → KeepsTo slot idle left (setup.serve ordinal frame)) where
    module _ (s : ℕ) (far : s ≢ slot) where
      served : (word left : ℕ) → left ≤ bound → KeepsTo slot idle left (serve_slot setup s word)
      unfolding finish
      served word left le =
          keeps_then slot (setup.serve (ordinal_in word) (frame_in word))
          (λ done. map_value (λ x. done.records) (finish s word done.status)) idle left bound le
          (serves (ordinal_in word) (frame_in word) left le) (λ done k few. keeps_away slot
          (map_value (λ x. done.records) (finish s word done.status)) k (far, λ n. tt))

      after_accept : (word left : ℕ) → left ≤ bound → (won : Bool)
          → KeepsTo slot idle left (if_accepted setup s word won)
      after_accept word left le true = served word left le
      after_accept word left le false = refl

      after_scan : (seen : Option ℕ) (left : ℕ) → left ≤ bound → KeepsTo slot idle left (if_offered setup s seen)
      unfolding accept
      after_scan None left le = refl
      after_scan (Some word) left le =
          keeps_then slot (accept s word) (if_accepted setup s word) idle left bound le
          (keeps_away slot (accept s word) left (far, λ n. tt)) (λ won k few. after_accept word k few won)

      scanned : (left : ℕ) → KeepsTo slot idle left (scan s)
      unfolding scan
      scanned left = keeps_away slot (scan s) left (far, λ n. tt)

    slots_kept : (count s : ℕ) (records : List R) (left : ℕ) → left ≤ bound
        → ((i : ℕ) → s ≤ i → i < s + count → i ≢ slot) → KeepsTo slot idle left (slots_from setup records s count)
    slots_kept zero s records left le far = refl
    slots_kept (suc count) s records left le far =
        let here_far : s ≢ slot = far s (omega arith) (omega arith) in
        let more_far : (i : ℕ) → s + 1 ≤ i → i < (s + 1) + count
        → i ≢ slot = λ i low high. far i (omega (arith, low)) (omega (arith, high)) in
        λ steps. by_stop (must_stop setup steps records) here_far
        (λ more k few. slots_kept count (s + 1) (records ++ more) k few more_far)
      where
        by_stop : (d : Bool) → s ≢ slot → ((more : List R) (k : ℕ) → k ≤ bound
            → KeepsTo slot idle k (slots_from setup (records ++ more) (s + 1) count))
            → KeepsTo slot idle left (if d then ret (record { ended = true; records = records })
            else and_then (scan s) (λ seen. and_then (if_offered setup s seen)
            (λ more. slots_from setup (records ++ more) (s + 1) count)))
        by_stop true here_far go = refl
        by_stop false here_far go =
            keeps_then slot (scan s) (λ seen. and_then (if_offered setup s seen)
            (λ more. slots_from setup (records ++ more) (s + 1) count)) idle left bound le (scanned s here_far left)
            (λ seen k few. keeps_then slot (if_offered setup s seen)
            (λ more. slots_from setup (records ++ more) (s + 1) count) idle k bound few
            (after_scan s here_far seen k few) go)

    module _ (own : (i : ℕ) → setup.pool.from ≤ i → i < setup.pool.from + setup.pool.slots → i ≢ slot) where
      stop_kept : (round : Round R) (left : ℕ) (d : Bool)
          → KeepsTo slot idle left (if d then ret round else map_value
          (λ stop. record { ended = stop == 1; records = round.records }) (load by_pool setup.stop))
      stop_kept round left true = refl
      stop_kept round left false = keeps_away slot {A = Round R}
          (map_value (λ stop. record { ended = stop == 1; records = round.records }) (load by_pool setup.stop)) left
          (stops, λ n. tt)

      round_kept : (records : List R) (left : ℕ) → left ≤ bound → KeepsTo slot idle left (one_round setup records)
      round_kept records left le =
          keeps_then slot (slots_from setup records setup.pool.from setup.pool.slots)
          (λ round. if round.ended then ret round else map_value
          (λ stop. record { ended = stop == 1; records = round.records })
          (load by_pool setup.stop)) idle left bound le
          (slots_kept setup.pool.slots setup.pool.from records left le own)
          (λ round k few. stop_kept round k round.ended)

      rounds_kept : (count : ℕ) (records : List R) (left : ℕ) → left ≤ bound
          → KeepsTo slot idle left (rounds setup count records)
      rounds_kept zero records left le = refl
      rounds_kept (suc count) records left le =
          keeps_then slot (one_round setup records) (λ round.
          if round.ended then ret round.records else rounds setup count round.records) idle left bound le
          (round_kept records left le)
          (λ round k few. by_end round k (rounds_kept count round.records k few) round.ended)
        where
          by_end : (round : Round R) (k : ℕ) → KeepsTo slot idle k (rounds setup count round.records) → (d : Bool)
              → KeepsTo slot idle k (if d then ret round.records else rounds setup count round.records)
          by_end round k go true = refl
          by_end round k go false = go

      other_kept : (left : ℕ) → left ≤ bound → KeepsTo slot idle left (worker setup)
      unfolding worker
      other_kept left le = rounds_kept (setup.limit + 1) [] left le

-- a worker of another pool
pub other_worker : {R : Type 0} (setup : WorkerSetup R) (pool : Pool) → IsElsewhere pool setup.stop
    → ((i : ℕ) → IsSlotOf setup.pool i → IsElsewhere pool i)
    → ((ordinal frame : ℕ) → KeepsPool pool (setup.serve ordinal frame)) → KeepsPool pool (worker setup)
other_worker setup pool stops apart serves slot waits at few =
    let le : waits ≤ waits = omega arith in
    other_kept setup slot waits (not_slot pool slot setup.stop at stops)
    (λ ordinal frame left le. serves ordinal frame slot left at (omega (arith, le, few)))
    (λ i low high. not_slot pool slot i at (apart i (low, high))) waits le

-- a worker of this pool, or of any other
pub own_worker : {R : Type 0} (setup : WorkerSetup R) (pool : Pool) → IsElsewhere pool setup.stop
    → ((ordinal frame : ℕ) → AllRequests (λ q. IsElsewhere pool q.index) (setup.serve ordinal frame))
    → KeepsPool pool (worker setup)
own_worker setup pool stops serves slot waits at few =
    let le : waits ≤ waits = omega arith in
    follows_kept slot HoldsNothing (worker setup) idle waits waits
    (worker_follows setup slot waits
    (λ ordinal frame. weaker_requests (λ q. IsElsewhere pool q.index) (λ q. q.index ≢ slot)
    (λ q far. not_slot pool slot q.index at far) (setup.serve ordinal frame) (serves ordinal frame))
    (not_slot pool slot setup.stop at stops) waits le)
