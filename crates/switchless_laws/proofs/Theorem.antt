-- Each call was served as often as it was taken or is held.
use Rattle.std.proofs.Common.{ℕ, zero, suc, ◌+◌, ◌≡◌, ◌<◌, ◌≤◌, ◌==◌, ◌⊎◌, inl, inr, Bool, true, ◌&&◌, if◌then◌else◌, List, [], ◌++◌, length, get_or, slice_index, Some, All, IsPermutation, refl, ap, sym, ◌∙◌, subst, arith, add-zero, append-nil}
use Rattle.std.specs.List.{count_by, flat_map}
use Rattle.std.proofs.lemmas.Bool.{cases_lt}
use Rattle.std.proofs.lemmas.Option.{get_or_from_slice_get}
use Rattle.std.proofs.lemmas.List.{get_or_past}
use Rattle.std.proofs.lemmas.List.Sums.{sum_by-append}
use Rattle.word_port.specs.declared.Step.{Step}
use Rattle.word_port.specs.History.{IsLegal, history_of, words_in_the_end, IsShuffleOf}
use Rattle.switchless.specs.declared.Pool.{Pool as Slots}
use Rattle.switchless.specs.Slots.{is_done}
use Rattle.switchless.specs.Counts.{Completed, completed_in, taken_in, served_in, is_on_slot, Agree}
use Rattle.switchless_laws.specs.Phases.{Phase, idle, KeepsSlot, PhaseLeads, IsSettled, free, offered, accepted, held, noticed}
use Rattle.switchless_laws.specs.Moments.{IsSlotOf, KeepsSlots, HoldsNothing, LeavesSlots, AreFree, IsSettledMoment}
use Rattle.switchless_laws.specs.Held.{call_in, calls_in, held_in}
use Rattle.switchless_laws.specs.Tallies.{served_at, taken_at, done_in}
use Rattle.switchless_laws.proofs.OneSlot.{Moment, each_moment}
use Rattle.switchless_laws.proofs.AllSlots.{test_of, slots_together}
use Rattle.switchless_laws.proofs.Permutations.{same_counts, count_shuffled}

module _ (pool : Slots) (words : List ℕ) (participants : List (List Step)) (before after : List Step)
    (are_free : AreFree pool words) (shuffled : IsShuffleOf participants (before ++ after)) (legal : IsLegal words (history_of (before ++ after))) where
  -- also where there is no participant of a number
  pub each_keeps : All (KeepsSlots pool) participants → (k : ℕ) → KeepsSlots pool (get_or participants k [])
  each_keeps keep k = by_place (cases_lt k (length participants))
    where
      by_place : (k < length participants) ⊎ (length participants ≤ k) → KeepsSlots pool (get_or participants k [])
      by_place (inl h) = keep k [] h
      by_place (inr h) = λ slot at. subst (λ log. (last : Phase) × KeepsSlot slot log last) (sym (get_or_past participants k [] h)) (idle, refl)

  pub moment : (test : ℕ → Bool) (slot : ℕ) → (at : IsSlotOf pool slot) → (lasts : ℕ → Phase) → ((k : ℕ) → KeepsSlot slot (get_or participants k []) (lasts k))
      → Moment test slot words 0 (λ k. idle) lasts participants before after
  moment test slot at lasts keep =
      each_moment test slot before after words 0 (λ k. idle) lasts participants shuffled legal (are_free slot at) keep (free refl (λ k. refl))

  abbrev words_now : List ℕ
  words_now = words_in_the_end words (history_of before)

  pub counts_agree : All (KeepsSlots pool) participants → (p : Completed → Bool)
      → count_by p (served_in pool before) ≡ count_by p (taken_in pool before) + count_by p (held_in pool words_now)
  counts_agree keep p = slots_together p pool.from pool.slots words_now before each
    where
      each : (slot : ℕ) → pool.from ≤ slot → slot < pool.from + pool.slots
          → served_at (test_of p) slot before ≡ taken_at (test_of p) slot before + done_in (test_of p) (slice_index words_now slot)
      each slot low high =
          let at : IsSlotOf pool slot = (low, high) in
          let m : Moment (test_of p) slot words 0 (λ k. idle) (λ k. (each_keeps keep k slot at).0) participants before after = moment (test_of p) slot at (λ k. (each_keeps keep k slot at).0) (λ k. (each_keeps keep k slot at).1) in
          let a : served_at (test_of p) slot before + 0 ≡ taken_at (test_of p) slot before + done_in (test_of p) m.word = m.tally in
          let b : slice_index words_now slot ≡ m.word = get_or_from_slice_get words_now slot m.word 0 m.found in
          sym (add-zero (served_at (test_of p) slot before)) ∙ a ∙ ap (λ n. taken_at (test_of p) slot before + done_in (test_of p) n) (sym b)

  -- each slot is settled
  pub settled_now : All (KeepsSlots pool) participants → (slot : ℕ) → IsSlotOf pool slot → IsSettledMoment slot words participants before after
  settled_now keep slot at =
      let m : Moment (λ n. true) slot words 0 (λ k. idle) (λ k. (each_keeps keep k slot at).0) participants before after =
      moment (λ n. true) slot at (λ k. (each_keeps keep k slot at).0) (λ k. (each_keeps keep k slot at).1) in
      record {
        word = m.word;
        found = m.found;
        phases = m.phases;
        settled = m.settled;
        past = m.past;
        left = m.parts;
        parted = m.parted;
        shuffled = m.shuffled;
        led = m.led;
      }

  -- served is what was taken and what is held
  pub served_is : All (KeepsSlots pool) participants → IsPermutation (served_in pool before) (taken_in pool before ++ held_in pool words_now)
  served_is keep = same_counts (served_in pool before) (taken_in pool before ++ held_in pool words_now)
      (λ p. counts_agree keep p ∙ sym (sum_by-append (λ x. if p x then 1 else 0) (taken_in pool before) (held_in pool words_now)))

-- the slots once no participant has a word of its own in one
module _ (pool : Slots) (words : List ℕ) (participants : List (List Step)) (whole : List Step)
    (are_free : AreFree pool words) (shuffled : IsShuffleOf participants whole) (legal : IsLegal words (history_of whole)) where
  -- a slot that is settled, and with whose word nobody has to do, is free
  settled_free : (word : ℕ) (phases : ℕ → Phase) → ((k : ℕ) → HoldsNothing (phases k)) → IsSettled word phases → word ≡ 0
  settled_free word phases none (free z f) = z
  settled_free word phases none (offered w c o z hc f) = absurd (subst HoldsNothing hc (none c))
  settled_free word phases none (accepted w c d o z hc hd f) = absurd (subst HoldsNothing hc (none c))
  settled_free word phases none (held w st c o z hc f) = absurd (subst HoldsNothing hc (none c))
  settled_free word phases none (noticed w st c o z hc f) = absurd (subst HoldsNothing hc (none c))

  -- also where there is no participant of a number
  each_leaves : All (LeavesSlots pool) participants → (k : ℕ) → LeavesSlots pool (get_or participants k [])
  each_leaves leave k = by_place (cases_lt k (length participants))
    where
      by_place : (k < length participants) ⊎ (length participants ≤ k) → LeavesSlots pool (get_or participants k [])
      by_place (inl h) = leave k [] h
      by_place (inr h) = λ slot at. subst (λ log. (last : Phase) × HoldsNothing last × KeepsSlot slot log last) (sym (get_or_past participants k [] h)) (idle, tt, refl)

  all_keep : All (LeavesSlots pool) participants → All (KeepsSlots pool) participants
  all_keep leave k d lt slot at = let l : (last : Phase) × HoldsNothing last × KeepsSlot slot (get_or participants k d) last = leave k d lt slot at in (l.0, l.2)

  abbrev words_last : List ℕ
  words_last = words_in_the_end words (history_of whole)

  abbrev lasts : All (LeavesSlots pool) participants → (slot : ℕ) → IsSlotOf pool slot → ℕ → Phase
  lasts leave slot at k = (each_leaves leave k slot at).0

  pub slots_free : All (LeavesSlots pool) participants → AreFree pool words_last
  slots_free leave slot at = m.found ∙ ap (λ n. Some n) (settled_free m.word m.phases nothing m.settled)
    where
      m : Moment (λ n. true) slot words 0 (λ k. idle) (lasts leave slot at) participants whole []
      m = each_moment (λ n. true) slot whole [] words 0 (λ k. idle) (lasts leave slot at) participants
          (subst (λ l. IsShuffleOf participants l) (sym (append-nil whole)) shuffled) (subst (λ l. IsLegal words (history_of l)) (sym (append-nil whole)) legal)
          (are_free slot at) (λ k. (each_leaves leave k slot at).2) (free refl (λ k. refl))

      ended : (k : ℕ) → get_or m.parts k [] ≡ []
      ended k = by_place (cases_lt k (length m.parts))
        where
          by_place : (k < length m.parts) ⊎ (length m.parts ≤ k) → get_or m.parts k [] ≡ []
          by_place (inl h) = m.shuffled k [] h
          by_place (inr h) = get_or_past m.parts k [] h

      nothing : (k : ℕ) → HoldsNothing (m.phases k)
      nothing k =
          let same : m.phases k ≡ lasts leave slot at k = subst (λ l. PhaseLeads slot (m.phases k) l (lasts leave slot at k)) (ended k) (m.lead k) in
          subst HoldsNothing (sym same) (each_leaves leave k slot at).1

  held_none : AreFree pool words_last → (from count : ℕ) → pool.from ≤ from → from + count ≤ pool.from + pool.slots → calls_in words_last from count ≡ []
  held_none free_now from zero low high = refl
  held_none free_now from (suc count) low high =
      let at : IsSlotOf pool (from + count) = (omega arith, omega arith) in
      let a : slice_index words_last (from + count) ≡ 0 = get_or_from_slice_get words_last (from + count) 0 0 (free_now (from + count) at) in
      let b : calls_in words_last from count ≡ [] = held_none free_now from count low (omega arith) in
      ap (λ n. calls_in words_last from count ++ call_in n) a ∙ ap (λ l. l ++ []) b

  -- taken and served agree
  pub all_taken : All (LeavesSlots pool) participants → (p : Completed → Bool) → count_by p (served_in pool whole) ≡ count_by p (taken_in pool whole)
  all_taken leave p =
      let a : count_by p (served_in pool whole) ≡ count_by p (taken_in pool whole) + count_by p (held_in pool words_last) =
      counts_agree pool words participants whole [] are_free (subst (λ l. IsShuffleOf participants l) (sym (append-nil whole)) shuffled)
      (subst (λ l. IsLegal words (history_of l)) (sym (append-nil whole)) legal) (all_keep leave) p in
      let b : count_by p (held_in pool words_last) ≡ 0 = ap (count_by p) (held_none (slots_free leave) pool.from pool.slots (omega arith) (omega arith)) in
      omega (arith, a, b)

  pub agree : All (LeavesSlots pool) participants → Agree pool participants
  agree leave = same_counts (flat_map (taken_in pool) participants) (flat_map (served_in pool) participants) (λ p.
      count_shuffled p (λ s. is_on_slot pool s && s.first == 0) (λ s. completed_in s.answer) participants whole shuffled
      ∙ sym (all_taken leave p)
      ∙ sym (count_shuffled p (λ s. is_on_slot pool s && is_done s.first) (λ s. completed_in s.first) participants whole shuffled))
