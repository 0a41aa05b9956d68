-- All slots of a pool.
use Rattle.std.proofs.Common.{ℕ, zero, suc, ◌+◌, ◌≡◌, ◌<◌, ◌≤◌, ◌==◌, nat_le, nat_lt, Bool, true, false, ◌&&◌, if◌then◌else◌, List, [], ◌∷◌, map, slice_index, refl, ap, sym, ◌∙◌, arith, zero-add}
use Rattle.std.specs.List.{filter, count_by}
use Rattle.std.proofs.lemmas.Bool.{eqb-true, eqb-false, ltb-true, ltb-false, leb-true, leb-false}
use Rattle.std.proofs.lemmas.List.Sums.{sum_by-cons, sum_by-append}
use Rattle.word_port.specs.declared.Step.{Step}
use Rattle.switchless.specs.Slots.{is_done}
use Rattle.switchless.specs.Counts.{Completed, completed_in, is_swap_by_pool}
use Rattle.switchless_laws.specs.Tallies.{one_if, tally, served_at, taken_at, done_in}
use Rattle.switchless_laws.specs.Held.{call_in, calls_in}

-- numbers of Bools, by cases
scale : (x y e c : Bool) → one_if x ≡ one_if y + one_if e → one_if (x && c) ≡ one_if (y && c) + one_if (e && c)
scale true true true c h = absurd (omega (arith, h))
scale true true false c h = omega arith
scale true false true c h = omega arith
scale true false false c h = absurd (omega (arith, h))
scale false true true c h = absurd (omega (arith, h))
scale false true false c h = absurd (omega (arith, h))
scale false false true c h = absurd (omega (arith, h))
scale false false false c h = refl

and_assoc : (x d q : Bool) → ((x && d) && q) ≡ (x && (d && q))
and_assoc true d q = refl
and_assoc false d q = refl

-- a number is in a range that is longer by one, where it is in the range or is the next
next_in : (n from count : ℕ) → one_if (nat_le from n && nat_lt n (from + suc count)) ≡ one_if (nat_le from n && nat_lt n (from + count)) + one_if (n == from + count)
next_in n from count = by_tests (nat_le from n) refl (nat_lt n (from + suc count)) refl (nat_lt n (from + count)) refl (n == from + count) refl
  where
    by_tests : (a : Bool) → nat_le from n ≡ a → (b : Bool) → nat_lt n (from + suc count) ≡ b → (c : Bool) → nat_lt n (from + count) ≡ c → (d : Bool) → (n == from + count) ≡ d
        → one_if (a && b) ≡ one_if (a && c) + one_if d
    by_tests true p true q true r true s = let x : n < from + count = ltb-true _ _ r in let y : n ≡ from + count = eqb-true _ _ s in absurd (omega arith)
    by_tests true p true q true r false s = refl
    by_tests true p true q false r true s = refl
    by_tests true p true q false r false s = let x : n < from + suc count = ltb-true _ _ q in let y : from + count ≤ n = ltb-false _ _ r in absurd (eqb-false n (from + count) s (omega arith))
    by_tests true p false q true r d s = let x : n < from + count = ltb-true _ _ r in let y : from + suc count ≤ n = ltb-false _ _ q in absurd (omega arith)
    by_tests true p false q false r true s = let x : n ≡ from + count = eqb-true _ _ s in let y : from + suc count ≤ n = ltb-false _ _ q in absurd (omega arith)
    by_tests true p false q false r false s = refl
    by_tests false p b q c r true s = let x : n ≡ from + count = eqb-true _ _ s in let y : n < from = leb-false _ _ p in absurd (omega arith)
    by_tests false p b q c r false s = refl

none_in : (n from : ℕ) → (nat_le from n && nat_lt n (from + 0)) ≡ false
none_in n from = by_tests (nat_le from n) refl (nat_lt n (from + 0)) refl
  where
    by_tests : (a : Bool) → nat_le from n ≡ a → (b : Bool) → nat_lt n (from + 0) ≡ b → (a && b) ≡ false
    by_tests true p true q = let x : n < from + 0 = ltb-true _ _ q in let y : from ≤ n = leb-true _ _ p in absurd (omega arith)
    by_tests true p false q = refl
    by_tests false p b q = refl

-- a test of calls, which steps are meant, and the call that a step tells of
module _ (p : Completed → Bool) (meant : Step → Bool) (call : Step → Completed) where
  abbrev is_on : ℕ → ℕ → Step → Bool
  is_on from count s = is_swap_by_pool s.side s.kind && nat_le from s.index && nat_lt s.index (from + count)

  abbrev counted : ℕ → ℕ → List Step → ℕ
  counted from count log = count_by p (map call (filter (λ s. is_on from count s && meant s) log))

  abbrev is_one : ℕ → Step → Bool
  is_one slot s = is_swap_by_pool s.side s.kind && (s.index == slot && (meant s && p (call s)))

  -- the first step counts, or not
  counted_first : (keep : Step → Bool) (s : Step) (log : List Step) → (b : Bool)
      → count_by p (map call (if b then s ∷ filter keep log else filter keep log)) ≡ one_if (b && p (call s)) + count_by p (map call (filter keep log))
  counted_first keep s log true = sum_by-cons (λ x. if p x then 1 else 0) (call s) (map call (filter keep log))
  counted_first keep s log false = sym (zero-add _)

  by_side : (b low high2 high e d q : Bool) → one_if (low && high2) ≡ one_if (low && high) + one_if e
      → one_if ((((b && low) && high2) && d) && q) ≡ one_if ((((b && low) && high) && d) && q) + one_if (b && (e && (d && q)))
  by_side false low high2 high e d q h = refl
  by_side true low high2 high e d q h =
      ap one_if (and_assoc (low && high2) d q) ∙ scale (low && high2) (low && high) e (d && q) h ∙ ap (λ b. one_if b + one_if (e && (d && q))) (sym (and_assoc (low && high) d q))

  -- one slot more
  counted_more : (from count : ℕ) (log : List Step) → counted from (suc count) log ≡ counted from count log + tally (is_one (from + count)) log
  counted_more from count [] = refl
  counted_more from count (s ∷ log) =
      let a : counted from (suc count) (s ∷ log) ≡ one_if ((is_on from (suc count) s && meant s) && p (call s)) + counted from (suc count) log =
      counted_first (λ t. is_on from (suc count) t && meant t) s log (is_on from (suc count) s && meant s) in
      let b : counted from count (s ∷ log) ≡ one_if ((is_on from count s && meant s) && p (call s)) + counted from count log =
      counted_first (λ t. is_on from count t && meant t) s log (is_on from count s && meant s) in
      let c : one_if ((is_on from (suc count) s && meant s) && p (call s)) ≡ one_if ((is_on from count s && meant s) && p (call s)) + one_if (is_one (from + count) s) =
      by_side (is_swap_by_pool s.side s.kind) (nat_le from s.index) (nat_lt s.index (from + suc count)) (nat_lt s.index (from + count)) (s.index == from + count) (meant s) (p (call s))
      (next_in s.index from count) in
      let d : counted from (suc count) log ≡ counted from count log + tally (is_one (from + count)) log = counted_more from count log in
      omega (arith, a, b, c, d)

  -- no slot
  counted_none : (from : ℕ) (log : List Step) → counted from 0 log ≡ 0
  counted_none from [] = refl
  counted_none from (s ∷ log) =
      let a : counted from 0 (s ∷ log) ≡ one_if ((is_on from 0 s && meant s) && p (call s)) + counted from 0 log = counted_first (λ t. is_on from 0 t && meant t) s log (is_on from 0 s && meant s) in
      let b : one_if ((is_on from 0 s && meant s) && p (call s)) ≡ 0 = off (is_swap_by_pool s.side s.kind) (nat_le from s.index) (nat_lt s.index (from + 0)) (none_in s.index from) (meant s) (p (call s)) in
      let c : counted from 0 log ≡ 0 = counted_none from log in
      omega (arith, a, b, c)
    where
      off : (b low high : Bool) → (low && high) ≡ false → (d q : Bool) → one_if ((((b && low) && high) && d) && q) ≡ 0
      off false low high e d q = refl
      off true low high e d q = ap (λ y. one_if ((y && d) && q)) e

module _ (p : Completed → Bool) where
  abbrev pub test_of : ℕ → Bool
  test_of word = p (completed_in word)

  held_one : (word : ℕ) → count_by p (call_in word) ≡ done_in test_of word
  held_one word = by_tag (is_done word)
    where
      by_tag : (b : Bool) → count_by p (if b then completed_in word ∷ [] else []) ≡ one_if (b && p (completed_in word))
      by_tag true = zero-add _
      by_tag false = refl

  held_more : (words : List ℕ) (from count : ℕ) → count_by p (calls_in words from (suc count)) ≡ count_by p (calls_in words from count) + done_in test_of (slice_index words (from + count))
  held_more words from count =
      sum_by-append (λ x. if p x then 1 else 0) (calls_in words from count) (call_in (slice_index words (from + count)))
      ∙ ap (λ n. count_by p (calls_in words from count) + n) (held_one (slice_index words (from + count)))

  -- the slots together, where each has as much served as taken and held
  pub slots_together : (from count : ℕ) (words : List ℕ) (log : List Step)
      → ((slot : ℕ) → from ≤ slot → slot < from + count → served_at test_of slot log ≡ taken_at test_of slot log + done_in test_of (slice_index words slot))
      → counted p (λ s. is_done s.first) (λ s. completed_in s.first) from count log
      ≡ counted p (λ s. s.first == 0) (λ s. completed_in s.answer) from count log + count_by p (calls_in words from count)
  slots_together from zero words log each =
      let a : counted p (λ s. is_done s.first) (λ s. completed_in s.first) from 0 log ≡ 0 = counted_none p (λ s. is_done s.first) (λ s. completed_in s.first) from log in
      let b : counted p (λ s. s.first == 0) (λ s. completed_in s.answer) from 0 log ≡ 0 = counted_none p (λ s. s.first == 0) (λ s. completed_in s.answer) from log in
      omega (arith, a, b)
  slots_together from (suc count) words log each =
      let a : counted p (λ s. is_done s.first) (λ s. completed_in s.first) from (suc count) log
      ≡ counted p (λ s. is_done s.first) (λ s. completed_in s.first) from count log + served_at test_of (from + count) log = counted_more p (λ s. is_done s.first) (λ s. completed_in s.first) from count log in
      let b : counted p (λ s. s.first == 0) (λ s. completed_in s.answer) from (suc count) log
      ≡ counted p (λ s. s.first == 0) (λ s. completed_in s.answer) from count log + taken_at test_of (from + count) log = counted_more p (λ s. s.first == 0) (λ s. completed_in s.answer) from count log in
      let c : served_at test_of (from + count) log ≡ taken_at test_of (from + count) log + done_in test_of (slice_index words (from + count)) = each (from + count) (omega arith) (omega arith) in
      let d : counted p (λ s. is_done s.first) (λ s. completed_in s.first) from count log
      ≡ counted p (λ s. s.first == 0) (λ s. completed_in s.answer) from count log + count_by p (calls_in words from count) =
      slots_together from count words log (λ slot low high. each slot low (omega arith)) in
      let e : count_by p (calls_in words from (suc count)) ≡ count_by p (calls_in words from count) + done_in test_of (slice_index words (from + count)) = held_more words from count in
      omega (arith, a, b, c, d, e)
