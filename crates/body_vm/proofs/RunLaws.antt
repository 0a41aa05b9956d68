-- Laws of a run over many actions.
use Rattle.std.proofs.Common.{ℕ, zero, suc, ◌+◌, ◌-◌, ◌<◌, ◌≤◌, ◌≡◌, ◌⊎◌, List, [], ◌∷◌, length, drop, Option, Some, None, slice_get, refl, ap, sym, ◌∙◌, subst, inl, inr, arith}
use Rattle.enclave_memory.specs.Memory.{Memory}
use Rattle.body_vm.specs.declared.Action.{Action}
use Rattle.body_vm.specs.Range.{IsInRange, skip_of, AreInRange}
use Rattle.body_vm.specs.Moments.{Moment, IsOnward}
use Rattle.body_vm.specs.Places.{IsAbsent, IsPast, AreBehind, AreAsLong, IsKept}

-- what is known of the action at a place
pub record IsAction (values blocks : ℕ) (actions : List Action) (place : ℕ) (action : Action) : Type 0 where
  pub range : IsInRange values blocks action
  pub skips : (place + 1) + skip_of action ≤ length actions
  pub rest : drop place actions ≡ action ∷ drop (place + 1) actions

pub action_at : (values blocks : ℕ) (actions : List Action) (place : ℕ) (action : Action) → AreInRange values blocks actions → slice_get actions place ≡ Some action → IsAction values blocks actions place action
action_at values blocks [] place action a e = absurd (cc)
action_at values blocks (x ∷ actions) zero action a e =
    let same : x ≡ action = cc in
    subst (λ y. IsAction values blocks (x ∷ actions) zero y) same record { range = a.0; skips = omega (arith, a.1); rest = refl }
action_at values blocks (x ∷ actions) (suc place) action a e =
    let h : IsAction values blocks actions place action = action_at values blocks actions place action a.2 e in
    let n : suc place + 1 ≡ suc (place + 1) = omega arith in
    record { range = h.range; skips = omega (arith, h.skips); rest = h.rest ∙ ap (λ i. action ∷ drop i (x ∷ actions)) (sym n) }

drop_empty : (n : ℕ) → drop {A = Action} n [] ≡ []
drop_empty zero = refl
drop_empty (suc n) = refl

pub drop_more : (actions : List Action) (n m : ℕ) → drop m (drop n actions) ≡ drop (n + m) actions
drop_more actions zero m = let e : zero + m ≡ m = omega arith in ap (λ i. drop i actions) (sym e)
drop_more [] (suc n) m = drop_empty m ∙ sym (drop_empty (suc n + m))
drop_more (x ∷ actions) (suc n) m = let e : suc n + m ≡ suc (n + m) = omega arith in drop_more actions n m ∙ ap (λ i. drop i (x ∷ actions)) (sym e)

-- no place got an earlier number
still_absent : (count n : ℕ) (numbers later : List (Option ℕ)) → AreBehind count numbers later → n < count → IsAbsent n numbers → IsAbsent n later
still_absent count n [] [] b w a = tt
still_absent count n [] (y ∷ later) b w a = absurd b
still_absent count n (x ∷ numbers) [] b w a = absurd b
still_absent count n (x ∷ numbers) (None ∷ later) b w a = ((λ e. cc), still_absent count n numbers later b.1 w a.1)
still_absent count n (x ∷ numbers) (Some k ∷ later) b w a = (other b.0, still_absent count n numbers later b.1 w a.1)
  where
    other : (Some k ≡ x) ⊎ (count ≤ k) → Some k ≡ Some n → ⊥
    other (inl same) = λ e. a.0 (sym same ∙ e)
    other (inr past) = λ e. let is : k ≡ n = cc in omega (arith, is, past, w)

as_long_count : (xs ys : List (List ℕ)) → AreAsLong xs ys → length xs ≤ length ys
as_long_count [] ys h = omega arith
as_long_count (x ∷ xs) [] h = let (now, f, l) = h zero x refl in absurd (cc)
as_long_count (x ∷ xs) (y ∷ ys) h = let w : length xs ≤ length ys = as_long_count xs ys (λ n b f. h (suc n) b f) in omega (arith, w)

within : (xs : List (List ℕ)) (n : ℕ) (b : List ℕ) → slice_get xs n ≡ Some b → n < length xs
within [] n b e = absurd (cc)
within (x ∷ xs) zero b e = omega arith
within (x ∷ xs) (suc n) b e = let w : n < length xs = within xs n b e in omega (arith, w)

behind_then : (count more : ℕ) (numbers later last : List (Option ℕ)) → count ≤ more → AreBehind count numbers later → AreBehind more later last → AreBehind count numbers last
behind_then count more [] [] [] w b d = tt
behind_then count more [] [] (z ∷ last) w b d = absurd d
behind_then count more [] (y ∷ later) last w b d = absurd b
behind_then count more (x ∷ numbers) [] last w b d = absurd b
behind_then count more (x ∷ numbers) (y ∷ later) [] w b d = absurd d
behind_then count more (x ∷ numbers) (y ∷ later) (z ∷ last) w b d = (one z b.0 d.0, behind_then count more numbers later last w b.1 d.1)
  where
    past : (z : Option ℕ) → IsPast more z → IsPast count z
    past None p = tt
    past (Some k) p = omega (arith, w, p)

    one : (z : Option ℕ) → (y ≡ x) ⊎ IsPast count y → (z ≡ y) ⊎ IsPast more z → (z ≡ x) ⊎ IsPast count z
    one z (inl e) (inl f) = inl (f ∙ e)
    one z (inr p) (inl f) = inr (subst (λ i. IsPast count i) (sym f) p)
    one z e (inr p) = inr (past z p)

-- what is kept by two parts is kept by both
pub kept_then : (before between after : Memory) (numbers later last : List (Option ℕ)) → IsKept before between numbers later → IsKept between after later last → IsKept before after numbers last
kept_then before between after numbers later last p q = record {
  size = q.size ∙ p.size;
  lengths = λ n bytes e.
      let (now, f, l) = p.lengths n bytes e in
      let (end, g, k) = q.lengths n now f in
      (end, g, k ∙ l);
  others = λ n bytes e a.
      q.others n bytes (p.others n bytes e a) (still_absent (length before.blocks) n numbers later p.behind (within before.blocks n bytes e) a);
  behind = behind_then (length before.blocks) (length between.blocks) numbers later last (as_long_count before.blocks between.blocks p.lengths) p.behind q.behind;
}

pub drop_to : (actions : List Action) (n m : ℕ) → n ≤ m → drop (m - n) (drop n actions) ≡ drop m actions
drop_to actions n m h = let e : n + (m - n) ≡ m = omega (arith, h) in drop_more actions n (m - n) ∙ ap (λ i. drop i actions) e

-- a step more
pub onward_then : (before between after : Moment) (numbers later last : List (Option ℕ)) → IsOnward before between numbers later → IsOnward between after later last → IsOnward before after numbers last
onward_then before between after numbers later last p q = record { held = q.held; kept = kept_then before.arena between.arena after.arena numbers later last p.kept q.kept }

-- past the last action there is none
pub nothing_left : (actions : List Action) (n : ℕ) → slice_get actions n ≡ None → drop n actions ≡ []
nothing_left [] zero e = refl
nothing_left [] (suc n) e = refl
nothing_left (x ∷ actions) zero e = absurd (cc)
nothing_left (x ∷ actions) (suc n) e = nothing_left actions n e
