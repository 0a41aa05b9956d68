-- Looking for sizes of one type after another.
use Rattle.std.proofs.Common.{◌≡◌, ◌<◌, ◌≤◌, ◌+◌, ◌⊎◌, inl, inr, ℕ, zero, suc, Bool, true, false, List, [], ◌∷◌, length, set, take, refl, sym, ◌∙◌, ap, subst, Some, arith}
use Rattle.std.specs.Prelude.{slice_get, cond}
use Rattle.edl_layout.specs.Meaning.{members_of}
use Rattle.std.proofs.lemmas.Option.{none-some, same_Some, slice_get_within}
use Rattle.std.proofs.lemmas.List.{length-set}
use Rattle.edl_grammar.specs.declared.Gathered.{Gathered}
use Rattle.edl_grammar.specs.Files.{TypeIn, types_of}
use Rattle.edl_layout.specs.declared.ForeignTypes.{ForeignTypes}
use Rattle.edl_layout.specs.declared.sizes.TypeSize.{TypeSize}
use Rattle.edl_layout.specs.declared.sizes.TypeSize.TheVariants as size
use Rattle.edl_layout.specs.Sizes.{count_of, waiting, is_waiting, IsTypeSize, IsNextSize, AreSizes, AreSettled, WaitsFor, SomeWaits, HasFound, IsFound, unless_waiting}

pub whole_taken : {X : Type 0} (n : ℕ) (xs : List X) → length xs ≤ n → take n xs ≡ xs
whole_taken zero [] h = refl
whole_taken zero (x ∷ xs) h = absurd (omega (arith, h))
whole_taken (suc n) [] h = refl
whole_taken (suc n) (x ∷ xs) h = ap (◌∷◌ x) (whole_taken n xs (omega arith))

pub get_set_same : {X : Type 0} (xs : List X) (i : ℕ) (y : X) → i < length xs → slice_get (set xs i y) i ≡ Some y
get_set_same [] i y low = absurd (omega (arith, low))
get_set_same (x ∷ xs) zero y low = refl
get_set_same (x ∷ xs) (suc i) y low = get_set_same xs i y (omega arith)

pub get_set_other : {X : Type 0} (xs : List X) (i k : ℕ) (y : X) → (k ≡ i → ⊥) → slice_get (set xs i y) k ≡ slice_get xs k
get_set_other [] i k y apart = refl
get_set_other (x ∷ xs) zero zero y apart = absurd (apart refl)
get_set_other (x ∷ xs) zero (suc k) y apart = refl
get_set_other (x ∷ xs) (suc i) zero y apart = refl
get_set_other (x ∷ xs) (suc i) (suc k) y apart = get_set_other xs i k y (λ e. apart (ap suc e))

pub same_or_not : (k i : ℕ) → (k ≡ i) ⊎ (k ≡ i → ⊥)
same_or_not zero zero = inl refl
same_or_not zero (suc i) = inr (λ e. omega (arith, e))
same_or_not (suc k) zero = inr (λ e. omega (arith, e))
same_or_not (suc k) (suc i) = by (same_or_not k i)
  where
    by : (k ≡ i) ⊎ (k ≡ i → ⊥) → (suc k ≡ suc i) ⊎ (suc k ≡ suc i → ⊥)
    by (inl e) = inl (ap suc e)
    by (inr apart) = inr (λ e. apart (omega (arith, e)))

pub below_or_at : (i n : ℕ) → i < n + 1 → (i < n) ⊎ (i ≡ n)
below_or_at i n h = by (same_or_not i n)
  where
    by : (i ≡ n) ⊎ (i ≡ n → ⊥) → (i < n) ⊎ (i ≡ n)
    by (inl e) = inr e
    by (inr apart) = inl (omega (arith, apart))

pub count_set : {X : Type 0} (p : X → Bool) (xs : List X) (i : ℕ) (x y : X) → slice_get xs i ≡ Some x → p x ≡ true → p y ≡ false → count_of p (set xs i y) + 1 ≡ count_of p xs
count_set p [] i x y at yes' no' = absurd (none-some x at)
count_set p (z ∷ xs) zero x y at yes' no' =
    ap (λ b. cond b 1 0 + count_of p xs + 1) no' ∙ one_more (count_of p xs) ∙ ap (λ b. cond b 1 0 + count_of p xs) (sym (ap p (same_Some z x at) ∙ yes'))
  where
    one_more : (n : ℕ) → 0 + n + 1 ≡ 1 + n
    one_more n = omega arith
count_set p (z ∷ xs) (suc i) x y at yes' no' = also (cond (p z) 1 0) (count_of p (set xs i y)) (count_of p xs) (count_set p xs i x y at yes' no')
  where
    also : (c a b : ℕ) → a + 1 ≡ b → c + a + 1 ≡ c + b
    also c a b e = omega arith

pub some_at : {X : Type 0} (xs : List X) (i : ℕ) → i < length xs → (x : X) × (slice_get xs i ≡ Some x)
some_at [] i low = absurd (omega (arith, low))
some_at (x ∷ xs) zero low = (x, refl)
some_at (x ∷ xs) (suc i) low = some_at xs i (omega arith)

module _ (g : Gathered) (foreign : ForeignTypes) where
  pub told_by_next : (sizes : List TypeSize) (t : TypeIn) (z : TypeSize) → (z ≡ size.Waiting → ⊥) → IsNextSize g foreign sizes t z → IsTypeSize g foreign t z
  told_by_next sizes t size.Waiting apart h = tt
  told_by_next sizes t size.Unsized apart h = h
  told_by_next sizes t (size.Known e) apart h = h

  pub next_waits : (sizes : List TypeSize) (t : TypeIn) (z : TypeSize) → z ≡ size.Waiting → IsNextSize g foreign sizes t z → SomeWaits g foreign sizes (members_of t.decl)
  next_waits sizes t z e h = subst (λ (y : TypeSize). IsNextSize g foreign sizes t y) e h

  pub fewer_wait : (sizes : List TypeSize) (i : ℕ) (z : TypeSize) → slice_get sizes i ≡ Some size.Waiting → (z ≡ size.Waiting → ⊥) → waiting (set sizes i z) < waiting sizes
  fewer_wait sizes i z at apart = let e : waiting (set sizes i z) + 1 ≡ waiting sizes = count_set is_waiting sizes i size.Waiting z at refl (not_waiting z apart) in omega arith
    where
      not_waiting : (y : TypeSize) → (y ≡ size.Waiting → ⊥) → is_waiting y ≡ false
      not_waiting size.Waiting h = absurd (h refl)
      not_waiting size.Unsized h = refl
      not_waiting (size.Known e) h = refl

  -- one size more
  pub set_size : (sizes : List TypeSize) (i : ℕ) (t : TypeIn) (z : TypeSize) → AreSizes g foreign sizes → i < length sizes → slice_get (types_of g) i ≡ Some t → IsTypeSize g foreign t z → AreSizes g foreign (set sizes i z)
  set_size sizes i t z sound low place is = record {
    count = length-set sizes i z ∙ sound.count;
    each = each;
  }
    where
      each : (k : ℕ) (u : TypeIn) (y : TypeSize) → slice_get (types_of g) k ≡ Some u → slice_get (set sizes i z) k ≡ Some y → IsTypeSize g foreign u y
      each k u y at got = by (same_or_not k i)
        where
          by : (k ≡ i) ⊎ (k ≡ i → ⊥) → IsTypeSize g foreign u y
          by (inl e) =
              let same : t ≡ u = same_Some t u (sym place ∙ ap (slice_get (types_of g)) (sym e) ∙ at) in
              let new : z ≡ y = same_Some z y (sym (get_set_same sizes i z low) ∙ ap (slice_get (set sizes i z)) (sym e) ∙ got) in
              subst (λ (v : TypeIn). IsTypeSize g foreign v y) same (subst (λ (v : TypeSize). IsTypeSize g foreign t v) new is)
          by (inr apart) = sound.each k u y at (sym (get_set_other sizes i k z apart) ∙ got)

  -- what is found of a type is no waiting size
  pub found_next : (sizes : List TypeSize) (i : ℕ) (z : TypeSize) → slice_get sizes i ≡ Some size.Waiting → ((t : TypeIn) → slice_get (types_of g) i ≡ Some t → IsNextSize g foreign sizes t z) → IsFound g foreign sizes i (unless_waiting z)
  found_next sizes i size.Waiting at next = λ t place _. next t place
  found_next sizes i size.Unsized at next = record { apart = λ e. cc; waiting = at; told = next }
  found_next sizes i (size.Known e) at next = record { apart = λ d. cc; waiting = at; told = next }

  pub set_found : (sizes : List TypeSize) (i : ℕ) (z : TypeSize) → AreSizes g foreign sizes → i < length sizes → HasFound g foreign sizes i z → AreSizes g foreign (set sizes i z)
  set_found sizes i z sound low found =
      let p = some_at (types_of g) i (let e : length sizes ≡ length (types_of g) = sound.count in omega arith) in
      set_size sizes i p.0 z sound low p.1 (found.told p.0 p.1)

  -- no type waits for ever at the beginning
  pub all_waiting : (sizes : List TypeSize) → length sizes ≡ length (types_of g) → ((i : ℕ) (z : TypeSize) → slice_get sizes i ≡ Some z → z ≡ size.Waiting) → AreSizes g foreign sizes
  all_waiting sizes count each = record {
    count = count;
    each = λ i t z at got. subst (λ (y : TypeSize). IsTypeSize g foreign t y) (sym (each i z got)) tt;
  }

  -- no size is found so far, and the types below this number wait
  pub record Sweep (old sizes : List TypeSize) (upto : ℕ) : Type 0 where
    pub same : sizes ≡ old
    pub waits : (i : ℕ) → i < upto → WaitsFor g foreign old i

  pub sweep_begins : (sizes : List TypeSize) → Sweep sizes sizes 0
  sweep_begins sizes = record { same = refl; waits = λ i low. absurd (omega (arith, low)) }

  pub sweep_goes : (old sizes new : List TypeSize) (i : ℕ) → Sweep old sizes i → new ≡ sizes → WaitsFor g foreign sizes i → Sweep old new (i + 1)
  sweep_goes old sizes new i h same waits = record { same = same ∙ h.same; waits = λ k low. by k (below_or_at k i low) }
    where
      by : (k : ℕ) → (k < i) ⊎ (k ≡ i) → WaitsFor g foreign old k
      by k (inl low) = h.waits k low
      by k (inr here) = subst (λ (z : List TypeSize). WaitsFor g foreign z k) h.same (subst (λ (j : ℕ). WaitsFor g foreign sizes j) (sym here) waits)

  pub sweep_settled : (old sizes : List TypeSize) (n : ℕ) → length old ≤ n → Sweep old sizes n → AreSettled g foreign sizes
  sweep_settled old sizes n high h = subst (λ (z : List TypeSize). AreSettled g foreign z) (sym h.same) settled
    where
      settled : AreSettled g foreign old
      settled i t place waits =
          let low : i < length old = slice_get_within old i size.Waiting waits in
          h.waits i (omega arith) t place waits
