-- Shuffles that grow.
use Rattle.std.proofs.Common.{ℕ, zero, suc, ◌≡◌, ◌≢◌, ◌<◌, List, [], ◌∷◌, ◌++◌, length, Some, All, refl, ap, sym, ◌∙◌, subst, arith, set, get_or, slice_get}
use Rattle.std.proofs.lemmas.List.{set_comm, length-set, get_or-set_same, get_or-set_other}
use Rattle.std.proofs.lemmas.List.Elements.{All-set, All-cons}
use Rattle.std.proofs.lemmas.Option.{same_Some, slice_get_within, get_or_from_slice_get}
use mathlib.Core.Logic.{dite}
use native.Mathlib.Decide.{ℕ_discrete}
use Rattle.word_port.specs.History.{IsShuffleOf}

pub set_set : {A : Type 0} (xs : List A) (i : ℕ) (a b : A) → set (set xs i a) i b ≡ set xs i b
set_set [] i a b = refl
set_set (x ∷ xs) zero a b = refl
set_set (x ∷ xs) (suc i) a b = ap (λ l. x ∷ l) (set_set xs i a b)

pub get_set : {A : Type 0} (xs : List A) (i : ℕ) (a : A) → i < length xs → slice_get (set xs i a) i ≡ Some a
get_set [] i a h = absurd (omega (arith, h))
get_set (x ∷ xs) zero a h = refl
get_set (x ∷ xs) (suc i) a h = get_set xs i a (omega (arith, h))

pub get_set_other : {A : Type 0} (xs : List A) (i j : ℕ) (a : A) → j ≢ i → slice_get (set xs i a) j ≡ slice_get xs j
get_set_other [] i j a n = refl
get_set_other (x ∷ xs) zero zero a n = absurd (n refl)
get_set_other (x ∷ xs) zero (suc j) a n = refl
get_set_other (x ∷ xs) (suc i) zero a n = refl
get_set_other (x ∷ xs) (suc i) (suc j) a n = get_set_other xs i j a (λ e. n (ap suc e))

-- a part and the whole each gain the same last element
pub shuffle_snoc : {A : Type 0} (whole : List A) (parts : List (List A)) (i : ℕ) (l : List A) (x : A)
    → slice_get parts i ≡ Some l → IsShuffleOf parts whole → IsShuffleOf (set parts i (l ++ x ∷ [])) (whole ++ x ∷ [])
shuffle_snoc {A} [] parts i l x g all =
    let within : i < length parts = slice_get_within parts i l g in
    let empty : l ≡ [] = sym (get_or_from_slice_get parts i l [] g) ∙ all i [] within in (
      i,
      [],
      get_set parts i (l ++ x ∷ []) within ∙ ap (λ (m : List A). Some (m ++ x ∷ [])) empty,
      subst (λ (m : List (List A)). All (λ part. part ≡ []) m) (sym (set_set parts i (l ++ x ∷ []) [])) (All-set (λ part. part ≡ []) parts i [] refl all),
    )
shuffle_snoc {A} (y ∷ whole) parts i l x g p =
    let j : ℕ = p.0 in
    let rest : List A = p.1 in
    dite (ℕ_discrete j i)
    (λ e.
    let here : slice_get parts i ≡ Some (y ∷ rest) = subst (λ k. slice_get parts k ≡ Some (y ∷ rest)) e p.2 in
    let more : IsShuffleOf (set parts i rest) whole = subst (λ k. IsShuffleOf (set parts k rest) whole) e p.3 in
    let is : l ≡ y ∷ rest = same_Some l (y ∷ rest) (sym g ∙ here) in
    let within : i < length parts = slice_get_within parts i l g in
    let longer : IsShuffleOf (set (set parts i rest) i (rest ++ x ∷ [])) (whole ++ x ∷ []) = shuffle_snoc whole (set parts i rest) i rest x (get_set parts i rest within) more in
    let same : set (set parts i (l ++ x ∷ [])) i (rest ++ x ∷ []) ≡ set (set parts i rest) i (rest ++ x ∷ []) = set_set parts i (l ++ x ∷ []) (rest ++ x ∷ []) ∙ sym (set_set parts i rest (rest ++ x ∷ [])) in
    (i, rest ++ x ∷ [], get_set parts i (l ++ x ∷ []) within ∙ ap (λ (m : List A). Some (m ++ x ∷ [])) is, subst (λ (m : List (List A)). IsShuffleOf m (whole ++ x ∷ [])) (sym same) longer))
    (λ ne.
    let other : i ≢ j = λ e. ne (sym e) in
    let longer : IsShuffleOf (set (set parts j rest) i (l ++ x ∷ [])) (whole ++ x ∷ []) = shuffle_snoc whole (set parts j rest) i l x (get_set_other parts j i rest other ∙ g) p.3 in
    (j, rest, get_set_other parts i j (l ++ x ∷ []) ne ∙ p.2, subst (λ (m : List (List A)). IsShuffleOf m (whole ++ x ∷ [])) (sym (set_comm parts i j (l ++ x ∷ []) rest other)) longer))

not_empty : {A : Type 0} (x : A) (xs : List A) → Some (x ∷ xs) ≡ Some [] → ⊥
not_empty {A} x xs e = let h : suc (length xs) ≡ 0 = ap (λ (l : List A). length l) (same_Some (x ∷ xs) [] e) in omega (arith, h)

-- where a part of the shorter list stands in the one with an empty part more, and what a change there makes
into_longer : {A : Type 0} (xs ys : List (List A)) (j : ℕ) (rest : List A)
    → (k : ℕ) × ((r : List A) → slice_get (xs ++ ys) j ≡ Some r → slice_get (xs ++ [] ∷ ys) k ≡ Some r)
    × ((us : List (List A)) × (vs : List (List A)) × (set (xs ++ ys) j rest ≡ us ++ vs) × (set (xs ++ [] ∷ ys) k rest ≡ us ++ [] ∷ vs))
into_longer [] ys j rest = (suc j, (λ r e. e), ([], set ys j rest, refl, refl))
into_longer (x ∷ xs) ys zero rest = (zero, (λ r e. e), (rest ∷ xs, ys, refl, refl))
into_longer (x ∷ xs) ys (suc j) rest =
    let p = into_longer xs ys j rest in
    (suc p.0, p.1, (x ∷ p.2.0, p.2.1, ap (λ l. x ∷ l) p.2.2, ap (λ l. x ∷ l) p.2.3))

-- an empty part more
pub shuffle_insert : {A : Type 0} (whole : List A) (xs ys : List (List A)) → IsShuffleOf (xs ++ ys) whole → IsShuffleOf (xs ++ [] ∷ ys) whole
shuffle_insert {A} [] xs ys all = all_insert xs ys all
  where
    all_insert : (us vs : List (List A)) → All (λ part. part ≡ []) (us ++ vs) → All (λ part. part ≡ []) (us ++ [] ∷ vs)
    all_insert [] vs a zero d h = refl
    all_insert [] vs a (suc k) d h = a k d (omega (arith, h))
    all_insert (u ∷ us) vs a zero d h = a zero d (omega arith)
    all_insert (u ∷ us) vs a (suc k) d h = all_insert us vs (λ i e g. a (suc i) e (omega (arith, g))) k d (omega (arith, h))
shuffle_insert {A} (y ∷ whole) xs ys p =
    let q = into_longer xs ys p.0 p.1 in (
      q.0,
      p.1,
      q.1 (y ∷ p.1) p.2,
      subst (λ (m : List (List A)). IsShuffleOf m whole) (sym q.2.3) (shuffle_insert whole q.2.0 q.2.1 (subst (λ (m : List (List A)). IsShuffleOf m whole) q.2.2 p.3)),
    )

into_shorter : {A : Type 0} (xs ys : List (List A)) (k : ℕ) (y : A) (rest : List A) → slice_get (xs ++ [] ∷ ys) k ≡ Some (y ∷ rest)
    → (j : ℕ) × (slice_get (xs ++ ys) j ≡ Some (y ∷ rest))
    × ((us : List (List A)) × (vs : List (List A)) × (set (xs ++ ys) j rest ≡ us ++ vs) × (set (xs ++ [] ∷ ys) k rest ≡ us ++ [] ∷ vs))
into_shorter [] ys zero y rest e = absurd (not_empty y rest (sym e))
into_shorter [] ys (suc k) y rest e = (k, e, ([], set ys k rest, refl, refl))
into_shorter (x ∷ xs) ys zero y rest e = (zero, e, (rest ∷ xs, ys, refl, refl))
into_shorter (x ∷ xs) ys (suc k) y rest e =
    let p = into_shorter xs ys k y rest e in
    (suc p.0, p.1, (x ∷ p.2.0, p.2.1, ap (λ l. x ∷ l) p.2.2, ap (λ l. x ∷ l) p.2.3))

-- an empty part less
pub shuffle_remove : {A : Type 0} (whole : List A) (xs ys : List (List A)) → IsShuffleOf (xs ++ [] ∷ ys) whole → IsShuffleOf (xs ++ ys) whole
shuffle_remove {A} [] xs ys all = all_remove xs ys all
  where
    all_remove : (us vs : List (List A)) → All (λ part. part ≡ []) (us ++ [] ∷ vs) → All (λ part. part ≡ []) (us ++ vs)
    all_remove [] vs a k d h = a (suc k) d (omega (arith, h))
    all_remove (u ∷ us) vs a zero d h = a zero d (omega arith)
    all_remove (u ∷ us) vs a (suc k) d h = all_remove us vs (λ i e g. a (suc i) e (omega (arith, g))) k d (omega (arith, h))
shuffle_remove {A} (y ∷ whole) xs ys p =
    let q = into_shorter xs ys p.0 y p.1 p.2 in (
      q.0,
      p.1,
      q.1,
      subst (λ (m : List (List A)). IsShuffleOf m whole) (sym q.2.2) (shuffle_remove whole q.2.0 q.2.1 (subst (λ (m : List (List A)). IsShuffleOf m whole) q.2.3 p.3)),
    )

-- a part goes to the place of an empty one
pub shuffle_move : {A : Type 0} (whole : List A) (parts : List (List A)) (i k : ℕ) (l : List A)
    → slice_get parts i ≡ Some l → slice_get parts k ≡ Some [] → i ≢ k → IsShuffleOf parts whole → IsShuffleOf (set (set parts i []) k l) whole
shuffle_move {A} [] parts i k l g h apart all =
    let empty : l ≡ [] = sym (get_or_from_slice_get parts i l [] g) ∙ all i [] (slice_get_within parts i l g) in
    All-set (λ part. part ≡ []) (set parts i []) k l empty (All-set (λ part. part ≡ []) parts i [] refl all)
shuffle_move {A} (y ∷ whole) parts i k l g h apart p =
    let j : ℕ = p.0 in
    let rest : List A = p.1 in
    let apart' : k ≢ i = λ e. apart (sym e) in
    let room : k < length (set parts i []) = subst (λ n. k < n) (sym (length-set parts i [])) (slice_get_within parts k [] h) in
    dite (ℕ_discrete j i)
    (λ e.
    let here : slice_get parts i ≡ Some (y ∷ rest) = subst (λ n. slice_get parts n ≡ Some (y ∷ rest)) e p.2 in
    let more : IsShuffleOf (set parts i rest) whole = subst (λ n. IsShuffleOf (set parts n rest) whole) e p.3 in
    let is : l ≡ y ∷ rest = same_Some l (y ∷ rest) (sym g ∙ here) in
    let moved : IsShuffleOf (set (set (set parts i rest) i []) k rest) whole =
    shuffle_move whole (set parts i rest) i k rest (get_set parts i rest (slice_get_within parts i l g)) (get_set_other parts i k rest apart' ∙ h) apart more in
    let same : set (set (set parts i []) k l) k rest ≡ set (set (set parts i rest) i []) k rest =
    set_set (set parts i []) k l rest ∙ ap (λ (m : List (List A)). set m k rest) (sym (set_set parts i rest [])) in
    (k, rest, get_set (set parts i []) k l room ∙ ap (λ (m : List A). Some m) is, subst (λ (m : List (List A)). IsShuffleOf m whole) (sym same) moved))
    (λ ne.
    let other : i ≢ j = λ e. ne (sym e) in
    let not_k : j ≢ k = λ e. not_empty y rest (sym p.2 ∙ ap (λ n. slice_get parts n) e ∙ h) in
    let k_not : k ≢ j = λ e. not_k (sym e) in
    let moved : IsShuffleOf (set (set (set parts j rest) i []) k l) whole =
    shuffle_move whole (set parts j rest) i k l (get_set_other parts j i rest other ∙ g) (get_set_other parts j k rest k_not ∙ h) apart p.3 in
    let same : set (set (set parts i []) k l) j rest ≡ set (set (set parts j rest) i []) k l =
    set_comm (set parts i []) k j l rest k_not ∙ ap (λ (m : List (List A)). set m k l) (set_comm parts i j [] rest other) in
    (j, rest, get_set_other (set parts i []) k j l not_k ∙ get_set_other parts i j [] ne ∙ p.2, subst (λ (m : List (List A)). IsShuffleOf m whole) (sym same) moved))

-- what holds of each element of the whole holds of each element of each part
pub shuffle_all : {A : Type 0} (P : A → Type 0) (whole : List A) (parts : List (List A)) → IsShuffleOf parts whole → All P whole → All (All P) parts
shuffle_all {A} P [] parts empty all i d h = subst (All P) (sym (empty i d h)) (λ k x g. absurd (omega (arith, g)))
shuffle_all {A} P (x ∷ whole) parts p all i d h =
    let j : ℕ = p.0 in
    let rest : List A = p.1 in
    let first : P x = all 0 x (omega arith) in
    let more : All (All P) (set parts j rest) = shuffle_all P whole (set parts j rest) p.3 (λ k y g. all (suc k) y (omega (arith, g))) in
    let within : i < length (set parts j rest) = subst (λ n. i < n) (sym (length-set parts j rest)) h in
    dite (ℕ_discrete i j)
    (λ e.
    let here : j < length parts = subst (λ n. n < length parts) e h in
    let rest_all : All P rest = subst (All P) (get_or-set_same parts j rest d here) (more j d (subst (λ n. n < length (set parts j rest)) e within)) in
    subst (All P) (sym (get_or_from_slice_get parts i (x ∷ rest) d (ap (λ n. slice_get parts n) e ∙ p.2))) (All-cons P x rest first rest_all))
    (λ ne. subst (All P) (get_or-set_other parts j i rest d ne) (more i d within))
