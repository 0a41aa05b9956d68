-- Lists with the same calls, and the parts of a shuffle.
use Rattle.std.proofs.Common.{ℕ, ◌+◌, ◌*◌, ◌≡◌, ◌<◌, ◌≤◌, ◌==◌, Bool, true, false, ◌&&◌, if◌then◌else◌, List, [], ◌∷◌, ◌++◌, map, length, get_or, slice_set, IsPermutation, refl, ap, sym, ◌∙◌, subst, arith, zero-add}
use Rattle.std.specs.List.{filter, count_by, sum_by, flat_map}
use Rattle.std.proofs.lemmas.Bool.{eqb-true, eq-eqb}
use Rattle.std.proofs.lemmas.Option.{slice_get_within, get_or_from_slice_get}
use Rattle.std.proofs.lemmas.List.Sums.{sum_by-cons, sum_by-append, sum_by-set, sum_by-le}
use Rattle.std.proofs.lemmas.List.Sorted.{IsPermutation-refl, IsPermutation-cons, IsPermutation-sym, IsPermutation-trans, IsPermutation-middle}
use Rattle.word_port.specs.declared.Step.{Step}
use Rattle.word_port.specs.History.{IsShuffleOf}
use Rattle.switchless.specs.Counts.{Completed}

abbrev one_where : (Completed → Bool) → Completed → ℕ
one_where p x = if p x then 1 else 0

-- whether two calls are one
same_call : Completed → Completed → Bool
same_call x y = (x.ordinal == y.ordinal) && ((x.frame == y.frame) && (x.status == y.status))

same_call_itself : (x : Completed) → same_call x x ≡ true
unfolding same_call
same_call_itself x =
    ap (λ b. b && ((x.frame == x.frame) && (x.status == x.status))) (eq-eqb x.ordinal x.ordinal refl)
    ∙ ap (λ b. b && (x.status == x.status)) (eq-eqb x.frame x.frame refl) ∙ eq-eqb x.status x.status refl

both_true : (a b : Bool) → (a && b) ≡ true → (a ≡ true) × (b ≡ true)
both_true true b h = (refl, h)
both_true false b h = cc

same_call-true : (x y : Completed) → same_call x y ≡ true → x ≡ y
unfolding same_call
same_call-true x y h =
    let a : ((x.ordinal == y.ordinal) ≡ true) × (((x.frame == y.frame) && (x.status == y.status)) ≡ true) = both_true _ _ h in
    let b : ((x.frame == y.frame) ≡ true) × ((x.status == y.status) ≡ true) = both_true _ _ a.1 in
    let o : x.ordinal ≡ y.ordinal = eqb-true _ _ a.0 in
    let f : x.frame ≡ y.frame = eqb-true _ _ b.0 in
    let s : x.status ≡ y.status = eqb-true _ _ b.1 in
    λ i. record { ordinal = o i; frame = f i; status = s i }

-- a list divided at an element
record Divided (x : Completed) (ys : List Completed) : Type 0 where
  pub before : List Completed
  pub after : List Completed
  pub whole : ys ≡ before ++ x ∷ after

divided : (x : Completed) (ys : List Completed) → 0 < count_by (same_call x) ys → Divided x ys
divided x [] h = absurd (omega (arith, h))
divided x (y ∷ ys) h = by_test (λ k. divided x ys k) (same_call x y) refl
  where
    by_test : (0 < count_by (same_call x) ys → Divided x ys) → (b : Bool) → same_call x y ≡ b → Divided x (y ∷ ys)
    by_test more true e = record { before = []; after = ys; whole = ap (λ z. z ∷ ys) (sym (same_call-true x y e)) }
    by_test more false e =
        let a : count_by (same_call x) (y ∷ ys) ≡ one_where (same_call x) y + count_by (same_call x) ys = sum_by-cons (one_where (same_call x)) y ys in
        let c : one_where (same_call x) y ≡ 0 = ap (λ b. if b then 1 else 0) e in
        let d : Divided x ys = more (omega (arith, a, c, h)) in
        record { before = y ∷ d.before; after = d.after; whole = ap (λ l. y ∷ l) d.whole }

count-append : (p : Completed → Bool) (xs ys : List Completed) → count_by p (xs ++ ys) ≡ count_by p xs + count_by p ys
count-append p xs ys = sum_by-append (one_where p) xs ys

count-cons : (p : Completed → Bool) (x : Completed) (xs : List Completed) → count_by p (x ∷ xs) ≡ one_where p x + count_by p xs
count-cons p x xs = sum_by-cons (one_where p) x xs

-- lists of which each test counts as many have the same elements
pub same_counts : (xs ys : List Completed) → ((p : Completed → Bool) → count_by p xs ≡ count_by p ys) → IsPermutation xs ys
same_counts [] [] h = IsPermutation-refl []
same_counts [] (y ∷ ys) h =
    let a : count_by (λ z. true) (y ∷ ys) ≡ 1 + count_by (λ z. true) ys = count-cons (λ z. true) y ys in
    let b : 0 ≡ count_by (λ z. true) (y ∷ ys) = h (λ z. true) in
    absurd (omega (arith, a, b))
same_counts (x ∷ xs) ys h =
    let a : count_by (same_call x) (x ∷ xs) ≡ one_where (same_call x) x + count_by (same_call x) xs = count-cons (same_call x) x xs in
    let b : one_where (same_call x) x ≡ 1 = ap (λ b. if b then 1 else 0) (same_call_itself x) in
    let c : count_by (same_call x) (x ∷ xs) ≡ count_by (same_call x) ys = h (same_call x) in
    let d : Divided x ys = divided x ys (omega (arith, a, b, c)) in
    let rest : IsPermutation xs (d.before ++ d.after) = same_counts xs (d.before ++ d.after) (λ p.
    let k : count_by p (x ∷ xs) ≡ one_where p x + count_by p xs = count-cons p x xs in
    let l : count_by p (x ∷ xs) ≡ count_by p (d.before ++ x ∷ d.after) = h p ∙ ap (count_by p) d.whole in
    let m : count_by p (d.before ++ x ∷ d.after) ≡ count_by p d.before + count_by p (x ∷ d.after) = count-append p d.before (x ∷ d.after) in
    let n : count_by p (x ∷ d.after) ≡ one_where p x + count_by p d.after = count-cons p x d.after in
    let o : count_by p (d.before ++ d.after) ≡ count_by p d.before + count_by p d.after = count-append p d.before d.after in
    omega (arith, k, l, m, n, o)) in
    subst (λ l. IsPermutation (x ∷ xs) l) (sym d.whole)
    (IsPermutation-trans (x ∷ xs) (x ∷ (d.before ++ d.after)) (d.before ++ x ∷ d.after) (IsPermutation-cons x xs (d.before ++ d.after) rest)
    (IsPermutation-sym (d.before ++ x ∷ d.after) (x ∷ (d.before ++ d.after)) (IsPermutation-middle d.before x d.after)))

module _ (p : Completed → Bool) (keep : Step → Bool) (call : Step → Completed) where
  abbrev calls_of : List Step → List Completed
  calls_of log = map call (filter keep log)

  abbrev share : List Step → ℕ
  share log = count_by p (calls_of log)

  abbrev one_share : Bool → Step → ℕ
  one_share b s = if b then one_where p (call s) else 0

  share_first : (s : Step) (log : List Step) (b : Bool) → count_by p (map call (if b then s ∷ filter keep log else filter keep log)) ≡ one_share b s + share log
  share_first s log true = count-cons p (call s) (calls_of log)
  share_first s log false = sym (zero-add _)

  -- as many are in the parts of a shuffle as in the whole
  shares : (parts : List (List Step)) (whole : List Step) → IsShuffleOf parts whole → sum_by share parts ≡ share whole
  shares parts [] h =
      let a : sum_by share parts ≤ length parts * 0 = sum_by-le share 0 parts (λ k d lt. let e : share (get_or parts k d) ≡ 0 = ap share (h k d lt) in omega (arith, e)) in
      omega (arith, a)
  shares parts (s ∷ whole) (i, rest, found, shuffled) =
      let a : sum_by share (slice_set parts i rest) + share (get_or parts i []) ≡ sum_by share parts + share rest = sum_by-set share parts i rest [] (slice_get_within parts i (s ∷ rest) found) in
      let b : share (get_or parts i []) ≡ share (s ∷ rest) = ap share (get_or_from_slice_get parts i (s ∷ rest) [] found) in
      let c : share (s ∷ rest) ≡ one_share (keep s) s + share rest = share_first s rest (keep s) in
      let d : share (s ∷ whole) ≡ one_share (keep s) s + share whole = share_first s whole (keep s) in
      let e : sum_by share (slice_set parts i rest) ≡ share whole = shares (slice_set parts i rest) whole shuffled in
      omega (arith, a, b, c, d, e)

  count_flat : (parts : List (List Step)) → count_by p (flat_map calls_of parts) ≡ sum_by share parts
  count_flat [] = refl
  count_flat (part ∷ parts) =
      count-append p (calls_of part) (flat_map calls_of parts) ∙ ap (λ n. share part + n) (count_flat parts) ∙ sym (sum_by-cons share part parts)

  pub count_shuffled : (parts : List (List Step)) (whole : List Step) → IsShuffleOf parts whole → count_by p (flat_map calls_of parts) ≡ count_by p (calls_of whole)
  count_shuffled parts whole h = count_flat parts ∙ shares parts whole h
