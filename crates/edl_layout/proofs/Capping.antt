-- Sizes that stand still at a cap: whatever is done with them, the cap of the outcome is that of the exact one.
use Rattle.std.proofs.Common.{ℕ, zero, suc, ◌+◌, ◌-◌, ◌*◌, ◌/◌, ◌%◌, ◌^◌, ◌<◌, ◌≤◌, ◌≡◌, ◌⊎◌, min, max, List, [], ◌∷◌, ◌++◌, map, sym, ◌∙◌, ap, inl, inr, arith, refl, Option}
use Rattle.std.specs.Prelude.{fold}
use Rattle.std.proofs.Math.Nat.{div-add-mod', mul-zero, mul-le-mul_left}
use Rattle.std.proofs.lemmas.Nat.{mod_below}
use Rattle.std.proofs.lemmas.List.Folds.{fold-map}
use Rattle.std.proofs.lemmas.List.{map-append}
use Rattle.sgx_base.specs.Bytes.{round_up}
use Rattle.edl_layout.specs.declared.extents.Extent.{Extent}
use Rattle.edl_layout.specs.declared.sizes.Fields.{Fields}
use Rattle.edl_layout.specs.Shape.{Shape, align_of, largest, end_of, elements, array_shape, structure_shape, union_shape}
use Rattle.edl_layout.specs.Ends.{kept, shape_at, ends_of, ends_after}
use Rattle.edl_layout.specs.Sizes.{cap, capped, capped_up, with_field, structure_of, union_of, array_of, IsFields}
use Rattle.edl_layout.proofs.Rounding.{round_up-zero}

small_or_large : (n c : ℕ) → (n ≤ c) ⊎ (c < n)
small_or_large n c = grind arith

-- a place is not rounded down
pub round_up-above : (n a : ℕ) → 0 < a → n ≤ round_up n a
round_up-above n a pos =
    let whole : (n + (a - 1)) / a * a + (n + (a - 1)) % a ≡ n + (a - 1) = div-add-mod' (n + (a - 1)) a in
    let below : (n + (a - 1)) % a < a = mod_below (n + (a - 1)) a pos in
    omega arith

pub up_capped : (c n a : ℕ) → min (round_up (min n c) a) c ≡ min (round_up n a) c
up_capped c n zero = rw (round_up-zero (min n c), round_up-zero n) refl
up_capped c n (suc a) = by (small_or_large n c)
  where
    by : (n ≤ c) ⊎ (c < n) → min (round_up (min n c) (suc a)) c ≡ min (round_up n (suc a)) c
    by (inl low) = let e : min n c ≡ n = omega arith in ap (λ m. min (round_up m (suc a)) c) e
    by (inr high) =
        let e : min n c ≡ c = omega arith in
        let one : c ≤ round_up c (suc a) = round_up-above c (suc a) (omega arith) in
        let two : n ≤ round_up n (suc a) = round_up-above n (suc a) (omega arith) in
        ap (λ m. min (round_up m (suc a)) c) e ∙ omega arith

-- what is equal up to the cap stays so
pub up_same : (c m n a : ℕ) → min m c ≡ min n c → min (round_up m a) c ≡ min (round_up n a) c
up_same c m n a e = sym (up_capped c m a) ∙ ap (λ k. min (round_up k a) c) e ∙ up_capped c n a

pub add_same : (c m n x y : ℕ) → min m c ≡ min n c → min x c ≡ min y c → min (m + x) c ≡ min (n + y) c
add_same c m n x y e d = omega arith

pub min_min : (c k n : ℕ) → c ≤ k → min (min n k) c ≡ min n c
min_min c k n h = omega arith

min_twice : (c n : ℕ) → min (min n c) c ≡ min n c
min_twice c n = omega arith

pub end_same : (c : ℕ) (f : Shape → Shape) → ((s : Shape) → min (f s).size c ≡ min s.size c) → ((s : Shape) → (f s).align ≡ s.align) → (m n : ℕ) → min m c ≡ min n c → (ss : List Shape) → min (end_of m (map f ss)) c ≡ min (end_of n ss) c
end_same c f size align m n e [] = e
end_same c f size align m n e (s ∷ ss) =
    end_same c f size align (round_up m (f s).align + (f s).size) (round_up n s.align + s.size)
    (add_same c (round_up m (f s).align) (round_up n s.align) (f s).size s.size (ap (λ a. min (round_up m a) c) (align s) ∙ up_same c m n s.align e) (size s)) ss

align_same : (ss : List Shape) → align_of (map capped ss) ≡ align_of ss
align_same ss = fold-map (λ a s. max a s.align) capped 1 ss

largest_from : (a : ℕ) (ss : List Shape) → fold (λ n s. max n s.size) (min a cap) (map capped ss) ≡ min (fold (λ n s. max n s.size) a ss) cap
largest_from a [] = refl
largest_from a (s ∷ ss) =
    let e : max (min a cap) (min s.size cap) ≡ min (max a s.size) cap = max_min cap a s.size in
    ap (λ m. fold (λ n t. max n t.size) m (map capped ss)) e ∙ largest_from (max a s.size) ss
  where
    max_min : (c a b : ℕ) → max (min a c) (min b c) ≡ min (max a b) c
    max_min c a b = omega arith

same_fields : (ss : List Shape) → min (end_of 0 (map capped ss)) cap ≡ min (end_of 0 ss) cap
same_fields ss = end_same cap capped (λ s. min_twice cap s.size) (λ s. refl) 0 0 refl ss

kept_capped : (n : ℕ) → min (kept n) cap ≡ min n cap
kept_capped n = min_min cap (2 ^ 64 - 1) n (omega arith)

pub structure_capped : (ss : List Shape) (f : Fields) → IsFields ss f → capped (structure_shape ss) ≡ shape_at (structure_of f)
structure_capped ss f is =
    let e : min (kept (end_of 0 (map capped ss))) cap ≡ min (end_of 0 ss) cap = kept_capped (end_of 0 (map capped ss)) ∙ same_fields ss in
    let size : min (round_up (end_of 0 ss) (align_of ss)) cap ≡ capped_up (kept (end_of 0 (map capped ss))) (align_of (map capped ss)) =
    sym (up_same cap (kept (end_of 0 (map capped ss))) (end_of 0 ss) (align_of ss) e) ∙ ap (λ a. min (round_up (kept (end_of 0 (map capped ss))) a) cap) (sym (align_same ss)) in
    ap (λ (n : ℕ). record { size = n; align = align_of ss }) size
    ∙ ap (λ (a : ℕ). record { size = capped_up (kept (end_of 0 (map capped ss))) (align_of (map capped ss)); align = a }) (sym (align_same ss))
    ∙ ap (λ (h : Fields). shape_at (structure_of h)) (sym is)

pub union_capped : (ss : List Shape) (f : Fields) → IsFields ss f → capped (union_shape ss) ≡ shape_at (union_of f)
union_capped ss f is =
    let size : min (round_up (largest ss) (align_of ss)) cap ≡ capped_up (largest (map capped ss)) (align_of (map capped ss)) =
    sym (up_capped cap (largest ss) (align_of ss)) ∙ ap (λ m. min (round_up m (align_of ss)) cap) (sym (largest_from 0 ss)) ∙ ap (λ a. min (round_up (largest (map capped ss)) a) cap) (sym (align_same ss)) in
    ap (λ (n : ℕ). record { size = n; align = align_of ss }) size
    ∙ ap (λ (a : ℕ). record { size = capped_up (largest (map capped ss)) (align_of (map capped ss)); align = a }) (sym (align_same ss))
    ∙ ap (λ (h : Fields). shape_at (union_of h)) (sym is)

times_capped : (n m : ℕ) → min (n * m) cap ≡ min (min n cap * m) cap
times_capped n zero = rw (mul-zero n, mul-zero (min n cap)) refl
times_capped n (suc m) = by (small_or_large n cap)
  where
    by : (n ≤ cap) ⊎ (cap < n) → min (n * suc m) cap ≡ min (min n cap * suc m) cap
    by (inl low) = let e : min n cap ≡ n = omega arith in ap (λ k. min (k * suc m) cap) (sym e)
    by (inr high) =
        let e : min n cap ≡ cap = omega arith in
        let low : 1 ≤ suc m = omega arith in
        let one : n * 1 ≤ n * suc m = mul-le-mul_left n low in
        let two : cap * 1 ≤ cap * suc m = mul-le-mul_left cap low in
        let three : cap ≤ n * suc m = omega arith in
        let four : cap ≤ cap * suc m = omega arith in
        large (n * suc m) (cap * suc m) three four ∙ ap (λ k. min (k * suc m) cap) (sym e)
      where
        large : (x y : ℕ) → cap ≤ x → cap ≤ y → min x cap ≡ min y cap
        large x y a b = omega arith

pub array_capped : (dims : List (Option ℕ)) (s : Shape) (e : Extent) → capped s ≡ shape_at e → capped (array_shape dims s) ≡ shape_at (array_of e dims)
array_capped dims s e is =
    ap (λ (n : ℕ). record { size = n; align = s.align }) (times_capped s.size (elements dims))
    ∙ ap (λ (t : Shape). record { size = min (t.size * elements dims) cap; align = t.align }) is

-- ---- one field more

end_push : (m : ℕ) (ss : List Shape) (s : Shape) → end_of m (ss ++ s ∷ []) ≡ round_up (end_of m ss) s.align + s.size
end_push m [] s = refl
end_push m (t ∷ ss) s = end_push (round_up m t.align + t.size) ss s

fold_push : {A B : Type 0} (f : B → A → B) (b : B) (xs : List A) (x : A) → fold f b (xs ++ x ∷ []) ≡ f (fold f b xs) x
fold_push f b [] x = refl
fold_push f b (y ∷ xs) x = fold_push f (f b y) xs x

ends_push : (ss : List Shape) (s : Shape) → ends_after (ends_of ss) s ≡ ends_of (ss ++ s ∷ [])
ends_push ss s =
    let end : kept (round_up (kept (end_of 0 ss)) s.align + s.size) ≡ kept (end_of 0 (ss ++ s ∷ [])) =
    add_same (2 ^ 64 - 1) (round_up (kept (end_of 0 ss)) s.align) (round_up (end_of 0 ss) s.align) s.size s.size (up_capped (2 ^ 64 - 1) (end_of 0 ss) s.align) refl
    ∙ ap kept (sym (end_push 0 ss s)) in
    ap (λ (n : ℕ). record { end = n; align = max (align_of ss) s.align }) end
    ∙ ap (λ (a : ℕ). record { end = kept (end_of 0 (ss ++ s ∷ [])); align = a }) (sym (fold_push (λ (a : ℕ) (t : Shape). max a t.align) 1 ss s))

pub one_more_field : (ss : List Shape) (s : Shape) (f : Fields) (e : Extent) → IsFields ss f → capped s ≡ shape_at e → IsFields (ss ++ s ∷ []) (with_field f e)
one_more_field ss s f e is same =
    let more : map capped (ss ++ s ∷ []) ≡ map capped ss ++ capped s ∷ [] = map-append capped ss (s ∷ []) in
    ap (λ (h : Fields). with_field h e) is
    ∙ ap (λ (t : Shape). record { ends = ends_after (ends_of (map capped ss)) t; largest = max (largest (map capped ss)) t.size }) (sym same)
    ∙ ap (λ (z : Fields). z) (both (map capped ss) (capped s))
    ∙ ap (λ (cs : List Shape). record { ends = ends_of cs; largest = largest cs }) (sym more)
  where
    both : (cs : List Shape) (c : Shape) → ◌≡◌ {A = Fields} (record { ends = ends_after (ends_of cs) c; largest = max (largest cs) c.size }) (record { ends = ends_of (cs ++ c ∷ []); largest = largest (cs ++ c ∷ []) })
    both cs c =
        ap (λ z. record { ends = z; largest = max (largest cs) c.size }) (ends_push cs c)
        ∙ ap (λ n. record { ends = ends_of (cs ++ c ∷ []); largest = n }) (sym (fold_push (λ (n : ℕ) (t : Shape). max n t.size) 0 cs c))
