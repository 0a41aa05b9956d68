-- What is known of a type by what it means.
use Rattle.std.proofs.Common.{ℕ, zero, suc, ◌+◌, ◌-◌, ◌*◌, ◌<◌, ◌≤◌, ◌≡◌, Option, Some, None, option_map, refl, sym, ◌∙◌, ap, subst, Bool, true, false, arith, lit<}
use Rattle.std.specs.Prelude.{nat_lt}
use Rattle.std.proofs.lemmas.Option.{none-some}
use Rattle.std.proofs.Math.Nat.{one-mul}
use Rattle.std.proofs.lemmas.Bool.{ltb-true, ltb-false}
use Rattle.edl_grammar.specs.declared.Gathered.{Gathered}
use Rattle.edl_grammar.specs.declared.Declared.{Declared}
use Rattle.edl_grammar.specs.declared.Base.{Base}
use Rattle.edl_grammar.specs.declared.Written.{Written}
use Rattle.edl_layout.specs.declared.ForeignTypes.{ForeignTypes}
use Rattle.edl_layout.specs.declared.extents.Extent.{Extent}
use Rattle.edl_layout.specs.declared.types.Meant.{Meant}
use Rattle.edl_layout.specs.declared.types.Meant.TheVariants as meant
use Rattle.edl_layout.specs.Shape.{Shape, address, elements}
use Rattle.edl_layout.specs.Ends.{kept, shape_at}
use Rattle.edl_layout.specs.Meaning.{Meaning, Empty, Real, Integer, Defined, Foreign, Opaque, Undeclared, meaning, pointed, shape_within, HasShape}
use Rattle.edl_layout.specs.Frame.{plain_shape}
use Rattle.edl_layout.specs.Faults.{is_undeclared, is_unknown, max_size, HasPlainShape, HasLength, known, unknown}
use Rattle.edl_layout.specs.Meant.{IsMeant}
use Rattle.edl_layout.specs.Settled.{IsUnknownOr, IsSettled, Settles}
use Rattle.edl_layout.specs.Pushed.{known_of, is_none_of, IsElement, IsLengthTest}
use Rattle.edl_layout.proofs.Growing.{grows_by, one_shape}
use Rattle.edl_layout.proofs.Kept.{kept-above, kept-below}

abbrev pub size_or_one : Option Extent → ℕ
size_or_one None = 1
size_or_one (Some e) = e.size

never_none : {A : Type 0} (o : Option A) → ((a : A) → o ≡ Some a → ⊥) → o ≡ None
never_none None h = refl
never_none (Some a) h = absurd (h a refl)

module _ (g : Gathered) (foreign : ForeignTypes) where
  abbrev within : ℕ → Meaning → Option Shape
  within n m = shape_within g foreign n m

  empty_within : (n : ℕ) → within n Empty ≡ None
  empty_within zero = refl
  empty_within (suc n) = refl

  undeclared_within : (n : ℕ) → within n Undeclared ≡ None
  undeclared_within zero = refl
  undeclared_within (suc n) = refl

  -- a shape is settled
  only_shape : (m : Meaning) (s : Shape) (n : ℕ) → HasShape g foreign m s → (o : Option Shape) → within n m ≡ o → IsUnknownOr s o
  only_shape m s n h None e = tt
  only_shape m s n h (Some t) e = one_shape g foreign m t s (n, e) h

  settled_shape : (m : Meaning) (s : Shape) → HasShape g foreign m s → IsSettled (λ n. within n m) s
  settled_shape m s h = record {
    from = h.0;
    deep = λ n le. let back : (n - h.0) + h.0 ≡ n = omega arith in subst (λ k. within k m ≡ Some s) back (grows_by g foreign (n - h.0) h.0 m s h.1);
    only = λ n. only_shape m s n h (within n m) refl;
  }

  settles_base : (b : Base) (z : Meant) → IsMeant g foreign b z → Settles (λ n. within n (meaning g foreign b)) (option_map shape_at (known_of z))
  settles_base b meant.Void h = λ n. ap (within n) h ∙ empty_within n
  settles_base b (meant.Known e) h = settled_shape (meaning g foreign b) (shape_at e) h
  settles_base b meant.Unsized h = λ n. never_none (within n (meaning g foreign b)) (λ s e. h.0 s (n, e))
  settles_base b meant.Undeclared h = λ n. ap (within n) h ∙ undeclared_within n

  -- without stars
  pub settles_plain : (w : Written) (z : Meant) (r : Option Extent) → w.stars ≤ 0 → IsMeant g foreign w.base z → r ≡ known_of z → Settles (λ n. plain_shape g foreign n w) (option_map shape_at r)
  settles_plain w z r few h e =
      let none : 0 ≡ w.stars = omega arith in
      subst (λ (o : Option Extent). Settles (λ n. plain_shape g foreign n w) (option_map shape_at o)) (sym e)
      (subst (λ k. Settles (λ n. pointed k (within n (meaning g foreign w.base))) (option_map shape_at (known_of z))) none (settles_base w.base z h))

  -- with stars
  pub settled_pointer : (w : Written) → 0 < w.stars → IsSettled (λ n. plain_shape g foreign n w) address
  settled_pointer w some = by w.stars some
    where
      by : (k : ℕ) → 0 < k → IsSettled (λ n. pointed k (within n (meaning g foreign w.base))) address
      by zero h = absurd (omega arith)
      by (suc k) h = record { from = 0; deep = λ n le. refl; only = λ n. refl }

  -- ---- undeclared types

  known_declared : (m : Meaning) (s : Shape) → HasShape g foreign m s → is_undeclared m ≡ false
  known_declared Empty s h = refl
  known_declared (Real size) s h = refl
  known_declared (Integer size signed) s h = refl
  known_declared (Defined t) s h = refl
  known_declared (Foreign shape) s h = refl
  known_declared Opaque s h = refl
  known_declared Undeclared s h = absurd (none-some s (sym (undeclared_within h.0) ∙ h.1))

  pub unknown_meant : (w : Written) (z : Meant) → IsMeant g foreign w.base z → is_none_of z ≡ is_unknown g foreign w
  unknown_meant w meant.Void h = sym (ap is_undeclared h)
  unknown_meant w (meant.Known e) h = sym (known_declared (meaning g foreign w.base) (shape_at e) h)
  unknown_meant w meant.Unsized h = sym h.1
  unknown_meant w meant.Undeclared h = sym (ap is_undeclared h)

  -- ---- lengths of arrays

  some_shape : (w : Written) (s : Shape) → IsSettled (λ n. plain_shape g foreign n w) s → HasPlainShape g foreign w s
  some_shape w s h = (h.from, h.deep h.from (omega arith))

  same_shape : (w : Written) (s t : Shape) → IsSettled (λ n. plain_shape g foreign n w) s → HasPlainShape g foreign w t → t ≡ s
  same_shape w s t h k = subst (λ (o : Option Shape). IsUnknownOr s o) k.1 (h.only k.0)

  known_length : (p : Declared) (s : Shape) → IsSettled (λ n. plain_shape g foreign n p.written) s → (n : ℕ) → HasLength g foreign p n → n ≡ s.size * elements p.dims
  known_length p s h n (known t k) = ap (λ (u : Shape). u.size * elements p.dims) (same_shape p.written s t h k)
  known_length p s h n (unknown none) = absurd (none s (some_shape p.written s h))

  unknown_length : (p : Declared) → ((n : ℕ) → plain_shape g foreign n p.written ≡ None) → (n : ℕ) → HasLength g foreign p n → n ≡ elements p.dims
  unknown_length p h n (known t k) = absurd (none-some t (sym (h k.0) ∙ k.1))
  unknown_length p h n (unknown none) = refl

  pub is_element : (p : Declared) (r : Option Extent) → Settles (λ n. plain_shape g foreign n p.written) (option_map shape_at r) → (size : ℕ) → size ≡ size_or_one r → IsElement g foreign p size
  is_element p None h size e =
      let one : size * elements p.dims ≡ elements p.dims = ap (λ n. n * elements p.dims) e ∙ one-mul (elements p.dims) in
      record {
        some = subst (HasLength g foreign p) (sym one) (unknown (λ s k. none-some s (sym (h k.0) ∙ k.1)));
        only = λ n k. unknown_length p h n k ∙ sym one;
      }
  is_element p (Some x) h size e = record {
    some = subst (λ n. HasLength g foreign p (n * elements p.dims)) (sym e) (known (shape_at x) (some_shape p.written (shape_at x) h));
    only = λ n k. known_length p (shape_at x) h n k ∙ ap (λ z. z * elements p.dims) (sym e);
  }

  -- the test of a length that stands still at the largest number
  pub is_length_test : (p : Declared) (size length : ℕ) (test : Bool) → IsElement g foreign p size → length ≡ kept (size * elements p.dims) → test ≡ nat_lt max_size length → IsLengthTest g foreign p test
  is_length_test p size length true h e is =
      let large : max_size < length = ltb-true max_size length (sym is) in
      (size * elements p.dims, h.some, kept-above max_size (size * elements p.dims) (subst (λ n. max_size < n) e large))
  is_length_test p size length false h e is = λ n k.
      let small : length ≤ max_size = ltb-false max_size length (sym is) in
      subst (λ m. m ≤ max_size) (sym (h.only n k)) (kept-below max_size (size * elements p.dims) (lit< tt) (subst (λ m. m ≤ max_size) e small))
