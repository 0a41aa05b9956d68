-- What a type means, and which types are `void`.
use Rattle.std.proofs.Common.{◌≡◌, ◌≤◌, ℕ, zero, suc, Bool, true, false, List, find, min, refl, sym, ◌∙◌, ap, subst, Option, Some, None, option_map, eqb, arith}
use Rattle.std.specs.Prelude.{slice_get, All, if◌then◌else◌, ◌&&◌, ◌||◌, not, nat_lt}
use Rattle.edl_grammar.specs.declared.Written.{Written}
use Rattle.std.specs.Str.{bytes_eq}
use Rattle.std.proofs.lemmas.Option.{none-some, same_Some, slice_get_within, get_or_from_slice_get}
use Rattle.std.proofs.lemmas.Bool.Decides.{nat_tests}
use Rattle.edl_grammar.specs.declared.Gathered.{Gathered}
use Rattle.edl_grammar.specs.declared.Base.{Base}
use Rattle.edl_grammar.specs.declared.Base.TheVariants as base
use Rattle.edl_grammar.specs.Files.{TypeIn, types_of}
use Rattle.edl_layout.specs.declared.ForeignTypes.{ForeignTypes}
use Rattle.edl_layout.specs.declared.sizes.TypeSize.{TypeSize}
use Rattle.edl_layout.specs.declared.sizes.TypeSize.TheVariants as size
use Rattle.edl_layout.specs.declared.types.Meant.TheVariants as meant
use Rattle.edl_layout.specs.declared.extents.Extent.{Extent}
use Rattle.edl_layout.specs.Ends.{shape_at}
use Rattle.edl_layout.specs.Shape.{Shape}
use Rattle.edl_layout.specs.Meaning.{Meaning, Empty, Real, Integer, Defined, Foreign, Opaque, Undeclared, meaning, bare_meaning, foreign_meaning, or_else, is_named, has_tag, standard_types, shape_within, HasShape}
use Rattle.edl_layout.specs.Frame.{is_void}
use Rattle.edl_layout.specs.Faults.{IsCleanType, max_size, is_undeclared, is_no_value}
use Rattle.edl_layout.specs.Targets.{fixed_shape}
use Rattle.edl_layout.specs.Sizes.{cap, capped, IsTypeSize, AreSizes, AreSettled}
use Rattle.edl_layout.specs.Judged.{meant_by}
use Rattle.edl_layout.specs.Meant.{IsMeant}
use Rattle.edl_layout.proofs.Together.{fixed_found, never_found}

abbrev pub is_empty : Meaning → Bool
is_empty Empty = true
is_empty (Real size) = false
is_empty (Integer size signed) = false
is_empty (Defined t) = false
is_empty (Foreign s) = false
is_empty Opaque = false
is_empty Undeclared = false

else_full : (o : Option Meaning) (m : Meaning) → ((x : Meaning) → o ≡ Some x → is_empty x ≡ false) → is_empty m ≡ false → is_empty (or_else o m) ≡ false
else_full None m some rest = rest
else_full (Some x) m some rest = some x refl

mapped_full : {A : Type 0} (f : A → Meaning) → ((a : A) → is_empty (f a) ≡ false) → (o : Option A) (x : Meaning) → option_map f o ≡ Some x → is_empty x ≡ false
mapped_full f full None x e = absurd (none-some x e)
mapped_full f full (Some a) x e = ap is_empty (sym (same_Some (f a) x e)) ∙ full a

pub eq_zero : (n : ℕ) → eqb n 0 ≡ not (nat_lt 0 n)
eq_zero n = grind (arith, nat_tests)

module _ (g : Gathered) (foreign : ForeignTypes) where
  last_full : (b : Bool) → is_empty (if b then Opaque else Undeclared) ≡ false
  last_full true = refl
  last_full false = refl

  foreign_full : (name : List ℕ) → is_empty (foreign_meaning g foreign name) ≡ false
  foreign_full name =
      else_full (option_map (λ t. Foreign (record { size = t.size; align = t.align })) (find (λ t. bytes_eq t.name name) foreign.types)) (if foreign.lenient then Opaque else Undeclared)
      (mapped_full (λ t. Foreign (record { size = t.size; align = t.align })) (λ t. refl) (find (λ t. bytes_eq t.name name) foreign.types)) (last_full foreign.lenient)

  bare_full : (name : List ℕ) → is_empty (bare_meaning g foreign name) ≡ false
  bare_full name =
      else_full (option_map Defined (find (is_named name) (types_of g))) (or_else (option_map (λ s. Integer s.size s.signed) (find (λ s. bytes_eq s.name name) standard_types)) (foreign_meaning g foreign name))
      (mapped_full Defined (λ t. refl) (find (is_named name) (types_of g)))
      (else_full (option_map (λ s. Integer s.size s.signed) (find (λ s. bytes_eq s.name name) standard_types)) (foreign_meaning g foreign name)
      (mapped_full (λ s. Integer s.size s.signed) (λ s. refl) (find (λ s. bytes_eq s.name name) standard_types)) (foreign_full name))

  -- only `void` means nothing
  void_is : (b : Base) → is_void b ≡ is_empty (meaning g foreign b)
  void_is base.Void = refl
  void_is base.Float = refl
  void_is base.Double = refl
  void_is (base.Integer size signed) = refl
  void_is (base.Bare name) = sym (bare_full name)
  void_is (base.Tagged t name) =
      sym (else_full (option_map Defined (find (λ d. has_tag t d.decl && is_named name d) (types_of g))) Undeclared (mapped_full Defined (λ d. refl) (find (λ d. has_tag t d.decl && is_named name d) (types_of g))) refl)

  pub void_when : (b : Base) → meaning g foreign b ≡ Empty → is_void b ≡ true
  void_when b e = void_is b ∙ ap is_empty e

  pub no_void : (b : Base) (m : Meaning) → meaning g foreign b ≡ m → (m ≡ Empty → ⊥) → is_void b ≡ false
  no_void b m e other = void_is b ∙ ap is_empty e ∙ full m other
    where
      full : (x : Meaning) → (x ≡ Empty → ⊥) → is_empty x ≡ false
      full Empty o = absurd (o refl)
      full (Real size) o = refl
      full (Integer size signed) o = refl
      full (Defined t) o = refl
      full (Foreign s) o = refl
      full Opaque o = refl
      full Undeclared o = refl

  pub no_value_undeclared : (w : Written) → meaning g foreign w.base ≡ Undeclared → is_no_value g foreign w ≡ true
  no_value_undeclared w e = ap (λ m. is_undeclared m || (is_void w.base && not (nat_lt 0 w.stars))) e

  pub no_value_void : (w : Written) → meaning g foreign w.base ≡ Empty → is_no_value g foreign w ≡ not (nat_lt 0 w.stars)
  no_value_void w e = ap (λ m. is_undeclared m || (is_void w.base && not (nat_lt 0 w.stars))) e ∙ ap (λ b. b && not (nat_lt 0 w.stars)) (void_when w.base e)

  pub some_value : (w : Written) (m : Meaning) → meaning g foreign w.base ≡ m → is_undeclared m ≡ false → (m ≡ Empty → ⊥) → is_no_value g foreign w ≡ false
  some_value w m e declared other =
      ap (λ x. is_undeclared x || (is_void w.base && not (nat_lt 0 w.stars))) e ∙ ap (λ b. b || (is_void w.base && not (nat_lt 0 w.stars))) declared ∙ ap (λ b. b && not (nat_lt 0 w.stars)) (no_void w.base m e other)

  fixed_declared : (m : Meaning) (s : Shape) → fixed_shape m ≡ Some s → is_undeclared m ≡ false
  fixed_declared Empty s e = absurd (none-some s e)
  fixed_declared (Real size) s e = refl
  fixed_declared (Integer size signed) s e = refl
  fixed_declared (Defined t) s e = absurd (none-some s e)
  fixed_declared (Foreign t) s e = refl
  fixed_declared Opaque s e = absurd (none-some s e)
  fixed_declared Undeclared s e = absurd (none-some s e)

  pub some_value_fixed : (w : Written) (s : Shape) → fixed_shape (meaning g foreign w.base) ≡ Some s → is_no_value g foreign w ≡ false
  some_value_fixed w s e = some_value w (meaning g foreign w.base) refl (fixed_declared (meaning g foreign w.base) s e) (λ d. none-some s (ap fixed_shape (sym d) ∙ e))

  -- ---- what a type means

  never_opaque : (n : ℕ) → shape_within g foreign n Opaque ≡ None
  never_opaque zero = refl
  never_opaque (suc n) = refl

  pub fixed_meant : (b : Base) (e : Extent) → fixed_shape (meaning g foreign b) ≡ Some (shape_at e) → IsMeant g foreign b (meant.Known e)
  fixed_meant b e is = (0, fixed_found g foreign (meaning g foreign b) (shape_at e) is)

  pub opaque_meant : (b : Base) → meaning g foreign b ≡ Opaque → IsMeant g foreign b meant.Unsized
  opaque_meant b e =
      (λ s (n, d). none-some s (sym (never_opaque n) ∙ ap (shape_within g foreign n) (sym e) ∙ d), ap is_undeclared e, no_void b Opaque e (λ d. opaque_full (ap is_empty d)))
    where
      opaque_full : false ≡ true → ⊥
      opaque_full e = cc

  exact : (s : Shape) (e : Extent) → capped s ≡ shape_at e → s.size ≤ max_size → s ≡ shape_at e
  exact s e same low = ap (λ n. record { size = n; align = s.align }) (sym (below s.size low)) ∙ same
    where
      below : (n : ℕ) → n ≤ max_size → min n cap ≡ n
      below n h = omega arith

  unsized : (b : Base) (t : TypeIn) → meaning g foreign b ≡ Defined t → ((s : Shape) → HasShape g foreign (Defined t) s → ⊥) → IsMeant g foreign b meant.Unsized
  unsized b t e never =
      (λ s (n, d). never s (n, ap (shape_within g foreign n) (sym e) ∙ d), ap is_undeclared e, no_void b (Defined t) e (λ d. defined_full (ap is_empty d)))
    where
      defined_full : false ≡ true → ⊥
      defined_full e = cc

  pub declared_meant : (sizes : List TypeSize) (b : Base) (t : TypeIn) (n : ℕ) (z : TypeSize) → AreSizes g foreign sizes → AreSettled g foreign sizes → All (IsCleanType g foreign) (types_of g)
      → meaning g foreign b ≡ Defined t → slice_get (types_of g) n ≡ Some t → slice_get sizes n ≡ Some z → IsMeant g foreign b (meant_by z)
  declared_meant sizes b t n z sound settled clean e at got = by z (sound.each n t z at got) got
    where
      fits : (s : Shape) → HasShape g foreign (Defined t) s → s.size ≤ max_size
      fits =
          let low = slice_get_within (types_of g) n t at in
          (subst (λ (u : TypeIn). IsCleanType g foreign u) (get_or_from_slice_get (types_of g) n t t at) (clean n t low)).size

      by : (y : TypeSize) → IsTypeSize g foreign t y → slice_get sizes n ≡ Some y → IsMeant g foreign b (meant_by y)
      by size.Waiting h y-at = unsized b t e (λ s (k, d). none-some s (sym (never_found g foreign sizes settled k n t at y-at) ∙ d))
      by size.Unsized h y-at = unsized b t e h.1
      by (size.Known x) h y-at =
          (h.1.1.0, ap (shape_within g foreign h.1.1.0) e ∙ h.1.1.1 ∙ ap Some (exact h.1.0 x h.1.2 (fits h.1.0 h.1.1)))
