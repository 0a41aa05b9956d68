-- A shape that is found stays where types may be nested deeper, and is the only one.
use Rattle.std.proofs.Common.{◌≡◌, ◌+◌, ℕ, zero, suc, List, [], ◌∷◌, map, refl, sym, ◌∙◌, ap, Option, Some, None, option_map, zero-add, suc-add, add_comm}
use Rattle.std.proofs.lemmas.Option.{none-some, same_Some}
use Rattle.edl_grammar.specs.declared.Gathered.{Gathered}
use Rattle.edl_grammar.specs.declared.TypeDecl.{TypeDecl}
use Rattle.edl_grammar.specs.declared.TypeDecl.TheVariants as decl
use Rattle.edl_grammar.specs.declared.Declared.{Declared}
use Rattle.edl_grammar.specs.declared.Base.{Base}
use Rattle.edl_layout.specs.declared.ForeignTypes.{ForeignTypes}
use Rattle.edl_layout.specs.Shape.{Shape, all_known, array_shape, structure_shape, union_shape}
use Rattle.edl_layout.specs.Meaning.{Meaning, Empty, Real, Integer, Defined, Foreign, Opaque, Undeclared, meaning, pointed, member_shape, decl_shape, shape_within, HasShape}

pub mapped : {A B : Type 0} (f : A → B) (o : Option A) (y : B) → option_map f o ≡ Some y → (x : A) × (o ≡ Some x) × (f x ≡ y)
mapped f None y e = absurd (none-some y e)
mapped f (Some x) y e = (x, refl, same_Some (f x) y e)

-- what one look-up finds, the other finds
abbrev pub Grows : {B : Type 0} → (B → Option Shape) → (B → Option Shape) → Type 0
Grows {B} f h = (b : B) (s : Shape) → f b ≡ Some s → h b ≡ Some s

pub pointed_grows : (stars : ℕ) (a b : Option Shape) → ((s : Shape) → a ≡ Some s → b ≡ Some s) → (s : Shape) → pointed stars a ≡ Some s → pointed stars b ≡ Some s
pointed_grows zero a b grows s e = grows s e
pointed_grows (suc n) a b grows s e = e

module _ (g : Gathered) (foreign : ForeignTypes) where
  pub member_grows : (f h : Base → Option Shape) → Grows f h → Grows (member_shape g foreign f) (member_shape g foreign h)
  member_grows f h grows m s e =
      let p = mapped (array_shape m.dims) (pointed m.written.stars (f m.written.base)) s e in
      ap (option_map (array_shape m.dims)) (pointed_grows m.written.stars (f m.written.base) (h m.written.base) (grows m.written.base) p.0 p.1) ∙ ap Some p.2

  pub known_grows : (f h : Base → Option Shape) → Grows f h → (ms : List Declared) (ss : List Shape) → all_known (map (member_shape g foreign f) ms) ≡ Some ss → all_known (map (member_shape g foreign h) ms) ≡ Some ss
  known_grows f h grows [] ss e = e
  known_grows f h grows (m ∷ ms) ss e = by (member_shape g foreign f m) refl e (known_grows f h grows ms)
    where
      by : (o : Option Shape) → member_shape g foreign f m ≡ o → all_known (o ∷ map (member_shape g foreign f) ms) ≡ Some ss
          → ((ts : List Shape) → all_known (map (member_shape g foreign f) ms) ≡ Some ts → all_known (map (member_shape g foreign h) ms) ≡ Some ts) → all_known (map (member_shape g foreign h) (m ∷ ms)) ≡ Some ss
      by None is d rest = absurd (none-some ss d)
      by (Some s) is d rest =
          let p = mapped (◌∷◌ s) (all_known (map (member_shape g foreign f) ms)) ss d in
          rw (member_grows f h grows m s is) (ap (option_map (◌∷◌ s)) (rest p.0 p.1) ∙ ap Some p.2)

  pub decl_grows : (f h : Base → Option Shape) → Grows f h → (d : TypeDecl) (s : Shape) → decl_shape g foreign f d ≡ Some s → decl_shape g foreign h d ≡ Some s
  decl_grows f h grows (decl.Enumeration token name values) s e = e
  decl_grows f h grows (decl.Structure token name members) s e =
      let p = mapped structure_shape (all_known (map (member_shape g foreign f) members)) s e in
      ap (option_map structure_shape) (known_grows f h grows members p.0 p.1) ∙ ap Some p.2
  decl_grows f h grows (decl.Union token name members) s e =
      let p = mapped union_shape (all_known (map (member_shape g foreign f) members)) s e in
      ap (option_map union_shape) (known_grows f h grows members p.0 p.1) ∙ ap Some p.2

  -- the shape of a type without stars
  abbrev pub base_shape : ℕ → Base → Option Shape
  base_shape n b = shape_within g foreign n (meaning g foreign b)

  pub grows : (n : ℕ) (m : Meaning) (s : Shape) → shape_within g foreign n m ≡ Some s → shape_within g foreign (suc n) m ≡ Some s
  grows zero Empty s e = e
  grows zero (Real size) s e = e
  grows zero (Integer size signed) s e = e
  grows zero (Defined t) s e = absurd (none-some s e)
  grows zero (Foreign shape) s e = e
  grows zero Opaque s e = e
  grows zero Undeclared s e = e
  grows (suc n) Empty s e = e
  grows (suc n) (Real size) s e = e
  grows (suc n) (Integer size signed) s e = e
  grows (suc n) (Defined t) s e = decl_grows (base_shape n) (base_shape (suc n)) (λ b. grows n (meaning g foreign b)) t.decl s e
  grows (suc n) (Foreign shape) s e = e
  grows (suc n) Opaque s e = e
  grows (suc n) Undeclared s e = e

  pub grows_by : (k n : ℕ) (m : Meaning) (s : Shape) → shape_within g foreign n m ≡ Some s → shape_within g foreign (k + n) m ≡ Some s
  grows_by zero n m s e = rw (zero-add n) e
  grows_by (suc k) n m s e = rw (suc-add k n) (grows (k + n) m s (grows_by k n m s e))

  pub one_shape : (m : Meaning) (s t : Shape) → HasShape g foreign m s → HasShape g foreign m t → s ≡ t
  one_shape m s t (n, a) (k, b) =
      same_Some s t (sym (grows_by k n m s a) ∙ ap (λ j. shape_within g foreign j m) (add_comm k n) ∙ grows_by n k m t b)
