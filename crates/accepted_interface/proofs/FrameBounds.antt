-- Lengths and frames of an accepted interface are within the limits of layouts.
use Rattle.std.proofs.Common.{◌≡◌, ℕ, ◌+◌, ◌*◌, ◌≤◌, ◌<◌, ◌^◌, Bool, true, false, ◌||◌, if◌then◌else◌, List, [], ◌∷◌, ◌++◌, Option, Some, None, option_map, refl, sym, ap, ◌∙◌, subst, arith, unwrap_or, flat_map}
use Rattle.std.proofs.lemmas.Option.{none-some}
use Rattle.edl_grammar.specs.declared.Gathered.{Gathered}
use Rattle.edl_grammar.specs.declared.Declared.{Declared}
use Rattle.edl_grammar.specs.declared.Written.{Written}
use Rattle.edl_grammar.specs.Files.{FunctionIn}
use Rattle.edl_layout.specs.declared.ForeignTypes.{ForeignTypes}
use Rattle.edl_layout.specs.declared.NamedShape.{NamedShape}
use Rattle.edl_layout.specs.Shape.{Shape, address, elements, all_known, structure_shape}
use Rattle.edl_layout.specs.Meaning.{meaning, shape_within}
use Rattle.edl_layout.specs.Frame.{has, is_by_address, is_returning, is_measured, param_fields, result_fields, frame_fields, frame_shape, plain_shape}
use Rattle.edl_layout.specs.Table.{IsTable}
use Rattle.edl_layout.specs.Faults.{known, HasFrame, IsCleanParam, IsCleanFunction, max_size, max_frame}
use Rattle.edl_layout.proofs.Growing.{mapped, pointed_grows, grows_by}
use Rattle.attr_terms.specs.Accepted.{shape_of, frame_size}
use Rattle.accepted_interface.specs.Fitting.{LengthFits}
use Rattle.accepted_interface.proofs.KnownShapes.{shape-known}

-- ---- fields that become known

abbrev pub Grown : List (Option Shape) → List (Option Shape) → Type 0
Grown [] [] = Unit {0}
Grown (x ∷ xs) (y ∷ ys) = ((s : Shape) → x ≡ Some s → y ≡ Some s) × Grown xs ys
Grown _ _ = ⊥

pub grown-known : (xs ys : List (Option Shape)) → Grown xs ys → (ss : List Shape) → all_known xs ≡ Some ss → all_known ys ≡ Some ss
grown-known [] [] h ss e = e
grown-known [] (y ∷ ys) h ss e = absurd h
grown-known (x ∷ xs) [] h ss e = absurd h
grown-known (None ∷ xs) (y ∷ ys) h ss e = absurd (none-some ss e)
grown-known (Some x ∷ xs) (y ∷ ys) h ss e =
    let p = mapped (◌∷◌ x) (all_known xs) ss e in
    rw (h.0 x refl) (ap (option_map (◌∷◌ x)) (grown-known xs ys h.1 p.0 p.1) ∙ ap Some p.2)

pub grown-append : (xs ys us vs : List (Option Shape)) → Grown xs ys → Grown us vs → Grown (xs ++ us) (ys ++ vs)
grown-append [] [] us vs h k = k
grown-append [] (y ∷ ys) us vs h k = absurd h
grown-append (x ∷ xs) [] us vs h k = absurd h
grown-append (x ∷ xs) (y ∷ ys) us vs h k = (h.0, grown-append xs ys us vs h.1 k)

-- what one tells of a type, the other tells too
abbrev pub IsBelow : (Written → Option Shape) → (Written → Option Shape) → Written → Type 0
IsBelow f h w = (s : Shape) → f w ≡ Some s → h w ≡ Some s

abbrev pub AreBelow : (Written → Option Shape) → (Written → Option Shape) → List Declared → Type 0
AreBelow f h [] = Unit {0}
AreBelow f h (p ∷ ps) = IsBelow f h p.written × AreBelow f h ps

module _ (f h : Written → Option Shape) where
  chosen : (b : Bool) (x y : Option Shape) → ((s : Shape) → x ≡ Some s → y ≡ Some s) → (s : Shape) → (if b then Some address else x) ≡ Some s → (if b then Some address else y) ≡ Some s
  chosen true x y grows s e = e
  chosen false x y grows s e = grows s e

  more : (b : Bool) → Grown (if b then Some address ∷ [] else []) (if b then Some address ∷ [] else [])
  more true = (λ s e. e, tt)
  more false = tt

  param-grown : (t : Bool) (p : Declared) → IsBelow f h p.written → Grown (param_fields f t p) (param_fields h t p)
  param-grown t p below = (chosen (is_by_address p || has "isary" p) (f p.written) (h p.written) below, more (is_measured t p))

  params-grown : (t : Bool) (ps : List Declared) → AreBelow f h ps → Grown (flat_map (param_fields f t) ps) (flat_map (param_fields h t) ps)
  params-grown t [] below = tt
  params-grown t (p ∷ ps) below = grown-append (param_fields f t p) (param_fields h t p) _ _ (param-grown t p below.0) (params-grown t ps below.1)

  result-by : (b : Bool) (x y : Option Shape) → ((s : Shape) → x ≡ Some s → y ≡ Some s) → Grown (if b then x ∷ [] else []) (if b then y ∷ [] else [])
  result-by true x y grows = (grows, tt)
  result-by false x y grows = tt

  pub frame-grown : (d : FunctionIn) → IsBelow f h d.decl.result → AreBelow f h d.decl.params → (s : Shape) → frame_shape f d ≡ Some s → frame_shape h d ≡ Some s
  frame-grown d result params s e =
      let p = mapped structure_shape (all_known (frame_fields f d)) s e in
      let grown : Grown (frame_fields f d) (frame_fields h d) = grown-append (result_fields f d.decl.result) (result_fields h d.decl.result) _ _ (result-by (is_returning d.decl.result) (f d.decl.result) (h d.decl.result) result) (params-grown d.is_trusted d.decl.params params) in
      ap (option_map structure_shape) (grown-known (frame_fields f d) (frame_fields h d) grown p.0 p.1) ∙ ap Some p.2

module _ (g : Gathered) (foreign : ForeignTypes) (table : List NamedShape) (made : IsTable g foreign table) where
  deeper : (k n : ℕ) (w : Written) (s : Shape) → plain_shape g foreign n w ≡ Some s → plain_shape g foreign (k + n) w ≡ Some s
  deeper k n w s e =
      pointed_grows w.stars (shape_within g foreign n (meaning g foreign w.base)) (shape_within g foreign (k + n) (meaning g foreign w.base)) (λ t h. grows_by g foreign k n (meaning g foreign w.base) t h) s e

  -- ---- how deep the types of a function are nested

  depth-by : (w : Written) (o : Option Shape) → shape_of g table w ≡ o → (n : ℕ) × ((k : ℕ) → IsBelow (shape_of g table) (plain_shape g foreign (k + n)) w)
  depth-by w None is = (0, λ k s e. absurd (none-some s (sym is ∙ e)))
  depth-by w (Some t) is =
      let known = shape-known g foreign table made w t is in
      (known.0, λ k s e. deeper k known.0 w s (known.1 ∙ sym is ∙ e))

  depth : (w : Written) → (n : ℕ) × ((k : ℕ) → IsBelow (shape_of g table) (plain_shape g foreign (k + n)) w)
  depth w = depth-by w (shape_of g table w) refl

  first_deep : (k a b : ℕ) → (k + b) + a ≡ k + (a + b)
  first_deep k a b = omega arith

  rest_deep : (k a b : ℕ) → (k + a) + b ≡ k + (a + b)
  rest_deep k a b = omega arith

  depths : (ps : List Declared) → (n : ℕ) × ((k : ℕ) → AreBelow (shape_of g table) (plain_shape g foreign (k + n)) ps)
  depths [] = (0, λ k. tt)
  depths (p ∷ ps) =
      let a = depth p.written in
      let b = depths ps in
      (a.0 + b.0, λ k. (subst (λ n. IsBelow (shape_of g table) (plain_shape g foreign n) p.written) (first_deep k a.0 b.0) (a.1 (k + b.0)), subst (λ n. AreBelow (shape_of g table) (plain_shape g foreign n) ps) (rest_deep k a.0 b.0) (b.1 (k + a.0))))

  pub frame-known : (d : FunctionIn) (s : Shape) → frame_shape (shape_of g table) d ≡ Some s → HasFrame g foreign d s
  frame-known d s e =
      let a = depth d.decl.result in
      let b = depths d.decl.params in
      (b.0 + a.0, frame-grown (shape_of g table) (plain_shape g foreign (b.0 + a.0)) d (a.1 b.0) (subst (λ n. AreBelow (shape_of g table) (plain_shape g foreign n) d.decl.params) (rest_deep 0 a.0 b.0 ∙ turned a.0 b.0) (b.1 (0 + a.0))) s e)
    where
      turned : (a b : ℕ) → 0 + (a + b) ≡ b + a
      turned a b = omega arith

  -- ---- limits

  length-by : (p : Declared) (o : Option Shape) → shape_of g table p.written ≡ o → IsCleanParam g foreign p → LengthFits g table p
  length-by p None is clean array = rw (ap (λ o. unwrap_or (option_map (λ s. s.size) o) 0) is) (nothing (elements p.dims))
    where
      nothing : (n : ℕ) → 0 * n < 2 ^ 32
      nothing n = omega arith
  length-by p (Some s) is clean array =
      let within : s.size * elements p.dims ≤ max_size = clean.length array (s.size * elements p.dims) (known s (shape-known g foreign table made p.written s is)) in
      rw (ap (λ o. unwrap_or (option_map (λ s. s.size) o) 0) is) (omega arith)

  pub length-fits : (p : Declared) → IsCleanParam g foreign p → LengthFits g table p
  length-fits p clean = length-by p (shape_of g table p.written) refl clean

  frame-by : (d : FunctionIn) (o : Option Shape) → frame_shape (shape_of g table) d ≡ o → IsCleanFunction g foreign d → frame_size g table d ≤ max_frame
  frame-by d None is clean = rw (ap (λ o. unwrap_or (option_map (λ s. s.size) o) 0) is) (omega arith)
  frame-by d (Some s) is clean = rw (ap (λ o. unwrap_or (option_map (λ s. s.size) o) 0) is) (clean.frame s (frame-known d s is))

  pub frame-fits : (d : FunctionIn) → IsCleanFunction g foreign d → frame_size g table d ≤ max_frame
  frame-fits d clean = frame-by d (frame_shape (shape_of g table) d) refl clean
