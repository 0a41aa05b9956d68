-- The fields of functions that a run takes have shapes that are known.
use Rattle.std.proofs.Common.{◌≡◌, ℕ, zero, suc, ◌<◌, Bool, true, false, true≢false, not, ◌&&◌, ◌||◌, nat_lt, cond, if◌then◌else◌, List, [], ◌∷◌, find, flat_map, Option, Some, None, option_map, refl, sym, ap, ◌∙◌, subst, arith}
use Rattle.std.specs.Prelude.{All, Contains}
use Rattle.std.specs.Str.{bytes_eq}
use Rattle.std.proofs.lemmas.Option.{none-some, same_Some}
use Rattle.std.proofs.lemmas.List.Elements.{All-head, All-tail, All-contains, All-from_recursion}
use Rattle.edl_grammar.specs.declared.Gathered.{Gathered}
use Rattle.edl_grammar.specs.declared.Declared.{Declared}
use Rattle.edl_grammar.specs.declared.Written.{Written}
use Rattle.edl_grammar.specs.declared.Base.{Base}
use Rattle.edl_grammar.specs.declared.Base.TheVariants as base
use Rattle.edl_grammar.specs.declared.Tag.{Tag}
use Rattle.edl_grammar.specs.declared.TypeDecl.{TypeDecl}
use Rattle.edl_grammar.specs.declared.TypeDecl.TheVariants as decl
use Rattle.edl_grammar.specs.Files.{TypeIn, types_of}
use Rattle.edl_layout.specs.declared.ForeignTypes.{ForeignTypes}
use Rattle.edl_layout.specs.declared.ForeignType.{ForeignType}
use Rattle.edl_layout.specs.declared.NamedShape.{NamedShape}
use Rattle.edl_layout.specs.Shape.{Shape, square, address, structure_shape, union_shape}
use Rattle.edl_layout.specs.Meaning.{Meaning, Integer, Defined, Foreign, Opaque, Undeclared, Standard, standard_types, is_named, has_tag, or_else, bare_meaning, foreign_meaning, meaning, decl_shape, shape_within, pointed, HasShape}
use Rattle.edl_layout.specs.Table.{IsTable, shape_in}
use Rattle.edl_layout.specs.Faults.{IsCleanType, IsCleanParam, is_undeclared, is_unknown, is_no_value}
use Rattle.edl_layout.specs.Frame.{has, is_void, is_by_address, is_returning, is_measured, field_shape, param_fields, result_fields}
use Rattle.edl_layout.proofs.Growing.{mapped}
use Rattle.attr_terms.specs.Accepted.{own_size, is_tagged, is_first, base_shape_by, base_shape, shape_of}
use Rattle.attr_rules.specs.ForRun.{HasSize, AreForRun}
use Rattle.accepted_interface.proofs.SoundLaws.{found-passes, both-true}
use Rattle.attr_rules.proofs.SizedTypes.{found-in, value-parts, sized}
use Rattle.attr_rules.proofs.NamesApart.{AreNamedApart}
use Rattle.attr_rules.proofs.FieldEnds.{IsFine, AreFine, fine-append, align-positive}

find-weaker : {X : Type 0} (q p : X → Bool) (xs : List X) (x : X) → find (λ y. q y && p y) xs ≡ Some x → (y : X) × (find p xs ≡ Some y)
find-weaker q p [] x e = absurd (none-some x e)
find-weaker {X} q p (y ∷ ys) x e = by (q y) (p y) e (find-weaker q p ys x)
  where
    by : (c b : Bool) → cond (c && b) (Some y) (find (λ z. q z && p z) ys) ≡ Some x → (find (λ z. q z && p z) ys ≡ Some x → (z : X) × (find p ys ≡ Some z)) → (z : X) × (cond b (Some y) (find p ys) ≡ Some z)
    by c true e rest = (y, refl)
    by true false e rest = rest e
    by false false e rest = rest e

-- what a bare name means, by the declared type, the standard one, and what else it is
abbrev bare_by : Option TypeIn → Option Standard → Meaning → Meaning
bare_by d s other = or_else (option_map Defined d) (or_else (option_map (λ x. Integer x.size x.signed) s) other)

abbrev other_by : Option ForeignType → Bool → Meaning
other_by f lenient = or_else (option_map (λ t. Foreign (record { size = t.size; align = t.align })) f) (if lenient then Opaque else Undeclared)

abbrev tagged_by : Option TypeIn → Meaning
tagged_by d = or_else (option_map Defined d) Undeclared

standard-sized : All (λ (x : Standard). 0 < x.size) standard_types
standard-sized = All-from_recursion (λ (x : Standard). 0 < x.size) standard_types (omega arith, (omega arith, (omega arith, (omega arith, (omega arith, (omega arith, (omega arith, (omega arith, (omega arith, (omega arith, tt))))))))))

module _ (g : Gathered) (foreign : ForeignTypes) where
  decl-aligned : (f : Base → Option Shape) (d : TypeDecl) (s : Shape) → decl_shape g foreign f d ≡ Some s → 0 < s.align
  decl-aligned f (decl.Enumeration token name values) s e = subst (λ (z : Shape). 0 < z.align) (same_Some (square 4) s e) (omega arith)
  decl-aligned f (decl.Structure token name members) s e =
      let p = mapped structure_shape _ s e in
      subst (λ (z : Shape). 0 < z.align) p.2 (align-positive 1 p.0 (omega arith))
  decl-aligned f (decl.Union token name members) s e =
      let p = mapped union_shape _ s e in
      subst (λ (z : Shape). 0 < z.align) p.2 (align-positive 1 p.0 (omega arith))

  type-aligned : (n : ℕ) (t : TypeIn) (s : Shape) → shape_within g foreign n (Defined t) ≡ Some s → 0 < s.align
  type-aligned zero t s e = absurd (none-some s e)
  type-aligned (suc n) t s e = decl-aligned (λ b. shape_within g foreign n (meaning g foreign b)) t.decl s e

  module _ (table : List NamedShape) (made : IsTable g foreign table) (types : All (IsCleanType g foreign) (types_of g)) (run : AreForRun g foreign) (apart : AreNamedApart (types_of g)) where
    declared-fine : (c : TypeIn) (name : List ℕ) → Contains (types_of g) c → bare_meaning g foreign name ≡ Defined c → IsFine (shape_in table name)
    declared-fine c name there is =
        let z = sized g foreign run.strict types c there in
        (z.0, (made.shapes name z.0).1 (subst (λ m. HasShape g foreign m z.0) (sym is) z.1), type-aligned z.1.0 c z.0 z.1.1)

    -- ---- bare names

    bare-cases : (name : List ℕ) (d : Option TypeIn) (s : Option Standard) (f : Option ForeignType) → find (is_named name) (types_of g) ≡ d → find (λ x. bytes_eq x.name name) standard_types ≡ s
        → find (λ t. bytes_eq t.name name) foreign.types ≡ f → is_undeclared (bare_meaning g foreign name) ≡ false → IsFine (base_shape_by g table (own_size (bare_by d s Opaque)) (base.Bare name))
    bare-cases name (Some c) s f dd ss ff known =
        let is : bare_meaning g foreign name ≡ Defined c = ap (λ o. bare_by o (find (λ x. bytes_eq x.name name) standard_types) (foreign_meaning g foreign name)) dd in
        declared-fine c name (found-in (is_named name) (types_of g) c dd) is
    bare-cases name None (Some x) f dd ss ff known =
        (square x.size, refl, All-contains (λ (x : Standard). 0 < x.size) standard_types x standard-sized (found-in (λ x. bytes_eq x.name name) standard_types x ss))
    bare-cases name None None (Some t) dd ss ff known =
        let shape : Shape = record { size = t.size; align = t.align } in
        let is : bare_meaning g foreign name ≡ Foreign shape = λ i. bare_by (dd i) (ss i) (other_by (ff i) foreign.lenient) in
        (shape, (made.shapes name shape).1 (subst (λ m. HasShape g foreign m shape) (sym is) (0, refl)), All-contains (λ (t : ForeignType). 0 < t.align) foreign.types t run.aligned (found-in (λ t. bytes_eq t.name name) foreign.types t ff))
    bare-cases name None None None dd ss ff known =
        let is : bare_meaning g foreign name ≡ Undeclared = λ i. bare_by (dd i) (ss i) (other_by (ff i) (run.strict i)) in
        absurd (true≢false (sym (ap is_undeclared is) ∙ known))

    bare-fine : (name : List ℕ) → is_undeclared (bare_meaning g foreign name) ≡ false → IsFine (base_shape g table (base.Bare name))
    bare-fine name known =
        bare-cases name (find (is_named name) (types_of g)) (find (λ x. bytes_eq x.name name) standard_types) (find (λ t. bytes_eq t.name name) foreign.types) refl refl refl known

    -- ---- tagged names

    tagged-cases : (tag : Tag) (name : List ℕ) (d : Option TypeIn) → find (λ t. has_tag tag t.decl && is_named name t) (types_of g) ≡ d
        → is_undeclared (tagged_by d) ≡ false → IsFine (base_shape_by g table (own_size (tagged_by d)) (base.Tagged tag name))
    tagged-cases tag name None found known = absurd (true≢false known)
    tagged-cases tag name (Some c) found known =
        let passes = both-true (has_tag tag c.decl) (is_named name c) (found-passes (λ t. has_tag tag t.decl && is_named name t) (types_of g) c found) in
        let there : Contains (types_of g) c = found-in (λ t. has_tag tag t.decl && is_named name t) (types_of g) c found in
        let other = find-weaker (λ t. has_tag tag t.decl) (is_named name) (types_of g) c found in
        let same : other.0 ≡ c = apart name other.0 c (found-in (is_named name) (types_of g) other.0 other.1) there (found-passes (is_named name) (types_of g) other.0 other.1) passes.1 in
        let first : find (is_named name) (types_of g) ≡ Some c = other.1 ∙ ap Some same in
        let tagged : is_first g tag name ≡ true = ap (λ o. is_tagged tag (bare_by o (find (λ x. bytes_eq x.name name) standard_types) Opaque)) first ∙ passes.0 in
        let is : bare_meaning g foreign name ≡ Defined c = ap (λ o. bare_by o (find (λ x. bytes_eq x.name name) standard_types) (foreign_meaning g foreign name)) first in
        subst (λ b. IsFine (if b then shape_in table name else None)) (sym tagged) (declared-fine c name there is)

    -- ---- types

    base-fine : (b : Base) → is_void b ≡ false → is_undeclared (meaning g foreign b) ≡ false → HasSize b → IsFine (base_shape g table b)
    base-fine base.Void void known size = absurd (true≢false void)
    base-fine base.Float void known size = (square 4, refl, omega arith)
    base-fine base.Double void known size = (square 8, refl, omega arith)
    base-fine (base.Integer n signed) void known size = (square n, refl, size)
    base-fine (base.Bare name) void known size = bare-fine name known
    base-fine (base.Tagged tag name) void known size = tagged-cases tag name (find (λ t. has_tag tag t.decl && is_named name t) (types_of g)) refl known

    written-fine : (w : Written) → is_no_value g foreign w ≡ false → HasSize w.base → IsFine (shape_of g table w)
    written-fine w value size = by w.stars refl
      where
        by : (n : ℕ) → w.stars ≡ n → IsFine (pointed n (base_shape g table w.base))
        by zero none =
            let parts = value-parts g foreign run.strict (is_undeclared (meaning g foreign w.base)) (is_void w.base) w.stars none value in
            base-fine w.base parts.1 parts.0 size
        by (suc n) some = (address, refl, omega arith)

    pub param-fine : (p : Declared) → IsCleanParam g foreign p → HasSize p.written.base → IsFine (field_shape (shape_of g table) p)
    param-fine p clean size = by (is_by_address p || has "isary" p)
      where
        by : (b : Bool) → IsFine (if b then Some address else shape_of g table p.written)
        by true = (address, refl, omega arith)
        by false = written-fine p.written clean.known size

    more-fine : (b : Bool) → AreFine (if b then Some address ∷ [] else [])
    more-fine true = ((address, refl, omega arith), tt)
    more-fine false = tt

    pub fields-fine : (t : Bool) (p : Declared) → IsCleanParam g foreign p → HasSize p.written.base → AreFine (param_fields (shape_of g table) t p)
    fields-fine t p clean size = (param-fine p clean size, more-fine (is_measured t p))

    pub params-fine : (t : Bool) (ps : List Declared) → All (IsCleanParam g foreign) ps → All (λ p. HasSize p.written.base) ps → AreFine (flat_map (param_fields (shape_of g table) t) ps)
    params-fine t [] clean sizes = tt
    params-fine t (p ∷ ps) clean sizes =
        fine-append (param_fields (shape_of g table) t p) (flat_map (param_fields (shape_of g table) t) ps)
        (fields-fine t p (All-head (IsCleanParam g foreign) p ps clean) (All-head (λ (q : Declared). HasSize q.written.base) p ps sizes))
        (params-fine t ps (All-tail (IsCleanParam g foreign) p ps clean) (All-tail (λ (q : Declared). HasSize q.written.base) p ps sizes))

    value-by : (unknown void stars : Bool) → unknown ≡ false → (not void || stars) ≡ true → (unknown || (void && not stars)) ≡ false
    value-by true void stars known e = known
    value-by false true true known e = refl
    value-by false true false known e = sym e
    value-by false false stars known e = refl

    pub result-fine : (w : Written) → is_unknown g foreign w ≡ false → HasSize w.base → AreFine (result_fields (shape_of g table) w)
    result-fine w known size = by (is_returning w) refl
      where
        by : (b : Bool) → is_returning w ≡ b → AreFine (if b then shape_of g table w ∷ [] else [])
        by true e = (written-fine w (value-by (is_unknown g foreign w) (is_void w.base) (nat_lt 0 w.stars) known e) size, tt)
        by false e = tt
