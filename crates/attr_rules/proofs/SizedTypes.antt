-- Where no foreign type is of unknown size, each type of an interface that has layouts has a shape: a type without one leads to
-- another such type for ever, and so back to itself.
use Rattle.std.proofs.Common.{◌≡◌, ℕ, zero, suc, ◌+◌, ◌<◌, ◌≤◌, Bool, true, false, true≢false, not, ◌&&◌, ◌||◌, nat_lt, cond, if◌then◌else◌, List, [], ◌∷◌, map, filter, find, length, get_or, Option, Some, None, option_map, refl, sym, ap, ◌∙◌, subst, arith}
use Rattle.std.specs.Prelude.{filter_map, All, Contains}
use Rattle.std.specs.List.{cons_option, list_any, IsDistinct, AllByRecursion}
use Rattle.std.specs.Str.{bytes_eq}
use Rattle.std.proofs.lemmas.Option.{none-some, same_Some}
use Rattle.std.proofs.lemmas.List.{get_or_default}
use Rattle.std.proofs.lemmas.Map.Keys.{IsDistinct-cons, IsDistinct-from_apart}
use Rattle.std.proofs.lemmas.Map.Steps.{length-le_from_distinct_below}
use borrow.Author.Tests.{eqb-true}
use lib.Dec.{eqb}
use Rattle.edl_grammar.specs.declared.Gathered.{Gathered}
use Rattle.edl_grammar.specs.declared.TypeDecl.{TypeDecl}
use Rattle.edl_grammar.specs.declared.TypeDecl.TheVariants as decl
use Rattle.edl_grammar.specs.declared.Declared.{Declared}
use Rattle.edl_grammar.specs.declared.Base.{Base}
use Rattle.edl_grammar.specs.declared.Base.TheVariants as base
use Rattle.edl_grammar.specs.Files.{TypeIn, types_of}
use Rattle.edl_layout.specs.declared.ForeignTypes.{ForeignTypes}
use Rattle.edl_layout.specs.declared.ForeignType.{ForeignType}
use Rattle.edl_layout.specs.Shape.{Shape, all_known, array_shape, structure_shape, union_shape}
use Rattle.edl_layout.specs.Meaning.{Meaning, Integer, Defined, Foreign, Opaque, Undeclared, Standard, standard_types, is_named, has_tag, or_else, pointed, members_of, held_by, meaning, member_shape, decl_shape, shape_within, HasShape, held, Holds}
use Rattle.edl_layout.specs.Frame.{is_void}
use Rattle.edl_layout.specs.Faults.{IsCleanType, is_undeclared, is_no_value}
use Rattle.accepted_interface.proofs.Unbroken.{nil-map}

-- ---- lists

head-in : {X : Type 0} (x : X) (xs : List X) → Contains (x ∷ xs) x
head-in x xs = (0, omega arith, refl)

tail-in : {X : Type 0} (x y : X) (xs : List X) → Contains xs y → Contains (x ∷ xs) y
tail-in x y xs (k, lt, is) = (suc k, omega arith, is)

pub found-in : {X : Type 0} (p : X → Bool) (xs : List X) (x : X) → find p xs ≡ Some x → Contains xs x
found-in p [] x e = absurd (none-some x e)
found-in {X} p (y ∷ ys) x e = by (p y) e (found-in p ys x)
  where
    by : (b : Bool) → cond b (Some y) (find p ys) ≡ Some x → (find p ys ≡ Some x → Contains ys x) → Contains (y ∷ ys) x
    by true e rest = subst (Contains (y ∷ ys)) (same_Some y x e) (head-in y ys)
    by false e rest = tail-in y x ys (rest e)

pointed-unknown : (n : ℕ) (o : Option Shape) → pointed n o ≡ None → (n ≡ 0) × (o ≡ None)
pointed-unknown zero o e = (refl, e)
pointed-unknown (suc n) o e = cc

unmapped : {X Y : Type 0} (f : X → Y) (o : Option X) → option_map f o ≡ None → o ≡ None
unmapped f None e = refl
unmapped f (Some x) e = cc

module _ (g : Gathered) (foreign : ForeignTypes) (strict : foreign.lenient ≡ false) where
  abbrev IsUnsized : ℕ → TypeIn → Type 0
  IsUnsized n t = shape_within g foreign n (Defined t) ≡ None

  -- ---- what has no shape is a declared type

  abbrev Leads : ℕ → Meaning → Type 0
  Leads n m = (c : TypeIn) × (m ≡ Defined c) × Contains (types_of g) c × IsUnsized n c

  bare-leads : (n : ℕ) (d : Option TypeIn) (s : Option Standard) (f : Option ForeignType) (lenient : Bool) → lenient ≡ false → ((c : TypeIn) → d ≡ Some c → Contains (types_of g) c)
      → (m : Meaning) → m ≡ or_else (option_map Defined d) (or_else (option_map (λ s. Integer s.size s.signed) s) (or_else (option_map (λ t. Foreign (record { size = t.size; align = t.align })) f) (if lenient then Opaque else Undeclared)))
      → is_undeclared m ≡ false → shape_within g foreign n m ≡ None → Leads n m
  bare-leads n (Some c) s f lenient off there m is known e = (c, is, there c refl, sym (ap (shape_within g foreign n) is) ∙ e)
  bare-leads n None (Some s) f lenient off there m is known e = let h = sym (ap (shape_within g foreign n) is) ∙ e in cc
  bare-leads n None None (Some f) lenient off there m is known e = let h = sym (ap (shape_within g foreign n) is) ∙ e in cc
  bare-leads n None None None true not_so there m is known e = absurd (true≢false not_so)
  bare-leads n None None None false off there m is known e = absurd (true≢false (sym (ap is_undeclared is) ∙ known))

  tagged-leads : (n : ℕ) (d : Option TypeIn) → ((c : TypeIn) → d ≡ Some c → Contains (types_of g) c) → (m : Meaning) → m ≡ or_else (option_map Defined d) Undeclared
      → is_undeclared m ≡ false → shape_within g foreign n m ≡ None → Leads n m
  tagged-leads n (Some c) there m is known e = (c, is, there c refl, sym (ap (shape_within g foreign n) is) ∙ e)
  tagged-leads n None there m is known e = absurd (true≢false (sym (ap is_undeclared is) ∙ known))

  base-leads : (n : ℕ) (b : Base) → is_void b ≡ false → is_undeclared (meaning g foreign b) ≡ false → shape_within g foreign n (meaning g foreign b) ≡ None → Leads n (meaning g foreign b)
  base-leads n base.Void void known e = absurd (true≢false void)
  base-leads n base.Float void known e = cc
  base-leads n base.Double void known e = cc
  base-leads n (base.Integer size signed) void known e = cc
  base-leads n (base.Bare name) void known e =
      bare-leads n (find (is_named name) (types_of g)) (find (λ s. bytes_eq s.name name) standard_types) (find (λ t. bytes_eq t.name name) foreign.types) foreign.lenient strict
      (found-in (is_named name) (types_of g)) (meaning g foreign (base.Bare name)) refl known e
  base-leads n (base.Tagged t name) void known e =
      tagged-leads n (find (λ d. has_tag t d.decl && is_named name d) (types_of g)) (found-in (λ d. has_tag t d.decl && is_named name d) (types_of g)) (meaning g foreign (base.Tagged t name)) refl known e

  -- ---- a type without a shape holds another

  abbrev held_at : Declared → Option TypeIn
  held_at m = held_by (meaning g foreign m.written.base) m.written.stars

  abbrev shape_at : ℕ → Declared → Option Shape
  shape_at n m = member_shape g foreign (λ b. shape_within g foreign n (meaning g foreign b)) m

  abbrev Next : ℕ → List TypeIn → Type 0
  Next n among = (c : TypeIn) × Contains among c × Contains (types_of g) c × IsUnsized n c

  pub value-parts : (unknown void : Bool) (stars : ℕ) → stars ≡ 0 → (unknown || (void && not (nat_lt 0 stars))) ≡ false → (unknown ≡ false) × (void ≡ false)
  value-parts true void stars none e = absurd (true≢false e)
  value-parts false true stars none e = absurd (true≢false (sym (ap (λ n. not (nat_lt 0 n)) none) ∙ e))
  value-parts false false stars none e = (refl, refl)

  member-leads : (n : ℕ) (m : Declared) → is_no_value g foreign m.written ≡ false → shape_at n m ≡ None → (c : TypeIn) × (held_at m ≡ Some c) × Contains (types_of g) c × IsUnsized n c
  member-leads n m value e =
      let p = pointed-unknown m.written.stars (shape_within g foreign n (meaning g foreign m.written.base)) (unmapped (array_shape m.dims) _ e) in
      let parts = value-parts (is_undeclared (meaning g foreign m.written.base)) (is_void m.written.base) m.written.stars p.0 value in
      let leads = base-leads n m.written.base parts.1 parts.0 p.1 in
      (leads.0, ap (λ k. held_by (meaning g foreign m.written.base) k) p.0 ∙ ap (λ i. held_by i 0) leads.1, leads.2, leads.3)

  there : (o : Option TypeIn) (rest : List TypeIn) (n : ℕ) → Next n rest → Next n (cons_option o rest)
  there None rest n next = next
  there (Some y) rest n next = (next.0, tail-in y next.0 rest next.1, next.2, next.3)

  value-first : (m : Declared) (ms : List Declared) → filter (λ d. is_no_value g foreign d.written) (m ∷ ms) ≡ [] → (is_no_value g foreign m.written ≡ false) × (filter (λ d. is_no_value g foreign d.written) ms ≡ [])
  value-first m ms e = by (is_no_value g foreign m.written) refl e
    where
      by : (b : Bool) → is_no_value g foreign m.written ≡ b → cond b (m ∷ filter (λ d. is_no_value g foreign d.written) ms) (filter (λ d. is_no_value g foreign d.written) ms) ≡ []
          → (is_no_value g foreign m.written ≡ false) × (filter (λ d. is_no_value g foreign d.written) ms ≡ [])
      by true h e = cc
      by false h e = (h, e)

  members-next : (n : ℕ) (ms : List Declared) → filter (λ d. is_no_value g foreign d.written) ms ≡ [] → all_known (map (shape_at n) ms) ≡ None → Next n (filter_map held_at ms)
  members-next n [] values e = cc
  members-next n (m ∷ ms) values e = by (shape_at n m) refl e (members-next n ms (value-first m ms values).1)
    where
      by : (o : Option Shape) → shape_at n m ≡ o → all_known (o ∷ map (shape_at n) ms) ≡ None → (all_known (map (shape_at n) ms) ≡ None → Next n (filter_map held_at ms)) → Next n (cons_option (held_at m) (filter_map held_at ms))
      by (Some s) is e rest = there (held_at m) (filter_map held_at ms) n (rest (unmapped (◌∷◌ s) _ e))
      by None is e rest =
          let leads = member-leads n m (value-first m ms values).0 is in
          (leads.0, subst (λ o. Contains (cons_option o (filter_map held_at ms)) leads.0) (sym leads.1) (head-in leads.0 (filter_map held_at ms)), leads.2, leads.3)

  type-next : (n : ℕ) (d : TypeDecl) → filter (λ m. is_no_value g foreign m.written) (members_of d) ≡ [] → decl_shape g foreign (λ b. shape_within g foreign n (meaning g foreign b)) d ≡ None → Next n (filter_map held_at (members_of d))
  type-next n (decl.Enumeration token name values) clean e = cc
  type-next n (decl.Structure token name members) clean e = members-next n members clean (unmapped structure_shape _ e)
  type-next n (decl.Union token name members) clean e = members-next n members clean (unmapped union_shape _ e)

  -- ---- a walk that is longer than the list of types comes back

  one-more : (n : ℕ) (a b c : TypeIn) → Holds g foreign n a b → Contains (held g foreign b) c → Holds g foreign (suc n) a c
  one-more zero a b c same next = (c, subst (λ t. Contains (held g foreign t) c) (sym same) next, refl)
  one-more (suc n) a b c (d, step, rest) next = (d, step, one-more n d b c rest next)

  module _ (clean : All (IsCleanType g foreign) (types_of g)) (d : TypeIn) where
    abbrev at : ℕ → TypeIn
    at k = get_or (types_of g) k d

    apart-by : (k q : ℕ) (b : Bool) → eqb k q ≡ b → ((k ≡ q) → ⊥) → b ≡ false
    apart-by k q true e h = absurd (h (eqb-true k q e))
    apart-by k q false e h = refl

    none-same : (k : ℕ) (ps : List ℕ) → list_any (eqb k) ps ≡ false → AllByRecursion (λ q. eqb k q ≡ false) ps
    none-same k [] e = tt
    none-same k (q ∷ qs) e = by (eqb k q) refl e (none-same k qs)
      where
        by : (b : Bool) → eqb k q ≡ b → (b || list_any (eqb k) qs) ≡ false → (list_any (eqb k) qs ≡ false → AllByRecursion (λ q. eqb k q ≡ false) qs) → AllByRecursion (λ q. eqb k q ≡ false) (q ∷ qs)
        by true h e rest = absurd (true≢false e)
        by false h e rest = (h, rest e)

    abbrev Reaches : List ℕ → TypeIn → Type 0
    Reaches ps t = (q : ℕ) → list_any (eqb q) ps ≡ true → (q < length (types_of g)) × ((j : ℕ) × Holds g foreign (suc j) (at q) t)

    longer : (k : ℕ) (ps : List ℕ) (t c : TypeIn) → k < length (types_of g) → at k ≡ t → Contains (held g foreign t) c → Reaches ps t → Reaches (k ∷ ps) c
    longer k ps t c lt is next reach q e = by (eqb q k) refl e
      where
        by : (b : Bool) → eqb q k ≡ b → (b || list_any (eqb q) ps) ≡ true → (q < length (types_of g)) × ((j : ℕ) × Holds g foreign (suc j) (at q) c)
        by true h e =
            let same : q ≡ k = eqb-true q k h in
            let here : at q ≡ t = ap at same ∙ is in
            (subst (λ i. i < length (types_of g)) (sym same) lt, (0, (c, subst (λ v. Contains (held g foreign v) c) (sym here) next, refl)))
        by false h e = let r = reach q e in (r.0, (suc r.1.0, one-more (suc r.1.0) (at q) t c r.1.1 next))

    place : (c : TypeIn) (p : Contains (types_of g) c) → at p.0 ≡ c
    place c p = get_or_default (types_of g) p.0 d c p.1 ∙ p.2

    walk : (n k : ℕ) (t : TypeIn) (ps : List ℕ) → k < length (types_of g) → at k ≡ t → IsUnsized n t → IsDistinct eqb ps → Reaches ps t → length (types_of g) < length ps + n → ⊥
    walk zero k t ps lt is unsized distinct reach more =
        let few : length ps ≤ length (types_of g) = length-le_from_distinct_below ps (length (types_of g)) distinct (λ q e. (reach q e).0) in
        absurd (omega arith)
    walk (suc n) k t ps lt is unsized distinct reach more = by (list_any (eqb k) ps) refl (λ c. walk n c)
      where
        clean-here : IsCleanType g foreign t
        clean-here = subst (IsCleanType g foreign) is (clean k d lt)

        by : (b : Bool) → list_any (eqb k) ps ≡ b
            → ((c : ℕ) (t : TypeIn) (qs : List ℕ) → c < length (types_of g) → at c ≡ t → IsUnsized n t → IsDistinct eqb qs → Reaches qs t → length (types_of g) < length qs + n → ⊥) → ⊥
        by true h rest = let r = reach k h in clean-here.apart (r.1.0, subst (λ v. Holds g foreign (suc r.1.0) v t) is r.1.1)
        by false h rest =
            let next = type-next n t.decl (nil-map (λ (m : Declared). m.written.token) _ clean-here.known) unsized in
            rest next.2.0 next.0 (k ∷ ps) next.2.1 (place next.0 next.2) next.3 (IsDistinct-cons eqb k ps (none-same k ps h) distinct) (longer k ps t next.0 lt is next.1 reach) (omega arith)

  -- each type has a shape
  pub sized : All (IsCleanType g foreign) (types_of g) → (t : TypeIn) → Contains (types_of g) t → (s : Shape) × HasShape g foreign (Defined t) s
  sized clean t (k, lt, is) = by (shape_within g foreign (length (types_of g) + 1) (Defined t)) refl
    where
      by : (o : Option Shape) → shape_within g foreign (length (types_of g) + 1) (Defined t) ≡ o → (s : Shape) × HasShape g foreign (Defined t) s
      by (Some s) h = (s, (length (types_of g) + 1, h))
      by None h =
          absurd (walk clean t (length (types_of g) + 1) k t [] lt is h (IsDistinct-from_apart eqb [] (λ i j d below within. absurd (omega arith))) (λ q e. absurd (true≢false (sym e))) (omega arith))
