-- A shape that the table tells is the shape of the type.
use Rattle.std.proofs.Common.{◌≡◌, ℕ, zero, suc, Bool, true, false, ◌&&◌, cond, if◌then◌else◌, List, [], ◌∷◌, Option, Some, None, option_map, refl, sym, ap, ◌∙◌, subst, true≢false, find}
use Rattle.std.proofs.lemmas.Option.{none-some, same_Some}
use Rattle.std.specs.Str.{bytes_eq}
use Rattle.edl_grammar.specs.declared.Gathered.{Gathered}
use Rattle.edl_grammar.specs.declared.Base.{Base}
use Rattle.edl_grammar.specs.declared.Base.TheVariants as base
use Rattle.edl_grammar.specs.declared.Tag.{Tag}
use Rattle.edl_grammar.specs.declared.Written.{Written}
use Rattle.edl_grammar.specs.Files.{TypeIn, types_of}
use Rattle.edl_layout.specs.declared.ForeignTypes.{ForeignTypes}
use Rattle.edl_layout.specs.declared.NamedShape.{NamedShape}
use Rattle.edl_layout.specs.Shape.{Shape, square}
use Rattle.edl_layout.specs.Meaning.{Meaning, Defined, Integer, Opaque, Undeclared, Standard, standard_types, is_named, has_tag, or_else, bare_meaning, foreign_meaning, meaning, shape_within, pointed, HasShape}
use Rattle.edl_layout.specs.Table.{IsTable, shape_in}
use Rattle.edl_layout.specs.Faults.{HasPlainShape}
use Rattle.attr_terms.specs.Attributes.{meant}
use Rattle.attr_terms.specs.Accepted.{own_size, is_tagged, is_first, base_shape_by, base_shape, shape_of}

-- ---- the first that passes one test, where it passes another

find_both : {X : Type 0} (p q : X → Bool) (xs : List X) (x : X) → find p xs ≡ Some x → q x ≡ true → find (λ y. q y && p y) xs ≡ Some x
find_both p q [] x found passes = absurd (none-some x found)
find_both {X} p q (y ∷ ys) x found passes = by (p y) (q y) refl refl found (λ rest. find_both p q ys x rest passes)
  where
    by : (b c : Bool) → p y ≡ b → q y ≡ c → cond b (Some y) (find p ys) ≡ Some x → (find p ys ≡ Some x → find (λ z. q z && p z) ys ≡ Some x)
        → cond (c && b) (Some y) (find (λ z. q z && p z) ys) ≡ Some x
    by true true h k e rest = e
    by true false h k e rest = absurd (true≢false (sym (ap q (same_Some y x e) ∙ passes) ∙ k))
    by false true h k e rest = rest e
    by false false h k e rest = rest e

module _ (g : Gathered) (foreign : ForeignTypes) where
  -- a name that has a size of its own is a standard one, whatever is foreign
  own_by : (d : Option TypeIn) (s : Option Standard) (other : Meaning) (n : ℕ)
      → own_size (or_else (option_map Defined d) (or_else (option_map (λ s. Integer s.size s.signed) s) Opaque)) ≡ Some n
      → HasShape g foreign (or_else (option_map Defined d) (or_else (option_map (λ s. Integer s.size s.signed) s) other)) (square n)
  own_by (Some t) s other n e = absurd (none-some n e)
  own_by None (Some s) other n e = (0, ap (λ m. Some (square m)) (same_Some s.size n e))
  own_by None None other n e = absurd (none-some n e)

  own-bare : (name : List ℕ) (n : ℕ) → own_size (meant g (base.Bare name)) ≡ Some n → HasShape g foreign (bare_meaning g foreign name) (square n)
  own-bare name n e = own_by (find (is_named name) (types_of g)) (find (λ s. bytes_eq s.name name) standard_types) (foreign_meaning g foreign name) n e

  -- a tagged type that is the first of its name is what the bare name means
  tagged_by : (t : Tag) (name : List ℕ) (d : Option TypeIn) (s : Option Standard) (other : Meaning) → find (is_named name) (types_of g) ≡ d
      → is_tagged t (or_else (option_map Defined d) (or_else (option_map (λ s. Integer s.size s.signed) s) Opaque)) ≡ true
      → meaning g foreign (base.Tagged t name) ≡ or_else (option_map Defined d) other
  tagged_by t name (Some x) s other found e = ap (λ r. or_else (option_map Defined r) Undeclared) (find_both (is_named name) (λ d. has_tag t d.decl) (types_of g) x found e)
  tagged_by t name None (Some s) other found e = absurd (true≢false (sym e))
  tagged_by t name None None other found e = absurd (true≢false (sym e))

  tagged-first : (t : Tag) (name : List ℕ) → is_first g t name ≡ true → meaning g foreign (base.Tagged t name) ≡ bare_meaning g foreign name
  tagged-first t name e =
      tagged_by t name (find (is_named name) (types_of g)) (find (λ s. bytes_eq s.name name) standard_types) (or_else (option_map (λ s. Integer s.size s.signed) (find (λ s. bytes_eq s.name name) standard_types)) (foreign_meaning g foreign name)) refl e

  no_own : (d : Option TypeIn) → own_size (or_else (option_map Defined d) Undeclared) ≡ None
  no_own None = refl
  no_own (Some x) = refl

  module _ (table : List NamedShape) (made : IsTable g foreign table) where
    bare_by : (name : List ℕ) (s : Shape) (own : Option ℕ) → own_size (meant g (base.Bare name)) ≡ own → base_shape_by g table own (base.Bare name) ≡ Some s → HasShape g foreign (bare_meaning g foreign name) s
    bare_by name s (Some n) own e = subst (HasShape g foreign (bare_meaning g foreign name)) (same_Some (square n) s e) (own-bare name n own)
    bare_by name s None own e = (made.shapes name s).0 e

    named_by : (t : Tag) (name : List ℕ) (s : Shape) (b : Bool) → is_first g t name ≡ b → (if b then shape_in table name else None) ≡ Some s → HasShape g foreign (meaning g foreign (base.Tagged t name)) s
    named_by t name s true first e = subst (λ m. HasShape g foreign m s) (sym (tagged-first t name first)) ((made.shapes name s).0 e)
    named_by t name s false first e = absurd (none-some s e)

    pub base-known : (b : Base) (s : Shape) → base_shape g table b ≡ Some s → HasShape g foreign (meaning g foreign b) s
    base-known base.Void s e = absurd (none-some s e)
    base-known base.Float s e = (0, e)
    base-known base.Double s e = (0, e)
    base-known (base.Integer size signed) s e = (0, e)
    base-known (base.Bare name) s e = bare_by name s (own_size (meant g (base.Bare name))) refl e
    base-known (base.Tagged t name) s e =
        named_by t name s (is_first g t name) refl (sym (ap (λ o. base_shape_by g table o (base.Tagged t name)) (no_own (find (λ d. has_tag t d.decl && is_named name d) (types_of g)))) ∙ e)

    plain_by : (stars : ℕ) (b : Base) (s : Shape) → pointed stars (base_shape g table b) ≡ Some s → (n : ℕ) × (pointed stars (shape_within g foreign n (meaning g foreign b)) ≡ Some s)
    plain_by zero b s e = base-known b s e
    plain_by (suc k) b s e = (0, e)

    pub shape-known : (w : Written) (s : Shape) → shape_of g table w ≡ Some s → HasPlainShape g foreign w s
    shape-known w s e = plain_by w.stars w.base s e
