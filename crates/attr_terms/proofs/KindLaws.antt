-- What a table of kinds tells of the meanings.
use Rattle.std.proofs.Common.{ℕ, suc, ◌≡◌, Bool, true, false, cond, ◌&&◌, ◌||◌, if◌then◌else◌, List, [], ◌∷◌, ◌++◌, map, Option, Some, None, is_some, refl, sym, ◌∙◌, ap}
use Rattle.std.specs.Prelude.{fold, find, option_map}
use Rattle.std.specs.Option.{option_or}
use Rattle.std.specs.Str.{bytes_eq}
use Rattle.edl_grammar.specs.declared.Gathered.{Gathered}
use Rattle.edl_grammar.specs.declared.SourceFile.{SourceFile}
use Rattle.edl_grammar.specs.declared.TypeDecl.{TypeDecl}
use Rattle.edl_grammar.specs.declared.TypeDecl.TheVariants as decl
use Rattle.edl_grammar.specs.declared.Base.TheVariants as base
use Rattle.edl_grammar.specs.declared.Tag.{Tag}
use Rattle.edl_grammar.specs.declared.Tag.TheVariants as tag
use Rattle.edl_grammar.specs.Files.{TypeIn, types_of, types_from}
use Rattle.edl_layout.specs.Meaning as layout
use Rattle.attr_terms.specs.declared.meanings.Meant.TheVariants as meant
use Rattle.attr_terms.specs.declared.meanings.Kinds.{Kinds}
use Rattle.attr_terms.specs.Attributes as attributes
use Rattle.attr_terms.specs.Kinds.{tag_of, kind_of, with_tag, with_type, with_decl, kinds_of, has_kind, bare_kind, tagged_kind, standard_kind}

-- ---- the file of a type does not matter

named_anywhere : (name : List ℕ) (n m : ℕ) (d : TypeDecl) → layout.is_named name (record { file = n; decl = d }) ≡ layout.is_named name (record { file = m; decl = d })
named_anywhere name n m (decl.Enumeration token None values) = refl
named_anywhere name n m (decl.Enumeration token (Some x) values) = refl
named_anywhere name n m (decl.Structure token x members) = refl
named_anywhere name n m (decl.Union token x members) = refl

types_fold : (name : List ℕ) (n : ℕ) (k : Option Kinds) (ds : List TypeDecl) (rest : List TypeIn)
    → fold (with_type name) k (map (λ t. record { file = n; decl = t }) ds ++ rest) ≡ fold (with_type name) (fold (with_decl name) k ds) rest
types_fold name n k [] rest = refl
types_fold name n k (d ∷ ds) rest =
    types_fold name n (with_type name k (record { file = n; decl = d })) ds rest
    ∙ ap (λ (b : Bool). fold (with_type name) (fold (with_decl name) (if b then Some (with_tag k (tag_of d)) else k) ds) rest) (named_anywhere name n 0 d)

-- the kinds of all types, file by file
pub kinds_from : (name : List ℕ) (n : ℕ) (k : Option Kinds) (fs : List SourceFile)
    → fold (with_type name) k (types_from n fs) ≡ fold (λ (k : Option Kinds) (f : SourceFile). fold (with_decl name) k f.tree.types) k fs
kinds_from name n k [] = refl
kinds_from name n k (f ∷ fs) = types_fold name n k f.tree.types (types_from (suc n) fs) ∙ kinds_from name (suc n) (fold (with_decl name) k f.tree.types) fs

-- ---- the first type of a name

abbrev first_of : Option Kinds → Option Tag
first_of k = option_map (λ x. x.first) k

abbrev tag_in : Option TypeIn → Option Tag
tag_in t = option_map (λ x. tag_of x.decl) t

or_none : (o : Option Tag) → option_or o None ≡ o
or_none None = refl
or_none (Some x) = refl

first_from : (name : List ℕ) (k : Option Kinds) (ts : List TypeIn) → first_of (fold (with_type name) k ts) ≡ option_or (first_of k) (tag_in (find (layout.is_named name) ts))
first_from name k [] = sym (or_none (first_of k))
first_from name k (t ∷ ts) = first_from name (with_type name k t) ts ∙ step (layout.is_named name t) k
  where
    step : (b : Bool) (k : Option Kinds) → option_or (first_of (if b then Some (with_tag k (tag_of t.decl)) else k)) (tag_in (find (layout.is_named name) ts)) ≡ option_or (first_of k) (tag_in (cond b (Some t) (find (layout.is_named name) ts)))
    step true None = refl
    step true (Some x) = refl
    step false k = refl

by_first : (k : Option Kinds) (d : Option TypeIn) (s : Option layout.Standard) → first_of k ≡ tag_in d
    → kind_of (layout.or_else (option_map layout.Defined d) (layout.or_else (option_map (λ x. layout.Integer x.size x.signed) s) layout.Opaque)) ≡ bare_kind k (option_map (λ x. meant.Integer x.size x.signed) s)
by_first None None None e = refl
by_first None None (Some x) e = refl
by_first None (Some t) s e = absurd cc
by_first (Some x) None s e = absurd cc
by_first (Some x) (Some t) s e = let h : x.first ≡ tag_of t.decl = cc in ap meant.Declared (sym h)

-- what a bare name means
pub bare_law : (g : Gathered) (name : List ℕ) → kind_of (attributes.meant g (base.Bare name)) ≡ bare_kind (kinds_of name (types_of g)) (standard_kind name)
bare_law g name = by_first (kinds_of name (types_of g)) (find (layout.is_named name) (types_of g)) (find (λ s. bytes_eq s.name name) layout.standard_types) (first_from name None (types_of g))

-- ---- the types of a name and a word

same_kind : (t : Tag) (d : TypeDecl) (k : Option Kinds) → has_kind t (Some (with_tag k (tag_of d))) ≡ (has_kind t k || layout.has_tag t d)
same_kind tag.Enum (decl.Enumeration token name values) None = refl
same_kind tag.Enum (decl.Enumeration token name values) (Some x) = refl
same_kind tag.Enum (decl.Structure token name members) None = refl
same_kind tag.Enum (decl.Structure token name members) (Some x) = refl
same_kind tag.Enum (decl.Union token name members) None = refl
same_kind tag.Enum (decl.Union token name members) (Some x) = refl
same_kind tag.Struct (decl.Enumeration token name values) None = refl
same_kind tag.Struct (decl.Enumeration token name values) (Some x) = refl
same_kind tag.Struct (decl.Structure token name members) None = refl
same_kind tag.Struct (decl.Structure token name members) (Some x) = refl
same_kind tag.Struct (decl.Union token name members) None = refl
same_kind tag.Struct (decl.Union token name members) (Some x) = refl
same_kind tag.Union (decl.Enumeration token name values) None = refl
same_kind tag.Union (decl.Enumeration token name values) (Some x) = refl
same_kind tag.Union (decl.Structure token name members) None = refl
same_kind tag.Union (decl.Structure token name members) (Some x) = refl
same_kind tag.Union (decl.Union token name members) None = refl
same_kind tag.Union (decl.Union token name members) (Some x) = refl

same_tag : (t : Tag) (d : TypeDecl) → layout.has_tag t d ≡ true → tag_of d ≡ t
same_tag tag.Enum (decl.Enumeration token name values) e = refl
same_tag tag.Enum (decl.Structure token name members) e = absurd cc
same_tag tag.Enum (decl.Union token name members) e = absurd cc
same_tag tag.Struct (decl.Enumeration token name values) e = absurd cc
same_tag tag.Struct (decl.Structure token name members) e = refl
same_tag tag.Struct (decl.Union token name members) e = absurd cc
same_tag tag.Union (decl.Enumeration token name values) e = absurd cc
same_tag tag.Union (decl.Structure token name members) e = absurd cc
same_tag tag.Union (decl.Union token name members) e = refl

abbrev passes : Tag → List ℕ → TypeIn → Bool
passes t name d = layout.has_tag t d.decl && layout.is_named name d

or_some : (a h : Bool) (t : TypeIn) (f : Option TypeIn) → ((a || h) || is_some f) ≡ (a || is_some (cond (h && true) (Some t) f))
or_some true h t f = refl
or_some false true t f = refl
or_some false false t f = refl

and_false : (h : Bool) → (h && false) ≡ false
and_false true = refl
and_false false = refl

or_false : (h : Bool) → (h || false) ≡ h
or_false true = refl
or_false false = refl

has_from : (t : Tag) (name : List ℕ) (k : Option Kinds) (ts : List TypeIn) → has_kind t (fold (with_type name) k ts) ≡ (has_kind t k || is_some (find (passes t name) ts))
has_from t name k [] = sym (or_false (has_kind t k))
has_from t name k (d ∷ ts) = has_from t name (with_type name k d) ts ∙ step (layout.is_named name d)
  where
    step : (b : Bool) → (has_kind t (if b then Some (with_tag k (tag_of d.decl)) else k) || is_some (find (passes t name) ts)) ≡ (has_kind t k || is_some (cond (layout.has_tag t d.decl && b) (Some d) (find (passes t name) ts)))
    step true = ap (λ (z : Bool). z || is_some (find (passes t name) ts)) (same_kind t d.decl k) ∙ or_some (has_kind t k) (layout.has_tag t d.decl) d (find (passes t name) ts)
    step false = ap (λ (z : Bool). has_kind t k || is_some (cond z (Some d) (find (passes t name) ts))) (sym (and_false (layout.has_tag t d.decl)))

and_left : (a b : Bool) → (a && b) ≡ true → a ≡ true
and_left true b e = refl
and_left false b e = absurd cc

found_tag : (t : Tag) (name : List ℕ) (ts : List TypeIn) (d : TypeIn) → find (passes t name) ts ≡ Some d → tag_of d.decl ≡ t
found_tag t name [] d e = absurd cc
found_tag t name (x ∷ ts) d e = by (passes t name x) refl (found_tag t name ts d) e
  where
    by : (b : Bool) → passes t name x ≡ b → (find (passes t name) ts ≡ Some d → tag_of d.decl ≡ t) → cond b (Some x) (find (passes t name) ts) ≡ Some d → tag_of d.decl ≡ t
    by true p rest f = let h : x ≡ d = cc in ap (λ (z : TypeIn). tag_of z.decl) (sym h) ∙ same_tag t x.decl (and_left (layout.has_tag t x.decl) (layout.is_named name x) p)
    by false p rest f = rest f

-- what a word and a name mean
pub tagged_law : (g : Gathered) (t : Tag) (name : List ℕ) → kind_of (attributes.meant g (base.Tagged t name)) ≡ tagged_kind t (kinds_of name (types_of g))
tagged_law g t name = by (find (passes t name) (types_of g)) refl ∙ ap (λ (b : Bool). if b then meant.Declared t else meant.Undeclared) (sym (has_from t name None (types_of g)))
  where
    by : (f : Option TypeIn) → find (passes t name) (types_of g) ≡ f → kind_of (layout.or_else (option_map layout.Defined f) layout.Undeclared) ≡ (if is_some f then meant.Declared t else meant.Undeclared)
    by None e = refl
    by (Some d) e = ap meant.Declared (found_tag t name (types_of g) d e)
