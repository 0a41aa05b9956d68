-- Where no name conflicts, types of one name stand in one file.
use Rattle.std.proofs.Common.{ℕ, zero, suc, ◌≡◌, ◌⊎◌, inl, inr, ◌<◌, Bool, true, false, ◌&&◌, nat_lt, List, [], ◌∷◌, map, Option, Some, None, refl, sym, ap, ◌∙◌, subst, arith}
use Rattle.std.specs.Prelude.{Contains, filter_map, option_map, if◌then◌else◌}
use Rattle.std.specs.List.{cons_option}
use Rattle.std.specs.Str.{bytes_eq}
use Rattle.std.proofs.lemmas.List.Elements.{Contains-append_cases, Contains-append_left, Contains-append_right}
use Rattle.std.proofs.lemmas.List.Folds.{list_any-from_Any}
use Rattle.std.proofs.lemmas.Bool.{lt-ltb}
use Rattle.std.proofs.lemmas.Slice.Eq.{bytes_eq-Decides}
use Rattle.edl_grammar.specs.declared.Gathered.{Gathered}
use Rattle.edl_grammar.specs.declared.SourceFile.{SourceFile}
use Rattle.edl_grammar.specs.declared.TypeDecl.{TypeDecl}
use Rattle.edl_grammar.specs.Files.{TypeIn, types_of, types_from as declared_from, name_of, token_of}
use Rattle.edl_imports.specs.declared.conflicts.Known.{Known}
use Rattle.edl_imports.specs.Conflicts.{Place, type_known, types_from, types_known, functions_known, is_second, earlier, first_second, first_conflict}
use Rattle.edl_imports.specs.Apart.{TypesAreApart}

-- ---- none is second

module _ (all : List Known) where
  -- the best of one more, which is none only where both are
  one_none : (b : Bool) (best : Option Place) (k : Known) → (if b then Some (earlier best k.at) else best) ≡ None → (b ≡ false) × (best ≡ None)
  one_none true best k h = absurd cc
  one_none false best k h = (refl, h)

  none_second : (ks : List Known) (best : Option Place) → first_second all best ks ≡ None → (best ≡ None) × ((k : Known) → Contains ks k → is_second all k ≡ false)
  none_second [] best h = (h, λ k (i, lt, is). absurd (omega arith))
  none_second (x ∷ ks) best h = by (none_second ks (if is_second all x then Some (earlier best x.at) else best) h)
    where
      at : (is_second all x ≡ false) × (best ≡ None) → ((k : Known) → Contains ks k → is_second all k ≡ false) → (k : Known) → Contains (x ∷ ks) k → is_second all k ≡ false
      at one rest k (zero, lt, is) = ap (is_second all) (sym is) ∙ one.0
      at one rest k (suc i, lt, is) = rest k (i, omega arith, is)

      by : ((if is_second all x then Some (earlier best x.at) else best) ≡ None) × ((k : Known) → Contains ks k → is_second all k ≡ false)
          → (best ≡ None) × ((k : Known) → Contains (x ∷ ks) k → is_second all k ≡ false)
      by (none, rest) = let one = one_none (is_second all x) best x none in (one.1, at one rest)

  is_any : (k h : Known) → h.at.file < k.at.file → h.name ≡ k.name → Contains all h → is_second all k ≡ true
  is_any k h lt same (i, l, is) =
      let less : nat_lt h.at.file k.at.file ≡ true = lt-ltb h.at.file k.at.file lt in
      let names : bytes_eq h.name k.name ≡ true = (bytes_eq-Decides h.name k.name).1 same in
      list_any-from_Any (λ (h : Known). nat_lt h.at.file k.at.file && bytes_eq h.name k.name) all (i, h, l, is, ap (λ (b : Bool). b && bytes_eq h.name k.name) less ∙ names)

-- ---- types

behind : (o : Option Known) (ks : List Known) (k : Known) → Contains ks k → Contains (cons_option o ks) k
behind None ks k h = h
behind (Some x) ks k (i, lt, is) = (suc i, omega arith, is)

named_there : (at : Place) (name : List ℕ) (o : Option (List ℕ)) (ks : List Known) → o ≡ Some name
    → Contains (cons_option (option_map (λ (name : List ℕ). record { at = at; name = name }) o) ks) (record { at = at; name = name })
named_there at name None ks h = absurd cc
named_there at name (Some m) ks h = let same : m ≡ name = cc in (0, omega arith, ap (λ (z : List ℕ). record { at = at; name = z }) same)

type_there : (n : ℕ) (name : List ℕ) (ts : List TypeDecl) (a : TypeIn) → Contains (map (λ t. record { file = n; decl = t }) ts) a → name_of a.decl ≡ Some name
    → Contains (filter_map (type_known n) ts) (record { at = record { file = a.file; token = token_of a.decl }; name = name })
type_there n name [] a (i, lt, is) named = absurd (omega arith)
type_there n name (t ∷ ts) a (zero, lt, is) named =
    subst (λ (z : TypeIn). name_of z.decl ≡ Some name → Contains (filter_map (type_known n) (t ∷ ts)) (record { at = record { file = z.file; token = token_of z.decl }; name = name })) is
    (λ h. named_there (record { file = n; token = token_of t }) name (name_of t) (filter_map (type_known n) ts) h) named
type_there n name (t ∷ ts) a (suc i, lt, is) named =
    behind (type_known n t) (filter_map (type_known n) ts) (record { at = record { file = a.file; token = token_of a.decl }; name = name }) (type_there n name ts a (i, omega arith, is) named)

types_there : (n : ℕ) (name : List ℕ) (fs : List SourceFile) (a : TypeIn) → Contains (declared_from n fs) a → name_of a.decl ≡ Some name
    → Contains (types_from n fs) (record { at = record { file = a.file; token = token_of a.decl }; name = name })
types_there n name [] a (i, lt, is) named = absurd (omega arith)
types_there n name (f ∷ fs) a there named = by (Contains-append_cases (map (λ t. record { file = n; decl = t }) f.tree.types) (declared_from (suc n) fs) a there) (types_there (suc n) name fs a)
  where
    by : Contains (map (λ t. record { file = n; decl = t }) f.tree.types) a ⊎ Contains (declared_from (suc n) fs) a
        → (Contains (declared_from (suc n) fs) a → name_of a.decl ≡ Some name → Contains (types_from (suc n) fs) (record { at = record { file = a.file; token = token_of a.decl }; name = name }))
        → Contains (types_from n (f ∷ fs)) (record { at = record { file = a.file; token = token_of a.decl }; name = name })
    by (inl h) rest = Contains-append_left (filter_map (type_known n) f.tree.types) (types_from (suc n) fs) _ (type_there n name f.tree.types a h named)
    by (inr h) rest = Contains-append_right (filter_map (type_known n) f.tree.types) (types_from (suc n) fs) _ (rest h named)

not_before : (g : Gathered) → first_conflict g ≡ None → (name : List ℕ) (a b : TypeIn) → Contains (types_of g) a → Contains (types_of g) b
    → name_of a.decl ≡ Some name → name_of b.decl ≡ Some name → a.file < b.file → ⊥
not_before g none name a b p q x y lt =
    let none_of_types = (none_second (functions_known g) (functions_known g) (first_second (types_known g) None (types_known g)) none).0 in
    let one : Known = record { at = record { file = a.file; token = token_of a.decl }; name = name } in
    let other : Known = record { at = record { file = b.file; token = token_of b.decl }; name = name } in
    let no : is_second (types_known g) other ≡ false = (none_second (types_known g) (types_known g) None none_of_types).1 other (types_there 0 name g.files b q y) in
    let yes : is_second (types_known g) other ≡ true = is_any (types_known g) other one lt refl (types_there 0 name g.files a p x) in
    let f : false ≡ true = sym no ∙ yes in cc

pub types_apart : (g : Gathered) → first_conflict g ≡ None → TypesAreApart g
types_apart g none = record {
  in_one_file = λ name a b p q x y.
      let one = not_before g none name a b p q x y in
      let other = not_before g none name b a q p y x in
      omega (arith, one, other);
}
