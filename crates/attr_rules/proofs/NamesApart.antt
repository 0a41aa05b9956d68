-- No two types of files in which no rule is broken have one name.
use Rattle.std.proofs.Common.{◌≡◌, ℕ, zero, suc, ◌+◌, ◌≤◌, ◌⊎◌, inl, inr, Bool, true, false, true≢false, ◌&&◌, ◌||◌, nat_lt, List, [], ◌∷◌, map, Option, Some, None, refl, sym, ap, ◌∙◌, subst, arith}
use Rattle.std.specs.Prelude.{All, Contains, filter_map, slice_get}
use Rattle.std.specs.List.{cons_option, list_any}
use Rattle.std.specs.Str.{bytes_eq}
use Rattle.std.proofs.lemmas.Option.{same_Some}
use Rattle.std.proofs.lemmas.Cmp.{nat_list_eq_equiv}
use Rattle.std.proofs.lemmas.Slice.Eq.{bytes_eq-Decides}
use Rattle.std.proofs.lemmas.List.Elements.{All-contains, Contains-append_cases}
use Rattle.edl_grammar.specs.declared.Gathered.{Gathered}
use Rattle.edl_grammar.specs.declared.SourceFile.{SourceFile}
use Rattle.edl_grammar.specs.declared.NameAt.{NameAt}
use Rattle.edl_grammar.specs.declared.TypeDecl.{TypeDecl}
use Rattle.edl_grammar.specs.declared.TypeDecl.TheVariants as decl
use Rattle.edl_grammar.specs.Files.{TypeIn, types_of, types_from, token_of}
use Rattle.edl_layout.specs.Meaning.{is_named}
use Rattle.attr_terms.specs.Rules.{at, is_second, is_second_name, type_name, type_names, names_in, tree_names, type_rows}
use Rattle.attr_rules.specs.ForRun.{IsRead, AreInOneFile}
use Rattle.accepted_interface.proofs.Unbroken.{AreClean, row-clean, not-above}
use Rattle.accepted_interface.proofs.SoundLaws.{get-All}

abbrev pub AreNamedApart : List TypeIn → Type 0
AreNamedApart ts = (name : List ℕ) (a b : TypeIn) → Contains ts a → Contains ts b → is_named name a ≡ true → is_named name b ≡ true → a ≡ b

-- ---- elements

first-in : {X : Type 0} (x y : X) (xs : List X) → x ≡ y → Contains (x ∷ xs) y
first-in x y xs e = (0, omega arith, e)

rest-in : {X : Type 0} (x y : X) (xs : List X) → Contains xs y → Contains (x ∷ xs) y
rest-in x y xs (k, lt, is) = (suc k, omega arith, is)

-- an element is the first or one of the others
parts-in : {X : Type 0} (x y : X) (xs : List X) → Contains (x ∷ xs) y → (x ≡ y) ⊎ Contains xs y
parts-in x y xs (zero, lt, is) = inl is
parts-in x y xs (suc k, lt, is) = inr (k, omega arith, is)

mapped-in : {X Y : Type 0} (h : X → Y) (xs : List X) (y : Y) → Contains (map h xs) y → (x : X) × Contains xs x × (h x ≡ y)
mapped-in h [] y (k, lt, is) = absurd (omega arith)
mapped-in {X} {Y} h (x ∷ xs) y there = by (parts-in (h x) y (map h xs) there) (mapped-in h xs y)
  where
    by : (h x ≡ y) ⊎ Contains (map h xs) y → (Contains (map h xs) y → (z : X) × Contains xs z × (h z ≡ y)) → (z : X) × Contains (x ∷ xs) z × (h z ≡ y)
    by (inl e) rest = (x, first-in x x xs refl, e)
    by (inr i) rest = let r = rest i in (r.0, rest-in x r.0 xs r.1, r.2)

behind-in : {Y : Type 0} (o : Option Y) (ys : List Y) (y : Y) → Contains ys y → Contains (cons_option o ys) y
behind-in None ys y there = there
behind-in (Some x) ys y there = rest-in x y ys there

kept-in : {X Y : Type 0} (h : X → Option Y) (xs : List X) (x : X) (y : Y) → Contains xs x → h x ≡ Some y → Contains (filter_map h xs) y
kept-in h [] x y (k, lt, is) e = absurd (omega arith)
kept-in {X} {Y} h (z ∷ zs) x y there e = by (parts-in z x zs there) (λ i. kept-in h zs x y i e)
  where
    by : (z ≡ x) ⊎ Contains zs x → (Contains zs x → Contains (filter_map h zs) y) → Contains (filter_map h (z ∷ zs)) y
    by (inl same) rest = subst (λ (o : Option Y). Contains (cons_option o (filter_map h zs)) y) (sym (ap h same ∙ e)) (first-in y y (filter_map h zs) refl)
    by (inr i) rest = behind-in (h z) (filter_map h zs) y (rest i)

none-passes-in : {X : Type 0} (p : X → Bool) (xs : List X) (x : X) → list_any p xs ≡ false → Contains xs x → p x ≡ false
none-passes-in p [] x e (k, lt, is) = absurd (omega arith)
none-passes-in {X} p (y ∷ ys) x e there = by (p y) refl e (parts-in y x ys there) (λ n i. none-passes-in p ys x n i)
  where
    by : (b : Bool) → p y ≡ b → (b || list_any p ys) ≡ false → (y ≡ x) ⊎ Contains ys x → (list_any p ys ≡ false → Contains ys x → p x ≡ false) → p x ≡ false
    by true h e i rest = absurd (true≢false e)
    by false h e (inl same) rest = sym (ap p same) ∙ h
    by false h e (inr i) rest = rest e i

-- ---- the file of a type

abbrev InFile : ℕ → List SourceFile → TypeIn → Type 0
InFile n fs t = (i : ℕ) × (f : SourceFile) × (t.file ≡ n + i) × (slice_get fs i ≡ Some f) × Contains f.tree.types t.decl

in-file : (n : ℕ) (fs : List SourceFile) (t : TypeIn) → Contains (types_from n fs) t → InFile n fs t
in-file n [] t (k, lt, is) = absurd (omega arith)
in-file n (f ∷ fs) t there = by (Contains-append_cases (map (λ d. record { file = n; decl = d }) f.tree.types) (types_from (suc n) fs) t there) (in-file (suc n) fs t)
  where
    by : Contains (map (λ d. record { file = n; decl = d }) f.tree.types) t ⊎ Contains (types_from (suc n) fs) t → (Contains (types_from (suc n) fs) t → InFile (suc n) fs t) → InFile n (f ∷ fs) t
    by (inl i) rest =
        let r = mapped-in (λ (d : TypeDecl). let x : TypeIn = record { file = n; decl = d } in x) f.tree.types t i in
        let file : n ≡ t.file = ap (λ (x : TypeIn). x.file) r.2 in
        (0, f, omega arith, refl, subst (Contains f.tree.types) (ap (λ (x : TypeIn). x.decl) r.2) r.1)
    by (inr i) rest =
        let r = rest i in
        let file : t.file ≡ suc n + r.0 = r.2 in
        (suc r.0, r.1, omega arith, r.3, r.4)

-- ---- names

same-name : (n name : List ℕ) (token : ℕ) → bytes_eq n name ≡ true → ◌≡◌ {A = Option NameAt} (Some (at token n)) (Some (at token name))
same-name n name token e = ap (λ m. Some (at token m)) ((bytes_eq-Decides n name).0 e)

name-at : (t : TypeIn) (name : List ℕ) → is_named name t ≡ true → type_name t.decl ≡ Some (at (token_of t.decl) name)
name-at t name e = by t.decl e
  where
    by : (d : TypeDecl) → is_named name (record { file = t.file; decl = d }) ≡ true → type_name d ≡ Some (at (token_of d) name)
    by (decl.Enumeration token (Some n) values) e = same-name n name token e
    by (decl.Enumeration token None values) e = absurd (true≢false (sym e))
    by (decl.Structure token n members) e = same-name n name token e
    by (decl.Union token n members) e = same-name n name token e

both-false : (b c : Bool) → b ≡ true → (b && c) ≡ false → c ≡ false
both-false true c e h = h
both-false false c e h = absurd (true≢false (sym e))

module _ (g : Gathered) where
  -- the file of a type, and its place there
  source-of : (t : TypeIn) → Contains (types_of g) t → (f : SourceFile) × (slice_get g.files t.file ≡ Some f) × Contains f.tree.types t.decl
  source-of t there =
      let r = in-file 0 g.files t there in
      let file : r.0 ≡ t.file = let e : t.file ≡ 0 + r.0 = r.2 in omega arith in
      (r.1, ap (slice_get g.files) (sym file) ∙ r.3, r.4)

  name-in : (t : TypeIn) (name : List ℕ) → Contains (types_of g) t → is_named name t ≡ true → Contains (tree_names type_names g t.file) (at (token_of t.decl) name)
  name-in t name there named =
      let r = source-of t there in
      subst (λ (o : Option SourceFile). Contains (names_in type_names o) (at (token_of t.decl) name)) (sym r.1) (kept-in type_name r.0.tree.types t.decl (at (token_of t.decl) name) r.2 (name-at t name named))

  not-before : (a b : TypeIn) (name : List ℕ) → AreClean (type_rows g a) → Contains (types_of g) b → a.file ≡ b.file → is_named name a ≡ true → is_named name b ≡ true → token_of a.decl ≤ token_of b.decl
  not-before a b name rows there file na nb =
      let names : List NameAt = tree_names type_names g a.file in
      let second : is_second_name names (type_name a.decl) ≡ false = row-clean 31 (token_of a.decl) _ rows.0 in
      let none : is_second names (at (token_of a.decl) name) ≡ false = sym (ap (is_second_name names) (name-at a name na)) ∙ second in
      let member : Contains names (at (token_of b.decl) name) = subst (λ n. Contains (tree_names type_names g n) (at (token_of b.decl) name)) (sym file) (name-in b name there nb) in
      let test : (bytes_eq name name && nat_lt (token_of b.decl) (token_of a.decl)) ≡ false = none-passes-in (λ (y : NameAt). bytes_eq y.name name && nat_lt y.token (token_of a.decl)) names (at (token_of b.decl) name) none member in
      not-above (token_of b.decl) (token_of a.decl) (both-false (bytes_eq name name) (nat_lt (token_of b.decl) (token_of a.decl)) (nat_list_eq_equiv.refl name) test)

  one-place : All (λ f. IsRead f.tree) g.files → (a b : TypeIn) → Contains (types_of g) a → Contains (types_of g) b → a.file ≡ b.file → token_of a.decl ≡ token_of b.decl → a ≡ b
  one-place trees a b in_a in_b file token =
      let fa = source-of a in_a in
      let fb = source-of b in_b in
      let same : fb.0 ≡ fa.0 = same_Some fb.0 fa.0 (sym fb.1 ∙ ap (slice_get g.files) (sym file) ∙ fa.1) in
      let there : Contains fa.0.tree.types b.decl = subst (λ (f : SourceFile). Contains f.tree.types b.decl) same fb.2 in
      let read : IsRead fa.0.tree = get-All (λ (f : SourceFile). IsRead f.tree) g.files a.file fa.0 trees fa.1 in
      let decl : a.decl ≡ b.decl = read.types a.decl b.decl fa.2 there token in
      λ i. record { file = file i; decl = decl i }

  pub names-apart : All (λ f. IsRead f.tree) g.files → AreInOneFile (types_of g) → All (λ t. AreClean (type_rows g t)) (types_of g) → AreNamedApart (types_of g)
  names-apart trees one rows name a b in_a in_b na nb =
      let file : a.file ≡ b.file = one name a b in_a in_b na nb in
      let ab : token_of a.decl ≤ token_of b.decl = not-before a b name (All-contains (λ (t : TypeIn). AreClean (type_rows g t)) (types_of g) a rows in_a) in_b file na nb in
      let ba : token_of b.decl ≤ token_of a.decl = not-before b a name (All-contains (λ (t : TypeIn). AreClean (type_rows g t)) (types_of g) b rows in_b) in_a (sym file) nb na in
      one-place trees a b in_a in_b file (omega arith)
