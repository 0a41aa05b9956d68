-- The first item of a name, in a table and in a list.
use Rattle.std.proofs.Common.{◌≡◌, ◌<◌, ◌≤◌, ◌+◌, ◌-◌, ℕ, zero, suc, Bool, true, false, cond, List, [], ◌∷◌, map, find, length, drop, get_or, refl, sym, ◌∙◌, ap, subst, Option, Some, None, option_map, add-zero, zero-add, arith}
use Rattle.std.specs.Prelude.{slice_get, ◌&&◌, if◌then◌else◌}
use Rattle.edl_layout.specs.declared.ForeignType.{ForeignType}
use Rattle.std.specs.Str.{bytes_eq}
use Rattle.std.proofs.lemmas.Option.{none-some, same_Some}
use Rattle.std.proofs.Math.Seq.{drop-cons}
use Rattle.edl_grammar.specs.declared.Gathered.{Gathered}
use Rattle.edl_grammar.specs.declared.Tag.{Tag}
use Rattle.edl_grammar.specs.Files.{TypeIn, types_of}
use Rattle.edl_layout.specs.declared.ForeignTypes.{ForeignTypes}
use Rattle.edl_layout.specs.declared.tables.Target.TheVariants.{Declared}
use Rattle.edl_layout.specs.Shape.{square}
use Rattle.edl_layout.specs.Meaning.{Meaning, Defined, Integer, Foreign, Undeclared, Opaque, is_named, has_tag, or_else, bare_meaning, foreign_meaning, standard_types}
use Rattle.edl_layout.specs.Named.{first_from, is_under}
use Rattle.edl_layout.specs.Targets.{IsTarget, IsNumber, standard_size, fixed_shape}
use Rattle.edl_layout.proofs.Growing.{mapped}

pub first_step : {X : Type 0} (p : X → Bool) (xs : List X) (j : ℕ) (d : X) → j < length xs → first_from p j (drop j xs) ≡ cond (p (get_or xs j d)) (Some j) (first_from p (suc j) (drop (suc j) xs))
first_step p xs j d low = ap (first_from p j) (drop-cons xs j d low)

pub first_past : {X : Type 0} (p : X → Bool) (n : ℕ) (xs : List X) → first_from p n (drop (length xs) xs) ≡ None
first_past p n [] = refl
first_past p n (x ∷ xs) = first_past p n xs

-- one item more, from behind
pub table_step : {X : Type 0} (p : X → Bool) (xs : List X) (i : ℕ) (d : X) (v w : Option ℕ) → 0 < i → i ≤ length xs → v ≡ first_from p i (drop i xs) → w ≡ cond (p (get_or xs (i - 1) d)) (Some (i - 1)) v
    → w ≡ first_from p (i - 1) (drop (i - 1) xs)
table_step p xs i d v w some low e is =
    let below : i - 1 < length xs = omega arith in
    let next : suc (i - 1) ≡ i = omega arith in
    is ∙ ap (cond (p (get_or xs (i - 1) d)) (Some (i - 1))) (e ∙ ap (λ n. first_from p n (drop n xs)) (sym next)) ∙ sym (first_step p xs (i - 1) d below)

pub first_map : {X Y : Type 0} (p : Y → Bool) (f : X → Y) (n : ℕ) (xs : List X) → first_from p n (map f xs) ≡ first_from (λ x. p (f x)) n xs
first_map p f n [] = refl
first_map p f n (x ∷ xs) = ap (cond (p (f x)) (Some n)) (first_map p f (suc n) xs)

-- the item that is found, its place, and that none before it passes
pub record IsFirst {X : Type 0} (p : X → Bool) (xs : List X) (j : ℕ) : Type 0 where
  pub item : X
  pub place : slice_get xs j ≡ Some item
  pub found : find p xs ≡ Some item
  pub least : (k : ℕ) (y : X) → slice_get xs k ≡ Some y → p y ≡ true → j ≤ k

pub first_at : {X : Type 0} (p : X → Bool) (n : ℕ) (xs : List X) (i : ℕ) → first_from p n xs ≡ Some i → (j : ℕ) × (i ≡ n + j) × IsFirst p xs j
first_at p n [] i e = absurd (none-some i e)
first_at {X} p n (x ∷ xs) i e = by (p x) refl e (first_at p (suc n) xs i)
  where
    by : (b : Bool) → p x ≡ b → cond b (Some n) (first_from p (suc n) xs) ≡ Some i → (first_from p (suc n) xs ≡ Some i → (j : ℕ) × (i ≡ suc n + j) × IsFirst p xs j)
        → (j : ℕ) × (i ≡ n + j) × IsFirst p (x ∷ xs) j
    by true is d rest = (
      zero,
      sym (same_Some n i d) ∙ sym (add-zero n),
      record {
        item = x;
        place = refl;
        found = rw is refl;
        least = λ k y _ _. omega arith;
      },
    )
    by false is d rest =
        let r = rest d in (
          suc r.0,
          r.1 ∙ omega arith,
          record {
            item = r.2.item;
            place = r.2.place;
            found = rw is r.2.found;
            least = least r.0 r.2;
          },
        )
      where
        least : (j : ℕ) → IsFirst p xs j → (k : ℕ) (y : X) → slice_get (x ∷ xs) k ≡ Some y → p y ≡ true → suc j ≤ k
        least j r zero y at yes' = absurd (cc (sym is ∙ ap p (same_Some x y at) ∙ yes'))
        least j r (suc k) y at yes' = let low = r.least k y at yes' in omega arith

pub first_number : {X : Type 0} (p : X → Bool) (xs : List X) (i : ℕ) → first_from p 0 xs ≡ Some i → IsFirst p xs i
first_number p xs i e = let r = first_at p 0 xs i e in subst (λ (j : ℕ). IsFirst p xs j) (sym (r.1 ∙ zero-add r.0)) r.2

pub first_none : {X : Type 0} (p : X → Bool) (n : ℕ) (xs : List X) → first_from p n xs ≡ None → find p xs ≡ None
first_none p n [] e = refl
first_none {X} p n (x ∷ xs) e = by (p x) e (first_none p (suc n) xs)
  where
    by : (b : Bool) → cond b (Some n) (first_from p (suc n) xs) ≡ None → (first_from p (suc n) xs ≡ None → find p xs ≡ None) → cond b (Some x) (find p xs) ≡ None
    by true d rest = absurd (none-some n (sym d))
    by false d rest = rest d

-- the number of the type that a test finds
pub number_of : (p : TypeIn → Bool) (ts : List TypeIn) (i : ℕ) → first_from p 0 ts ≡ Some i → (t : TypeIn) × (find p ts ≡ Some t) × IsNumber ts t i
number_of p ts i e =
    let r = first_number p ts i e in
    (r.item, r.found, (r.place, λ k at. r.least k r.item at (passes p ts r.item r.found)))
  where
    passes : {X : Type 0} (p : X → Bool) (xs : List X) (x : X) → find p xs ≡ Some x → p x ≡ true
    passes p [] x e = absurd (none-some x e)
    passes {X} p (y ∷ xs) x e = by (p y) refl e (passes p xs x)
      where
        by : (b : Bool) → p y ≡ b → cond b (Some y) (find p xs) ≡ Some x → (find p xs ≡ Some x → p x ≡ true) → p x ≡ true
        by true is d rest = ap p (sym (same_Some y x d)) ∙ is
        by false is d rest = rest d

module _ (g : Gathered) (foreign : ForeignTypes) where
  pub declared_bare : (name : List ℕ) (i : ℕ) → first_from (is_under None name) 0 (types_of g) ≡ Some i → IsTarget (types_of g) (bare_meaning g foreign name) (Declared i)
  declared_bare name i e =
      let r = number_of (is_under None name) (types_of g) i e in
      (r.0, ap (λ o. or_else (option_map Defined o) (undeclared name)) r.1, r.2)
    where
      undeclared : List ℕ → Meaning
      undeclared n = or_else (option_map (λ s. Integer s.size s.signed) (find (λ s. bytes_eq s.name n) standard_types)) (foreign_meaning g foreign n)

  pub declared_tagged : (k : Tag) (name : List ℕ) (i : ℕ) → first_from (is_under (Some k) name) 0 (types_of g) ≡ Some i
      → IsTarget (types_of g) (or_else (option_map Defined (find (λ d. has_tag k d.decl && is_named name d) (types_of g))) Undeclared) (Declared i)
  declared_tagged k name i e =
      let r = number_of (is_under (Some k) name) (types_of g) i e in
      (r.0, ap (λ o. or_else (option_map Defined o) Undeclared) r.1, r.2)

  pub undeclared_tagged : (k : Tag) (name : List ℕ) → first_from (is_under (Some k) name) 0 (types_of g) ≡ None
      → or_else (option_map Defined (find (λ d. has_tag k d.decl && is_named name d) (types_of g))) Undeclared ≡ Undeclared
  undeclared_tagged k name e = ap (λ o. or_else (option_map Defined o) Undeclared) (first_none (is_under (Some k) name) 0 (types_of g) e)

  -- a bare name that is not declared
  undeclared_bare : (name : List ℕ) → first_from (is_under None name) 0 (types_of g) ≡ None
      → bare_meaning g foreign name ≡ or_else (option_map (λ s. Integer s.size s.signed) (find (λ s. bytes_eq s.name name) standard_types)) (foreign_meaning g foreign name)
  undeclared_bare name e =
      ap (λ o. or_else (option_map Defined o) (or_else (option_map (λ s. Integer s.size s.signed) (find (λ s. bytes_eq s.name name) standard_types)) (foreign_meaning g foreign name)))
      (first_none (is_under None name) 0 (types_of g) e)

  pub standard_bare : (name : List ℕ) (size : ℕ) → first_from (is_under None name) 0 (types_of g) ≡ None → standard_size name ≡ Some size → fixed_shape (bare_meaning g foreign name) ≡ Some (square size)
  standard_bare name size e is =
      let p = mapped (λ s. s.size) (find (λ s. bytes_eq s.name name) standard_types) size is in
      ap fixed_shape (undeclared_bare name e ∙ ap (λ o. or_else (option_map (λ s. Integer s.size s.signed) o) (foreign_meaning g foreign name)) p.1) ∙ ap (λ n. Some (square n)) p.2

  pub foreign_bare : (name : List ℕ) → first_from (is_under None name) 0 (types_of g) ≡ None → standard_size name ≡ None → bare_meaning g foreign name ≡ foreign_meaning g foreign name
  foreign_bare name e is =
      undeclared_bare name e ∙ ap (λ o. or_else (option_map (λ s. Integer s.size s.signed) o) (foreign_meaning g foreign name)) (unmapped (λ s. s.size) (find (λ s. bytes_eq s.name name) standard_types) is)
    where
      unmapped : {A B : Type 0} (f : A → B) (o : Option A) → option_map f o ≡ None → o ≡ None
      unmapped f None d = refl
      unmapped f (Some x) d = absurd (none-some (f x) (sym d))

  pub foreign_known : (name : List ℕ) (i : ℕ) (t : ForeignType) → first_from (λ t. bytes_eq t.name name) 0 foreign.types ≡ Some i → slice_get foreign.types i ≡ Some t
      → foreign_meaning g foreign name ≡ Foreign (record { size = t.size; align = t.align })
  foreign_known name i t e at =
      let r = first_number (λ (u : ForeignType). bytes_eq u.name name) foreign.types i e in
      ap (λ o. or_else (option_map (λ u. Foreign (record { size = u.size; align = u.align })) o) (if foreign.lenient then Opaque else Undeclared)) (r.found ∙ ap Some (same_Some r.item t (sym r.place ∙ at)))

  pub foreign_there : (name : List ℕ) (i : ℕ) → first_from (λ t. bytes_eq t.name name) 0 foreign.types ≡ Some i → slice_get foreign.types i ≡ None → ⊥
  foreign_there name i e at =
      let r = first_number (λ (u : ForeignType). bytes_eq u.name name) foreign.types i e in
      none-some r.item (sym at ∙ r.place)

  pub foreign_unknown : (name : List ℕ) (b : Bool) → first_from (λ t. bytes_eq t.name name) 0 foreign.types ≡ None → foreign.lenient ≡ b → foreign_meaning g foreign name ≡ (if b then Opaque else Undeclared)
  foreign_unknown name b e is =
      ap (λ o. or_else (option_map (λ u. Foreign (record { size = u.size; align = u.align })) o) (if foreign.lenient then Opaque else Undeclared)) (first_none (λ (u : ForeignType). bytes_eq u.name name) 0 foreign.types e)
      ∙ ap (λ l. if l then Opaque else Undeclared) is
