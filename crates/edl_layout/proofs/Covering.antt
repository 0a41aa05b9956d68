-- A table of layouts that is filled name after name.
use Rattle.std.proofs.Common.{◌≡◌, ◌<◌, ◌≤◌, ◌+◌, ◌*◌, ◌^◌, ◌⊎◌, inl, inr, ℕ, zero, suc, Bool, true, false, cond, List, [], ◌∷◌, ◌++◌, map, find, take, replicate, length, get_or, refl, sym, ◌∙◌, ap, subst, Option, Some, None, option_map, arith}
use Rattle.std.specs.Prelude.{slice_get, All, if◌then◌else◌}
use Rattle.std.specs.Str.{bytes_eq}
use Rattle.std.proofs.lemmas.Option.{none-some, same_Some}
use Rattle.std.proofs.lemmas.Slice.Eq.{bytes_eq-Decides}
use Rattle.sgx_base.specs.Bytes.{round_up}
use Rattle.edl_grammar.specs.declared.Gathered.{Gathered}
use Rattle.edl_grammar.specs.declared.Declared.{Declared}
use Rattle.edl_grammar.specs.declared.Base.TheVariants as base
use Rattle.edl_grammar.specs.declared.TypeDecl.{TypeDecl}
use Rattle.edl_grammar.specs.declared.TypeDecl.TheVariants as decl
use Rattle.edl_grammar.specs.Files.{TypeIn, types_of}
use Rattle.edl_layout.specs.declared.ForeignType.{ForeignType}
use Rattle.edl_layout.specs.declared.ForeignTypes.{ForeignTypes}
use Rattle.edl_layout.specs.declared.NamedShape.{NamedShape}
use Rattle.edl_layout.specs.declared.extents.Extent.{Extent}
use Rattle.edl_layout.specs.declared.extents.FieldEnds.{FieldEnds}
use Rattle.edl_layout.specs.declared.sizes.TypeSize.{TypeSize}
use Rattle.edl_layout.specs.declared.sizes.TypeSize.TheVariants as size
use Rattle.edl_layout.specs.Ends.{kept, shape_at, ends_of, ends_after}
use Rattle.edl_layout.specs.Shape.{Shape, offsets, elements, array_shape, union_shape, all_known, end_of}
use Rattle.edl_layout.specs.Meaning.{Meaning, Empty, Integer, Defined, Foreign, Opaque, Undeclared, bare_meaning, foreign_meaning, or_else, Standard, is_named, standard_types, decl_shape, shape_within, HasShape}
use Rattle.edl_layout.specs.Faults.{IsCleanType}
use Rattle.edl_layout.specs.Frame.{plain_shape}
use Rattle.edl_layout.specs.Settled.{IsSettled}
use Rattle.edl_layout.specs.Sizes.{AreSizes, AreSettled, HasMemberShape, shape_at_depth}
use Rattle.edl_layout.specs.Judged.{meant_by}
use Rattle.edl_layout.specs.Meant.{IsMeant}
use Rattle.edl_layout.specs.Named.{is_name}
use denote.Ref.{Bor}
use Rattle.edl_layout.specs.Pushed.{known_of}
use Rattle.edl_layout.specs.Table.{entry, shape_in, size_in, decl_offsets, offsets_within, IsTable}
use Rattle.edl_layout.specs.Filled.{ArePut, AreOffsets, HasOffsets, IsExtent, IsEntry, IsSound, Covers, Grows, CoversAt, CoversFirst}
use Rattle.edl_layout.proofs.Growing.{mapped, base_shape, one_shape}
use Rattle.edl_layout.proofs.FieldLists.{ends-push, offsets_from-push}
use Rattle.edl_layout.proofs.Kept.{kept_round-alone}
use Rattle.edl_layout.proofs.Sweeping.{below_or_at}
use Rattle.edl_layout.proofs.Together.{take_next, join}
use Rattle.edl_layout.proofs.Voids.{declared_meant}

-- a kept number that fits is exact
pub kept_exact : (n k : ℕ) → k ≡ kept n → k < 2 ^ 32 → k ≡ n
kept_exact n k e low = omega (arith, e)

find_kept : {X : Type 0} (p : X → Bool) (xs ys : List X) (x : X) → find p xs ≡ Some x → find p (xs ++ ys) ≡ Some x
find_kept p [] ys x e = absurd (none-some x e)
find_kept p (z ∷ xs) ys x e = by (p z) e (find_kept p xs ys x)
  where
    by : (b : Bool) → cond b (Some z) (find p xs) ≡ Some x → (find p xs ≡ Some x → find p (xs ++ ys) ≡ Some x) → cond b (Some z) (find p (xs ++ ys)) ≡ Some x
    by true d rest = d
    by false d rest = rest d

find_new : {X : Type 0} (p : X → Bool) (xs : List X) (y : X) → find p xs ≡ None → find p (xs ++ y ∷ []) ≡ cond (p y) (Some y) None
find_new p [] y e = refl
find_new p (z ∷ xs) y e = by (p z) e (find_new p xs y)
  where
    by : (b : Bool) → cond b (Some z) (find p xs) ≡ None → (find p xs ≡ None → find p (xs ++ y ∷ []) ≡ cond (p y) (Some y) None) → cond b (Some z) (find p (xs ++ y ∷ [])) ≡ cond (p y) (Some y) None
    by true d rest = absurd (none-some z (sym d))
    by false d rest = rest d

-- the place of what is found
found_at : {X : Type 0} (p : X → Bool) (xs : List X) (x : X) → find p xs ≡ Some x → (k : ℕ) × (k < length xs) × (slice_get xs k ≡ Some x) × (p x ≡ true)
found_at p [] x e = absurd (none-some x e)
found_at {X} p (z ∷ xs) x e = by (p z) refl e (found_at p xs x)
  where
    by : (b : Bool) → p z ≡ b → cond b (Some z) (find p xs) ≡ Some x → (find p xs ≡ Some x → (k : ℕ) × (k < length xs) × (slice_get xs k ≡ Some x) × (p x ≡ true)) → (k : ℕ) × (k < length (z ∷ xs)) × (slice_get (z ∷ xs) k ≡ Some x) × (p x ≡ true)
    by true is d rest = (zero, omega arith, d, ap p (sym (same_Some z x d)) ∙ is)
    by false is d rest = let r = rest d in let low = r.1 in (suc r.0, omega arith, r.2, r.3)

same_name : (n name : List ℕ) → bytes_eq n name ≡ true → n ≡ name
same_name n name e = (bytes_eq-Decides n name).0 e

-- zeros, one for each shape
zeros : {X : Type 0} (f : X → Option Shape) (xs : List X) (ss : List Shape) → all_known (map f xs) ≡ Some ss → map {B = ℕ} (λ _. 0) ss ≡ map {B = ℕ} (λ _. 0) xs
zeros f [] ss e = ap (map {B = ℕ} (λ (_ : Shape). 0)) (sym (same_Some [] ss e))
zeros {X} f (x ∷ xs) ss e = by (f x) e (zeros f xs)
  where
    by : (o : Option Shape) → all_known (o ∷ map f xs) ≡ Some ss → ((ts : List Shape) → all_known (map f xs) ≡ Some ts → map {B = ℕ} (λ _. 0) ts ≡ map {B = ℕ} (λ _. 0) xs) → map {B = ℕ} (λ _. 0) ss ≡ map {B = ℕ} (λ _. 0) (x ∷ xs)
    by None d rest = absurd (none-some ss d)
    by (Some s) d rest = let p = mapped (◌∷◌ s) (all_known (map f xs)) ss d in ap (map {B = ℕ} (λ (_ : Shape). 0)) (sym p.2) ∙ ap (◌∷◌ 0) (rest p.0 p.1)

pub zeros_of : {X : Type 0} (xs : List X) (n : ℕ) (items : List ℕ) → n ≡ length xs → items ≡ replicate n 0 → items ≡ map {B = ℕ} (λ _. 0) xs
zeros_of xs n items count is = is ∙ ap (λ k. replicate k 0) count ∙ all xs
  where
    all : {X : Type 0} (ys : List X) → replicate (length ys) 0 ≡ map {B = ℕ} (λ (_ : X). 0) ys
    all [] = refl
    all (y ∷ ys) = ap (◌∷◌ 0) (all ys)

module _ (g : Gathered) (foreign : ForeignTypes) where
  -- ---- shapes of names

  never_empty : (n : ℕ) → shape_within g foreign n Empty ≡ None
  never_empty zero = refl
  never_empty (suc n) = refl

  never_opaque : (n : ℕ) → shape_within g foreign n Opaque ≡ None
  never_opaque zero = refl
  never_opaque (suc n) = refl

  never_undeclared : (n : ℕ) → shape_within g foreign n Undeclared ≡ None
  never_undeclared zero = refl
  never_undeclared (suc n) = refl

  never_by : (m k : Meaning) → m ≡ k → ((n : ℕ) → shape_within g foreign n k ≡ None) → IsExtent g foreign m None
  never_by m k e never s (n, d) = none-some s (sym (never n) ∙ ap (shape_within g foreign n) (sym e) ∙ d)

  pub empty_extent : (m : Meaning) → m ≡ Empty → IsExtent g foreign m None
  empty_extent m e = never_by m Empty e never_empty

  pub opaque_extent : (m : Meaning) → m ≡ Opaque → IsExtent g foreign m None
  opaque_extent m e = never_by m Opaque e never_opaque

  pub undeclared_extent : (m : Meaning) → m ≡ Undeclared → IsExtent g foreign m None
  undeclared_extent m e = never_by m Undeclared e never_undeclared

  pub declared_extent : (sizes : List TypeSize) (name : List ℕ) (t : TypeIn) (n : ℕ) (z : TypeSize) → AreSizes g foreign sizes → AreSettled g foreign sizes → All (IsCleanType g foreign) (types_of g)
      → bare_meaning g foreign name ≡ Defined t → slice_get (types_of g) n ≡ Some t → slice_get sizes n ≡ Some z → IsExtent g foreign (bare_meaning g foreign name) (known_of (meant_by z))
  declared_extent sizes name t n z sound settled clean e at got = by z (declared_meant g foreign sizes (base.Bare name) t n z sound settled clean e at got)
    where
      by : (y : TypeSize) → IsMeant g foreign (base.Bare name) (meant_by y) → IsExtent g foreign (bare_meaning g foreign name) (known_of (meant_by y))
      by size.Waiting h = h.0
      by size.Unsized h = h.0
      by (size.Known x) h = h

  -- ---- offsets

  pub member_known : (m : Declared) (e : Extent) (size : ℕ) → IsSettled (λ n. plain_shape g foreign n m.written) (shape_at e) → size ≡ e.size * elements m.dims → HasMemberShape g foreign m (record { size = size; align = e.align })
  member_known m e size h is = record {
    depth = h.from;
    found = ap (option_map (array_shape m.dims)) (h.deep h.from (omega arith)) ∙ ap (λ n. Some (record { size = n; align = e.align })) (sym is);
  }

  pub none_put : (ends : FieldEnds) → ends ≡ ends_of [] → ArePut g foreign [] ends []
  none_put ends e = record { shapes = []; known = record { depth = 0; found = refl }; ends = e; at = refl }

  one_more_put : (ms : List Declared) (m : Declared) (ends more : FieldEnds) (e : Extent) (o : ℕ) (os : List ℕ) → ArePut g foreign ms ends os → HasMemberShape g foreign m (shape_at e)
      → more ≡ ends_after ends (shape_at e) → o ≡ kept (round_up ends.end e.align) → o < 2 ^ 32 → ArePut g foreign (ms ++ m ∷ []) more (os ++ o ∷ [])
  one_more_put ms m ends more e o os h known after at low =
      let s = shape_at e in
      let exact : o ≡ round_up (end_of 0 h.shapes) e.align =
      kept_exact (round_up (end_of 0 h.shapes) e.align) o (at ∙ ap (λ (x : FieldEnds). kept (round_up x.end e.align)) h.ends ∙ kept_round-alone (end_of 0 h.shapes) e.align) low in
      record {
        shapes = h.shapes ++ s ∷ [];
        known = join g foreign ms m h.shapes s h.known known;
        ends = after ∙ ap (λ (x : FieldEnds). ends_after x s) h.ends ∙ ends-push h.shapes s;
        at = ap (λ (xs : List ℕ). xs ++ o ∷ []) h.at ∙ ap (λ n. offsets h.shapes ++ n ∷ []) exact ∙ sym (offsets_from-push 0 h.shapes s);
      }

  pub next_put : (ms : List Declared) (i : ℕ) (m d : Declared) (ends more : FieldEnds) (e : Extent) (o : ℕ) (os : List ℕ) → i < length ms → m ≡ get_or ms i d → ArePut g foreign (take i ms) ends os → HasMemberShape g foreign m (shape_at e)
      → more ≡ ends_after ends (shape_at e) → o ≡ kept (round_up ends.end e.align) → o < 2 ^ 32 → ArePut g foreign (take (i + 1) ms) more (os ++ o ∷ [])
  next_put ms i m d ends more e o os low is h known after at fits =
      subst (λ (xs : List Declared). ArePut g foreign xs more (os ++ o ∷ [])) (ap (λ (x : Declared). take i ms ++ x ∷ []) is ∙ sym (take_next ms i d low)) (one_more_put (take i ms) m ends more e o os h known after at fits)

  declared_offsets : (k : ℕ) (d : TypeDecl) (o : List ℕ) (s : Shape) → AreOffsets g foreign d o → decl_shape g foreign (base_shape g foreign k) d ≡ Some s → (n : ℕ) × (decl_offsets g foreign (base_shape g foreign n) d ≡ Some o)
  declared_offsets k (decl.Enumeration token name values) o s h e = (0, ap Some (sym h))
  declared_offsets k (decl.Structure token name members) o s (ss, has, is) e = (has.depth, ap (option_map offsets) has.found ∙ ap Some (sym is))
  declared_offsets k (decl.Union token name members) o s h e =
      let p = mapped union_shape (all_known (map (shape_at_depth g foreign k) members)) s e in
      (k, ap (option_map (map {B = ℕ} (λ _. 0))) p.1 ∙ ap Some (zeros (shape_at_depth g foreign k) members p.0 p.1 ∙ sym h))

  defined_offsets : (t : TypeIn) (o : List ℕ) (s : Shape) → AreOffsets g foreign t.decl o → HasShape g foreign (Defined t) s → HasOffsets g foreign (Defined t) o
  defined_offsets t o s h (zero, e) = absurd (none-some s e)
  defined_offsets t o s h (suc k, e) = let p = declared_offsets k t.decl o s h e in record { depth = p.0; found = p.1 }

  pub offsets_declared : (name o : List ℕ) (d : TypeDecl) (s : Shape) → Some d ≡ option_map (λ t. t.decl) (find (is_named name) (types_of g)) → AreOffsets g foreign d o
      → HasShape g foreign (bare_meaning g foreign name) s → HasOffsets g foreign (bare_meaning g foreign name) o
  offsets_declared name o d s found h has =
      let p = mapped (λ (t : TypeIn). t.decl) (find (is_named name) (types_of g)) d (sym found) in
      let is : bare_meaning g foreign name ≡ Defined p.0 =
      ap (λ x. or_else (option_map Defined x) (or_else (option_map (λ s. Integer s.size s.signed) (find (λ s. bytes_eq s.name name) standard_types)) (foreign_meaning g foreign name))) p.1 in
      subst (λ (m : Meaning). HasOffsets g foreign m o) (sym is)
      (defined_offsets p.0 o s (subst (λ (x : TypeDecl). AreOffsets g foreign x o) (sym p.2) h) (subst (λ (m : Meaning). HasShape g foreign m s) is has))

  without : (o : Option Meaning) (m : Meaning) → ((x : Meaning) → o ≡ Some x → offsets_within g foreign 0 x ≡ Some []) → offsets_within g foreign 0 m ≡ Some [] → offsets_within g foreign 0 (or_else o m) ≡ Some []
  without None m some rest = rest
  without (Some x) m some rest = some x refl

  without_mapped : {A : Type 0} (f : A → Meaning) → ((a : A) → offsets_within g foreign 0 (f a) ≡ Some []) → (o : Option A) (x : Meaning) → option_map f o ≡ Some x → offsets_within g foreign 0 x ≡ Some []
  without_mapped f none None x e = absurd (none-some x e)
  without_mapped f none (Some a) x e = ap (offsets_within g foreign 0) (sym (same_Some (f a) x e)) ∙ none a

  without_last : (b : Bool) → offsets_within g foreign 0 (if b then Opaque else Undeclared) ≡ Some []
  without_last true = refl
  without_last false = refl

  pub offsets_undeclared : (name o : List ℕ) → find (is_named name) (types_of g) ≡ None → o ≡ [] → HasOffsets g foreign (bare_meaning g foreign name) o
  offsets_undeclared name o none is = record {
    depth = 0;
    found =
        ap (λ x. offsets_within g foreign 0 (or_else (option_map Defined x) (or_else (option_map (λ s. Integer s.size s.signed) (find (λ s. bytes_eq s.name name) standard_types)) (foreign_meaning g foreign name)))) none
        ∙ without (option_map (λ s. Integer s.size s.signed) (find (λ s. bytes_eq s.name name) standard_types)) (foreign_meaning g foreign name)
        (without_mapped (λ s. Integer s.size s.signed) (λ s. refl) (find (λ s. bytes_eq s.name name) standard_types))
        (without (option_map (λ t. Foreign (record { size = t.size; align = t.align })) (find (λ t. bytes_eq t.name name) foreign.types)) (if foreign.lenient then Opaque else Undeclared)
        (without_mapped (λ t. Foreign (record { size = t.size; align = t.align })) (λ t. refl) (find (λ t. bytes_eq t.name name) foreign.types)) (without_last foreign.lenient))
        ∙ ap Some (sym is);
  }

  -- ---- one name more

  pub grows_same : (table : List NamedShape) → Grows g foreign table table
  grows_same table = record { sound = λ h. h; kept = λ name h. h }

  pub grows_on : (a b c : List NamedShape) → Grows g foreign a b → Grows g foreign b c → Grows g foreign a c
  grows_on a b c h k = record { sound = λ s. k.sound (h.sound s); kept = λ name s. k.kept name (h.kept name s) }

  pub grows_by_one : (table : List NamedShape) (e : NamedShape) → entry table e.name ≡ None → IsEntry g foreign e.name e → Grows g foreign table (table ++ e ∷ [])
  grows_by_one table e missing is = record {
    sound = λ h name x at. by h name x (entry table name) refl at;
    kept = λ name h s has. let p = h s has in (p.0, find_kept (λ n. bytes_eq n.name name) table (e ∷ []) p.0 p.1);
  }
    where
      last : (name : List ℕ) (x : NamedShape) (b : Bool) → bytes_eq e.name name ≡ b → cond b (Some e) None ≡ Some x → IsEntry g foreign name x
      last name x true same d =
          subst (λ (n : List ℕ). IsEntry g foreign n x) (same_name e.name name same) (subst (λ (y : NamedShape). IsEntry g foreign e.name y) (same_Some e x d) is)
      last name x false same d = absurd (none-some x d)

      by : IsSound g foreign table → (name : List ℕ) (x : NamedShape) (o : Option NamedShape) → entry table name ≡ o → entry (table ++ e ∷ []) name ≡ Some x → IsEntry g foreign name x
      by h name x None was at = last name x (bytes_eq e.name name) refl (sym (find_new (λ n. bytes_eq n.name name) table e was) ∙ at)
      by h name x (Some y) was at =
          subst (λ (z : NamedShape). IsEntry g foreign name z) (same_Some y x (sym (find_kept (λ n. bytes_eq n.name name) table (e ∷ []) y was) ∙ at)) (h name y was)

  pub covers_one : (table : List NamedShape) (e : NamedShape) → entry table e.name ≡ None → Covers g foreign (table ++ e ∷ []) e.name
  covers_one table e missing s has = (e, find_new (λ n. bytes_eq n.name e.name) table e missing ∙ ap (λ b. cond b (Some e) None) ((bytes_eq-Decides e.name e.name).1 refl))

  pub covers_there : (table : List NamedShape) (name : List ℕ) (n : ℕ) → Some n ≡ size_in table name → Covers g foreign table name
  covers_there table name n e s has = let p = mapped (λ (x : NamedShape). x.size) (entry table name) n (sym e) in (p.0, p.1)

  pub covers_nothing : (table : List NamedShape) (name : List ℕ) → IsExtent g foreign (bare_meaning g foreign name) None → Covers g foreign table name
  covers_nothing table name none s has = absurd (none s has)

  pub covers_name : (table : List NamedShape) (n name : List ℕ) → bytes_eq n name ≡ true → Covers g foreign table n → Covers g foreign table name
  covers_name table n name e h = subst (λ (m : List ℕ). Covers g foreign table m) (same_name n name e) h

  pub covers_named : (table : List NamedShape) (t : TypeIn) (name : List ℕ) (o : Option (Bor (List ℕ))) → is_named name t ≡ is_name o name → is_named name t ≡ true
      → ((b : Bor (List ℕ)) → o ≡ Some b → Covers g foreign table b.now) → Covers g foreign table name
  covers_named table t name None is named each = absurd (cc (sym is ∙ named))
  covers_named table t name (Some b) is named each = covers_name table b.now name (sym is ∙ named) (each b refl)

  -- ---- in a loop

  module _ {X : Type 0} (test : List ℕ → X → Bool) (xs : List X) where
    pub covers_none : (table : List NamedShape) → CoversFirst g foreign test xs 0 table
    covers_none table k x name low at is = absurd (omega (arith, low))

    pub covers_next : (n : ℕ) (old new : List NamedShape) → Grows g foreign old new → CoversAt g foreign test xs n new
        → CoversFirst g foreign test xs n old → CoversFirst g foreign test xs (n + 1) new
    covers_next n old new grows here before k x name low at is = by (below_or_at k n low)
      where
        by : (k < n) ⊎ (k ≡ n) → Covers g foreign new name
        by (inl less) = grows.kept name (before k x name less at is)
        by (inr e) = here x name (ap (slice_get xs) (sym e) ∙ at) is

    pub covers_grown : (n : ℕ) (old new : List NamedShape) → Grows g foreign old new → CoversFirst g foreign test xs n old → CoversFirst g foreign test xs n new
    covers_grown n old new grows h k x name low at is = grows.kept name (h k x name low at is)

    pub covers_all : (n : ℕ) (table : List NamedShape) → length xs ≤ n → CoversFirst g foreign test xs n table → CoversFirst g foreign test xs (length xs) table
    covers_all n table high h k x name low at is = h k x name (omega arith) at is

    covers_found : (table : List NamedShape) (name : List ℕ) (x : X) → CoversFirst g foreign test xs (length xs) table → find (test name) xs ≡ Some x → Covers g foreign table name
    covers_found table name x h e = let p = found_at (test name) xs x e in h p.0 x name p.1 p.2 p.3

  got_map : {A B : Type 0} (f : A → B) (xs : List A) (k : ℕ) (x : A) → slice_get xs k ≡ Some x → slice_get (map f xs) k ≡ Some (f x)
  got_map f [] k x e = absurd (none-some x e)
  got_map f (y ∷ ys) zero x e = ap (λ z. Some (f z)) (same_Some y x e)
  got_map f (y ∷ ys) (suc k) x e = got_map f ys k x e

  got_back : {A B : Type 0} (f : A → B) (xs : List A) (k : ℕ) (y : B) → slice_get (map f xs) k ≡ Some y → (x : A) × (slice_get xs k ≡ Some x) × (f x ≡ y) × (k < length xs)
  got_back f [] k y e = absurd (none-some y e)
  got_back f (x ∷ xs) zero y e = (x, refl, same_Some (f x) y e, omega arith)
  got_back f (x ∷ xs) (suc k) y e = let p = got_back f xs k y e in let low = p.3 in (p.0, p.1, p.2, omega arith)

  -- the names of the standard types
  pub covers_standard : (names : List (Bor (List ℕ))) (table : List NamedShape) → map (λ n. n.now) names ≡ map (λ s. s.name) standard_types
      → CoversFirst g foreign (λ name n. bytes_eq n.now name) names (length names) table → CoversFirst g foreign (λ name s. bytes_eq s.name name) standard_types (length standard_types) table
  covers_standard names table same h k x name low at is =
      let p = got_back (λ (n : Bor (List ℕ)). n.now) names k x.name (ap (λ (ns : List (List ℕ)). slice_get ns k) same ∙ got_map (λ (s : Standard). s.name) standard_types k x at) in
      h k p.0 name p.3 p.1 (ap (λ m. bytes_eq m name) p.2 ∙ is)

  -- ---- the whole table

  pub sound_none : IsSound g foreign []
  sound_none name e at = absurd (none-some e at)

  module _ (table : List NamedShape) (declared : CoversFirst g foreign is_named (types_of g) (length (types_of g)) table)
      (standard : CoversFirst g foreign (λ name s. bytes_eq s.name name) standard_types (length standard_types) table)
      (outside : CoversFirst g foreign (λ name t. bytes_eq t.name name) foreign.types (length foreign.types) table) where
    last_none : (b : Bool) → IsExtent g foreign (if b then Opaque else Undeclared) None
    last_none true = opaque_extent Opaque refl
    last_none false = undeclared_extent Undeclared refl

    covers_every : (name : List ℕ) → Covers g foreign table name
    covers_every name = first (find (is_named name) (types_of g)) refl
      where
        foreign_is : Meaning
        foreign_is = foreign_meaning g foreign name

        third : find (is_named name) (types_of g) ≡ None → find (λ s. bytes_eq s.name name) standard_types ≡ None → find (λ t. bytes_eq t.name name) foreign.types ≡ None → Covers g foreign table name
        third a b c = covers_nothing table name (subst (λ (m : Meaning). IsExtent g foreign m None) (sym is) (last_none foreign.lenient))
          where
            is : bare_meaning g foreign name ≡ (if foreign.lenient then Opaque else Undeclared)
            is =
                ap (λ x. or_else (option_map Defined x) (or_else (option_map (λ s. Integer s.size s.signed) (find (λ s. bytes_eq s.name name) standard_types)) foreign_is)) a
                ∙ ap (λ x. or_else (option_map (λ s. Integer s.size s.signed) x) foreign_is) b
                ∙ ap (λ x. or_else (option_map (λ u. Foreign (record { size = u.size; align = u.align })) x) (if foreign.lenient then Opaque else Undeclared)) c

        second : find (is_named name) (types_of g) ≡ None → find (λ s. bytes_eq s.name name) standard_types ≡ None → (o : Option ForeignType) → find (λ t. bytes_eq t.name name) foreign.types ≡ o → Covers g foreign table name
        second a b None e = third a b e
        second a b (Some t) e = covers_found (λ name t. bytes_eq t.name name) foreign.types table name t outside e

        middle : find (is_named name) (types_of g) ≡ None → (o : Option Standard) → find (λ s. bytes_eq s.name name) standard_types ≡ o → Covers g foreign table name
        middle a None e = second a e (find (λ t. bytes_eq t.name name) foreign.types) refl
        middle a (Some s) e = covers_found (λ name s. bytes_eq s.name name) standard_types table name s standard e

        first : (o : Option TypeIn) → find (is_named name) (types_of g) ≡ o → Covers g foreign table name
        first None e = middle e (find (λ s. bytes_eq s.name name) standard_types) refl
        first (Some t) e = covers_found is_named (types_of g) table name t declared e

    pub is_table : IsSound g foreign table → IsTable g foreign table
    is_table sound = record {
      shapes = λ name s. (to name s, from name s);
      offsets = λ name e at. let p = (sound name e at).offsets in (p.depth, p.found);
    }
      where
        to : (name : List ℕ) (s : Shape) → shape_in table name ≡ Some s → HasShape g foreign (bare_meaning g foreign name) s
        to name s is =
            let p = mapped (λ (e : NamedShape). record { size = e.size; align = e.align }) (entry table name) s is in
            subst (λ (x : Shape). HasShape g foreign (bare_meaning g foreign name) x) p.2 (sound name p.0 p.1).shape

        from : (name : List ℕ) (s : Shape) → HasShape g foreign (bare_meaning g foreign name) s → shape_in table name ≡ Some s
        from name s has =
            let p = covers_every name s has in
            ap (option_map (λ (e : NamedShape). record { size = e.size; align = e.align })) p.1 ∙ ap Some (one_shape g foreign (bare_meaning g foreign name) _ s (sound name p.0 p.1).shape has)
