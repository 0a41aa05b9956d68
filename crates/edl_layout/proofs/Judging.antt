-- The fault of a type, and the fault of the first type that has one.
use Rattle.std.proofs.Common.{◌≡◌, ◌<◌, ◌≤◌, ◌+◌, ◌⊎◌, inl, inr, ℕ, zero, suc, Bool, true, false, List, [], ◌∷◌, length, get_or, drop, min, refl, sym, ◌∙◌, ap, subst, Some, None, map, add-one, arith}
use Rattle.std.specs.Prelude.{slice_get, filter, All, cond, nat_le}
use Rattle.std.proofs.lemmas.Option.{none-some, same_Some, slice_get-get_or}
use Rattle.std.proofs.lemmas.Bool.Decides.{nat_tests}
use Rattle.std.proofs.Math.Seq.{drop-cons}
use Rattle.edl_grammar.specs.declared.Gathered.{Gathered}
use Rattle.edl_grammar.specs.declared.Declared.{Declared}
use Rattle.edl_grammar.specs.declared.TypeDecl.{TypeDecl}
use Rattle.edl_grammar.specs.Files.{TypeIn, types_of, token_of, fault_in}
use Rattle.edl_layout.specs.declared.ForeignTypes.{ForeignTypes}
use Rattle.edl_layout.specs.declared.LayoutFault.{LayoutFault}
use Rattle.edl_layout.specs.declared.LayoutFault.TheVariants as faults
use Rattle.edl_layout.specs.declared.sizes.TypeSize.{TypeSize}
use Rattle.edl_layout.specs.declared.sizes.TypeSize.TheVariants as size
use Rattle.edl_layout.specs.Shape.{Shape}
use Rattle.edl_layout.specs.Meaning.{Defined, members_of, HasShape, HoldsItself}
use Rattle.edl_layout.specs.Faults.{IsCleanType, TypeFault, FaultAmong, SizeFits, IsFirst, unknown_in_type, unknown_among, wide_values, is_no_value, max_size}
use Rattle.edl_layout.specs.Faults as spec
use Rattle.edl_layout.specs.Firsts.{first_of}
use Rattle.edl_layout.specs.Sizes.{cap, IsTypeSize, AreSizes, AreSettled}
use Rattle.edl_layout.specs.Judged.{At, Below, IsApart, TellsItself, is_large}
use Rattle.edl_layout.specs.Walks.{IsItself}
use Rattle.edl_layout.proofs.Growing.{one_shape}
use Rattle.edl_layout.proofs.Doneness.{apart}
use Rattle.edl_layout.proofs.Together.{never_found}
use Rattle.edl_layout.proofs.Sweeping.{some_at, below_or_at}

pub first_is : (xs : List ℕ) (n : ℕ) → first_of xs ≡ Some n → IsFirst xs n
first_is [] n e = absurd (none-some n e)
first_is (x ∷ xs) n e = sym (same_Some x n e)

pub first_empty : (xs : List ℕ) → first_of xs ≡ None → xs ≡ []
first_empty [] e = refl
first_empty (x ∷ xs) e = absurd (none-some x (sym e))

module _ {U F : Type 0} (IsClean : U → Type 0) (HasFault : U → F → Type 0) where
  -- the fault of an item, where those before it are clean
  pub fault_among : (xs : List U) (n : ℕ) (x : U) (f : F) → slice_get xs n ≡ Some x → ((k : ℕ) (y : U) → k < n → slice_get xs k ≡ Some y → IsClean y) → HasFault x f → FaultAmong IsClean HasFault xs f
  fault_among [] n x f at clean h = absurd (none-some x at)
  fault_among (y ∷ xs) zero x f at clean h = inl (subst (λ (z : U). HasFault z f) (sym (same_Some y x at)) h)
  fault_among (y ∷ xs) (suc n) x f at clean h = inr (clean 0 y (omega arith) refl, fault_among xs n x f at (λ k z low e. clean (suc k) z (omega arith) e) h)

-- ---- the first member of unknown type

module _ (g : Gathered) (foreign : ForeignTypes) where
  pub unknown_here : (ms : List Declared) (i : ℕ) (d : Declared) → i < length ms → is_no_value g foreign (get_or ms i d).written ≡ true → first_of (unknown_among g foreign (drop i ms)) ≡ Some (get_or ms i d).written.token
  unknown_here ms i d low is = ap (λ (xs : List Declared). first_of (unknown_among g foreign xs)) (drop-cons ms i d low) ∙ here (get_or ms i d) (drop (suc i) ms) is
    where
      here : (m : Declared) (xs : List Declared) → is_no_value g foreign m.written ≡ true → first_of (unknown_among g foreign (m ∷ xs)) ≡ Some m.written.token
      here m xs e = ap (λ b. first_of (map (λ (x : Declared). x.written.token) (cond b (m ∷ filter (λ (x : Declared). is_no_value g foreign x.written) xs) (filter (λ (x : Declared). is_no_value g foreign x.written) xs)))) e

  pub unknown_later : (ms : List Declared) (i : ℕ) (d : Declared) → i < length ms → is_no_value g foreign (get_or ms i d).written ≡ false → first_of (unknown_among g foreign (drop (i + 1) ms)) ≡ first_of (unknown_among g foreign (drop i ms))
  unknown_later ms i d low is =
      ap (λ n. first_of (unknown_among g foreign (drop n ms))) (add-one i)
      ∙ sym (later (get_or ms i d) (drop (suc i) ms) is) ∙ ap (λ (xs : List Declared). first_of (unknown_among g foreign xs)) (sym (drop-cons ms i d low))
    where
      later : (m : Declared) (xs : List Declared) → is_no_value g foreign m.written ≡ false → first_of (unknown_among g foreign (m ∷ xs)) ≡ first_of (unknown_among g foreign xs)
      later m xs e = ap (λ b. first_of (map (λ (x : Declared). x.written.token) (cond b (m ∷ filter (λ (x : Declared). is_no_value g foreign x.written) xs) (filter (λ (x : Declared). is_no_value g foreign x.written) xs)))) e

  -- ---- what the size of a type tells

  apart_by : (t : TypeIn) (z : TypeSize) → (z ≡ size.Waiting → ⊥) → IsTypeSize g foreign t z → IsApart g foreign t
  apart_by t size.Waiting other h = absurd (other refl)
  apart_by t size.Unsized other h = apart g foreign t h.0
  apart_by t (size.Known e) other h = apart g foreign t h.0

  pub apart_at : (sizes : List TypeSize) (n : ℕ) (z : TypeSize) → AreSizes g foreign sizes → slice_get sizes n ≡ Some z → (z ≡ size.Waiting → ⊥) → At g foreign (IsApart g foreign) n
  apart_at sizes n z sound got other t at = apart_by t z other (sound.each n t z at got)

  pub itself_or_before : (n : ℕ) (r : Bool) → Below g foreign (IsApart g foreign) n → IsItself g foreign n r → TellsItself g foreign n r
  itself_or_before n true before h = h
  itself_or_before n false before h = λ t at holds. let p = h t at holds in before p.0 p.1 t p.2 holds

  large_by : (t : TypeIn) (z : TypeSize) → is_large z ≡ true → IsTypeSize g foreign t z → (s : Shape) × HasShape g foreign (Defined t) s × (max_size < s.size)
  large_by t size.Waiting is h = absurd cc
  large_by t size.Unsized is h = absurd cc
  large_by t (size.Known e) is h = (h.1.0, h.1.1, above e.size h.1.0.size is (ap (λ (x : Shape). x.size) h.1.2))
    where
      above : (k n : ℕ) → nat_le cap k ≡ true → min n cap ≡ k → max_size < n
      above k n test same = let p : cap ≤ k = grind (arith, nat_tests) in omega arith

  fits_by : (sizes : List TypeSize) (n : ℕ) (t : TypeIn) (z : TypeSize) → AreSettled g foreign sizes → slice_get (types_of g) n ≡ Some t → slice_get sizes n ≡ Some z → is_large z ≡ false → IsTypeSize g foreign t z → SizeFits g foreign t
  fits_by sizes n t size.Waiting settled at got is h = λ s (k, e). absurd (none-some s (sym (never_found g foreign sizes settled k n t at got) ∙ e))
  fits_by sizes n t size.Unsized settled at got is h = λ s has. absurd (h.1 s has)
  fits_by sizes n t (size.Known e) settled at got is h = λ s has. below e.size s.size is (ap (λ (x : Shape). min x.size cap) (one_shape g foreign (Defined t) s h.1.0 has h.1.1) ∙ ap (λ (x : Shape). x.size) h.1.2)
    where
      below : (k n : ℕ) → nat_le cap k ≡ false → min n cap ≡ k → n ≤ max_size
      below k n test same = let p : k < cap = grind (arith, nat_tests) in omega arith

  pub fits_at : (sizes : List TypeSize) (n : ℕ) (z : TypeSize) → AreSizes g foreign sizes → AreSettled g foreign sizes → slice_get sizes n ≡ Some z → is_large z ≡ false → At g foreign (SizeFits g foreign) n
  fits_at sizes n z sound settled got is t at = fits_by sizes n t z settled at got is (sound.each n t z at got)

  -- ---- the four faults, at the type of a number

  module _ (n file : ℕ) (d : TypeDecl) (of_decl : At g foreign (λ t. t.decl ≡ d) n) (of_file : At g foreign (λ t. t.file ≡ file) n) where
    place : (t : TypeIn) → slice_get (types_of g) n ≡ Some t → (code : ℕ) → fault_in g t.file (token_of t.decl) code ≡ fault_in g file (token_of d) code
    place t at code = ap (λ k. fault_in g k (token_of t.decl) code) (of_file t at) ∙ ap (λ (x : TypeDecl). fault_in g file (token_of x) code) (of_decl t at)

    pub itself_at : (token : ℕ) (e : LayoutFault) → token ≡ token_of d → e ≡ faults.SelfHolding (fault_in g file token 13) → At g foreign (HoldsItself g foreign) n → At g foreign (λ t. TypeFault g foreign t e) n
    itself_at token e same is holds t at =
        subst (λ (x : LayoutFault). TypeFault g foreign t x) (ap faults.SelfHolding (place t at 13 ∙ ap (λ k. fault_in g file k 13) (sym same)) ∙ sym is) (spec.itself (holds t at))

    pub large_at : (sizes : List TypeSize) (z : TypeSize) (token : ℕ) (e : LayoutFault) → token ≡ token_of d → e ≡ faults.TooLarge (fault_in g file token 14) → AreSizes g foreign sizes → slice_get sizes n ≡ Some z → is_large z ≡ true → At g foreign (IsApart g foreign) n
        → At g foreign (λ t. TypeFault g foreign t e) n
    large_at sizes z token e same is sound got big apart' t at =
        let p = large_by t z big (sound.each n t z at got) in
        subst (λ (x : LayoutFault). TypeFault g foreign t x) (ap faults.TooLarge (place t at 14 ∙ ap (λ k. fault_in g file k 14) (sym same)) ∙ sym is) (spec.large (apart' t at) p.0 p.1 p.2)

    pub unknown_at : (token : ℕ) (e : LayoutFault) → first_of (unknown_among g foreign (members_of d)) ≡ Some token → e ≡ faults.Unknown (fault_in g file token 12) → At g foreign (IsApart g foreign) n → At g foreign (SizeFits g foreign) n
        → At g foreign (λ t. TypeFault g foreign t e) n
    unknown_at token e first is apart' fits t at =
        subst (λ (x : LayoutFault). TypeFault g foreign t x) (ap (λ k. faults.Unknown (fault_in g k token 12)) (of_file t at) ∙ sym is)
        (spec.unknown token (apart' t at) (fits t at) (first_is (unknown_in_type g foreign t) token (ap (λ (x : TypeDecl). first_of (unknown_among g foreign (members_of x))) (of_decl t at) ∙ first)))

    pub value_at : (token : ℕ) (e : LayoutFault) → first_of (wide_values d) ≡ Some token → e ≡ faults.TooLarge (fault_in g file token 14) → At g foreign (λ t. TypeFault g foreign t e) n
    value_at token e first is t at =
        subst (λ (x : LayoutFault). TypeFault g foreign t x) (ap (λ k. faults.TooLarge (fault_in g k token 14)) (of_file t at) ∙ sym is)
        (spec.value token (first_is (wide_values t.decl) token (ap (λ (x : TypeDecl). first_of (wide_values x)) (of_decl t at) ∙ first)))

    pub clean_at : At g foreign (IsApart g foreign) n → At g foreign (SizeFits g foreign) n → first_of (unknown_among g foreign (members_of d)) ≡ None → first_of (wide_values d) ≡ None → At g foreign (IsCleanType g foreign) n
    clean_at apart' fits unknown wide t at = record {
      apart = apart' t at;
      size = fits t at;
      known = first_empty (unknown_in_type g foreign t) (ap (λ (x : TypeDecl). first_of (unknown_among g foreign (members_of x))) (of_decl t at) ∙ unknown);
      values = first_empty (wide_values t.decl) (ap (λ (x : TypeDecl). first_of (wide_values x)) (of_decl t at) ∙ wide);
    }

  -- ---- all types

  pub apart_below : (n : ℕ) → Below g foreign (IsCleanType g foreign) n → Below g foreign (IsApart g foreign) n
  apart_below n clean k low t at = (clean k low t at).apart

  pub clean_more : (n : ℕ) → Below g foreign (IsCleanType g foreign) n → At g foreign (IsCleanType g foreign) n → Below g foreign (IsCleanType g foreign) (n + 1)
  clean_more n clean here k low t at = by (below_or_at k n low)
    where
      by : (k < n) ⊎ (k ≡ n) → IsCleanType g foreign t
      by (inl less) = clean k less t at
      by (inr e) = here t (ap (slice_get (types_of g)) (sym e) ∙ at)

  pub all_clean : (n : ℕ) → length (types_of g) ≤ n → Below g foreign (IsCleanType g foreign) n → All (IsCleanType g foreign) (types_of g)
  all_clean n high clean k d low = clean k (omega arith) (get_or (types_of g) k d) (slice_get-get_or (types_of g) k d low)

  pub first_fault : (n : ℕ) (e : LayoutFault) → n < length (types_of g) → Below g foreign (IsCleanType g foreign) n → At g foreign (λ t. TypeFault g foreign t e) n → FaultAmong (IsCleanType g foreign) (TypeFault g foreign) (types_of g) e
  first_fault n e low clean here =
      let p = some_at (types_of g) n low in
      fault_among (IsCleanType g foreign) (TypeFault g foreign) (types_of g) n p.0 e p.1 (λ k t less at. clean k less t at) (here p.0 p.1)
