-- An interface without a broken rule is sound.
use Rattle.std.proofs.Common.{◌≡◌, ℕ, zero, suc, ◌≤◌, Bool, true, false, true≢false, not, ◌&&◌, ◌||◌, ◌==◌, cond, if◌then◌else◌, nat_lt, List, [], ◌∷◌, ◌++◌, filter, find, Option, Some, None, option_map, unwrap_or, refl, sym, ap, ◌∙◌, subst, arith, codes}
use Rattle.std.specs.Prelude.{filter_map, slice_get, All, position, option_and_then}
use Rattle.std.specs.List.{cons_option, list_any}
use Rattle.std.specs.Str.{bytes_eq}
use Rattle.std.proofs.lemmas.Option.{none-some, same_Some}
use Rattle.std.proofs.lemmas.Bool.Decides.{nat_tests}
use Rattle.std.proofs.lemmas.List.Elements.{All-nil, All-cons, All-head, All-tail}
use Rattle.std.proofs.lemmas.Slice.Eq.{bytes_eq-Decides}
use Rattle.edl_grammar.specs.declared.Gathered.{Gathered}
use Rattle.edl_grammar.specs.declared.Attribute.{Attribute}
use Rattle.edl_grammar.specs.declared.AttrValue.{AttrValue}
use Rattle.edl_grammar.specs.declared.AttrValue.TheVariants as value
use Rattle.edl_grammar.specs.declared.NameAt.{NameAt}
use Rattle.edl_grammar.specs.declared.Declared.{Declared}
use Rattle.edl_grammar.specs.declared.Written.{Written}
use Rattle.edl_grammar.specs.declared.Base.{Base}
use Rattle.edl_layout.specs.declared.NamedShape.{NamedShape}
use Rattle.edl_layout.specs.Shape.{Shape}
use Rattle.edl_layout.specs.Meaning.{Meaning, Empty, Real, Integer, Defined, Foreign, Opaque, Undeclared, pointed}
use Rattle.edl_layout.specs.Frame.{has, is_array, is_pointer, is_by_address, param_fields}
use Rattle.edl_interface.specs.declared.Class.{Class}
use Rattle.edl_interface.specs.declared.Class.TheVariants as class
use Rattle.edl_interface.specs.declared.Param.{Param}
use Rattle.attr_terms.specs.Attributes.{with_value, is_among, named, amount_name, is_string, is_foreign_passed, is_integer_meaning, is_foreign_meaning, meant, is_integer}
use Rattle.edl_interface.specs.Parameters.{IsWordSized}
use Rattle.edl_interface.specs.Sound.{IsIntegerAt, IsSoundAmount, IsSoundClass}
use Rattle.attr_terms.specs.Rules.{param_rows, first_named, not_integer, is_pointer_attribute, unknown_amounts, other_amounts}
use Rattle.attr_terms.specs.Accepted.{opaque, plain_by, own_size, plain_of, size_of, base_shape_by, shape_of, amount_by, place_of, class_of, param_behind, params_from}
use Rattle.attr_terms.proofs.PlaceLaws.{found_at}
use Rattle.accepted_interface.proofs.Unbroken.{AreClean, nil-map, nil-first, row-clean}

-- ---- lists

pub found-passes : {X : Type 0} (p : X → Bool) (xs : List X) (x : X) → find p xs ≡ Some x → p x ≡ true
found-passes p [] x e = absurd (none-some x e)
found-passes {X} p (y ∷ ys) x e = by (p y) refl e (found-passes p ys x)
  where
    by : (b : Bool) → p y ≡ b → cond b (Some y) (find p ys) ≡ Some x → (find p ys ≡ Some x → p x ≡ true) → p x ≡ true
    by true h e rest = sym (ap p (same_Some y x e)) ∙ h
    by false h e rest = rest e

pub found-any : {X : Type 0} (p : X → Bool) (xs : List X) → list_any p xs ≡ true → (x : X) × (find p xs ≡ Some x)
found-any p [] e = absurd (true≢false (sym e))
found-any {X} p (y ∷ ys) e = by (p y) e (found-any p ys)
  where
    by : (b : Bool) → (b || list_any p ys) ≡ true → (list_any p ys ≡ true → (x : X) × (find p ys ≡ Some x)) → (x : X) × (cond b (Some y) (find p ys) ≡ Some x)
    by true e rest = (y, refl)
    by false e rest = rest e

pub any-weaker : {X : Type 0} (p q : X → Bool) (xs : List X) → ((x : X) → p x ≡ true → q x ≡ true) → list_any q xs ≡ false → list_any p xs ≡ false
any-weaker p q [] h e = refl
any-weaker {X} p q (y ∷ ys) h e = by (p y) (q y) (h y) e (any-weaker p q ys h)
  where
    by : (b c : Bool) → (b ≡ true → c ≡ true) → (c || list_any q ys) ≡ false → (list_any q ys ≡ false → list_any p ys ≡ false) → (b || list_any p ys) ≡ false
    by true c k e rest = absurd (true≢false (sym (ap (λ d. d || list_any q ys) (k refl)) ∙ e))
    by false true k e rest = absurd (true≢false e)
    by false false k e rest = rest e

pub get-All : {X : Type 0} (P : X → Type 0) (xs : List X) (i : ℕ) (x : X) → All P xs → slice_get xs i ≡ Some x → P x
get-All P [] i x h e = absurd (none-some x e)
get-All P (y ∷ ys) zero x h e = subst P (same_Some y x e) (All-head P y ys h)
get-All P (y ∷ ys) (suc i) x h e = get-All P ys i x (All-tail P y ys h) e

pub not-true : (b : Bool) → not b ≡ false → b ≡ true
not-true true e = refl
not-true false e = absurd (true≢false e)

pub both-true : (b c : Bool) → (b && c) ≡ true → (b ≡ true) × (c ≡ true)
both-true true c e = (refl, e)
both-true false c e = absurd (true≢false (sym e))

-- ---- the names in amounts

amount-tested : (Q : NameAt → Bool) (attr : List ℕ) (attrs : List Attribute) (a : Attribute) (x : NameAt)
    → filter Q (filter_map amount_name attrs) ≡ [] → find (λ b. bytes_eq b.name attr) attrs ≡ Some a → amount_name a ≡ Some x → Q x ≡ false
amount-tested Q attr [] a x none found name = absurd (none-some a found)
amount-tested Q attr (b ∷ bs) a x none found name = by (bytes_eq b.name attr) (amount_name b) refl none found (λ n f. amount-tested Q attr bs a x n f name)
  where
    tested : (y : NameAt) (rest : List NameAt) → filter Q (y ∷ rest) ≡ [] → (Q y ≡ false) × (filter Q rest ≡ [])
    tested y rest e = pick (Q y) refl e
      where
        pick : (c : Bool) → Q y ≡ c → cond c (y ∷ filter Q rest) (filter Q rest) ≡ [] → (Q y ≡ false) × (filter Q rest ≡ [])
        pick true h e = cc
        pick false h e = (h, e)

    by : (c : Bool) (o : Option NameAt) → amount_name b ≡ o → filter Q (cons_option o (filter_map amount_name bs)) ≡ [] → cond c (Some b) (find (λ z. bytes_eq z.name attr) bs) ≡ Some a
        → (filter Q (filter_map amount_name bs) ≡ [] → find (λ z. bytes_eq z.name attr) bs ≡ Some a → Q x ≡ false) → Q x ≡ false
    by true None is none found rest = absurd (none-some x (sym is ∙ ap amount_name (same_Some b a found) ∙ name))
    by true (Some y) is none found rest =
        let here : y ≡ x = same_Some y x (sym is ∙ ap amount_name (same_Some b a found) ∙ name) in
        subst (λ z. Q z ≡ false) here (tested y (filter_map amount_name bs) none).0
    by false None is none found rest = rest none found
    by false (Some y) is none found rest = rest (tested y (filter_map amount_name bs) none).1 found

amount-named : (attr : List ℕ) (a : Attribute) (x : NameAt) → is_among with_value attr ≡ true → bytes_eq a.name attr ≡ true → a.value ≡ Some (value.Named x) → amount_name a ≡ Some x
amount-named attr a x among name is =
    let same : a.name ≡ attr = (bytes_eq-Decides a.name attr).0 name in
    let known : is_among with_value a.name ≡ true = ap (is_among with_value) same ∙ among in
    rw known (ap named is)

module _ (g : Gathered) (table : List NamedShape) (runner : Bool) where
  -- ---- integers

  plain-integer : (m : Meaning) (size : ℕ) → is_integer_meaning m ≡ true → (plain_by m size).integer ≡ true
  plain-integer (Integer n signed) size e = by (nat_lt 8 n) e
    where
      by : (b : Bool) → not b ≡ true → (if b then opaque size else record { size = size; integer = true; signed = signed }).integer ≡ true
      by true e = absurd (true≢false (sym e))
      by false e = refl
  plain-integer Empty size e = absurd (true≢false (sym e))
  plain-integer (Real n) size e = absurd (true≢false (sym e))
  plain-integer (Defined d) size e = absurd (true≢false (sym e))
  plain-integer (Foreign s) size e = absurd (true≢false (sym e))
  plain-integer Opaque size e = absurd (true≢false (sym e))
  plain-integer Undeclared size e = absurd (true≢false (sym e))

  integer-known : (m : Meaning) → is_integer_meaning m ≡ true → is_foreign_meaning m ≡ false
  integer-known (Integer n signed) e = refl
  integer-known Empty e = refl
  integer-known (Real n) e = refl
  integer-known (Defined d) e = refl
  integer-known (Foreign s) e = refl
  integer-known Opaque e = absurd (true≢false (sym e))
  integer-known Undeclared e = refl

  no-star : (n : ℕ) → nat_lt 0 n ≡ false → (n == 0) ≡ true
  no-star zero e = refl
  no-star (suc n) e = grind (arith, nat_tests)

  -- a pointer attribute is one that only a pointer has
  pub user_check-pointer : (a : Attribute) → bytes_eq a.name (codes "user_check") ≡ true → is_pointer_attribute a ≡ true
  user_check-pointer a e =
      let same : a.name ≡ codes "user_check" = (bytes_eq-Decides a.name (codes "user_check")).0 e in
      subst (λ n. not (is_among (codes "isptr" ∷ codes "isary" ∷ codes "readonly" ∷ []) n) ≡ true) (sym same) refl

  apart-by : (address pointer array : Bool) → address ≡ (pointer || array) → not address ≡ true → (pointer ≡ false) × (array ≡ false)
  apart-by address true array e h = absurd (true≢false (sym h ∙ ap not e))
  apart-by address false true e h = absurd (true≢false (sym h ∙ ap not e))
  apart-by address false false e h = (refl, refl)

  foreign-by : (passed address known both : Bool) → address ≡ false → known ≡ false → (passed && (not (not address && known) || both)) ≡ false → passed ≡ false
  foreign-by true address known both a k e = absurd (true≢false (sym (ap (λ b. not (not b && known) || both) a ∙ ap (λ b. not b || both) k) ∙ e))
  foreign-by false address known both a k e = refl

  pub pointed-by : (address passed any : Bool) → address ≡ false → passed ≡ false → (not address && not passed && any) ≡ false → any ≡ false
  pointed-by address passed any a p e = sym (ap (λ b. not b && not passed && any) a ∙ ap (λ b. not b && any) p) ∙ e

  false-from-not : (b : Bool) → not b ≡ true → b ≡ false
  false-from-not true e = absurd (true≢false (sym e))
  false-from-not false e = refl

  -- a plain integer without a broken rule is passed as an integer
  pub integer-class : (ps : List Declared) (q : Declared) → AreClean (param_rows g runner ps q) → is_integer g q ≡ true
      → (class_of g table ps q ≡ class.Plain (plain_of g table q.written)) × ((plain_of g table q.written).integer ≡ true)
  integer-class ps q rows e =
      let parts = both-true (not (is_by_address q)) (is_integer_meaning (meant g q.written.base)) e in
      let address : is_by_address q ≡ false = false-from-not (is_by_address q) parts.0 in
      let apart = apart-by (is_by_address q) (is_pointer q) (is_array q) refl parts.0 in
      let known : is_foreign_meaning (meant g q.written.base) ≡ false = integer-known (meant g q.written.base) parts.1 in
      let passed : is_foreign_passed q ≡ false = foreign-by (is_foreign_passed q) (is_by_address q) (is_foreign_meaning (meant g q.written.base)) (has "isptr" q && has "isary" q) address known (row-clean 37 q.token _ rows.1.1.1.1.1.1.1.1.1.1.1.1.1.1.1.1.1.1.0) in
      let any : list_any is_pointer_attribute q.attrs ≡ false = pointed-by (is_by_address q) (is_foreign_passed q) (list_any is_pointer_attribute q.attrs) address passed (row-clean 20 q.token _ rows.1.1.1.1.1.0) in
      let unchecked : has "user_check" q ≡ false = any-weaker (λ a. bytes_eq a.name (codes "user_check")) is_pointer_attribute q.attrs user_check-pointer any in
      let stars : (q.written.stars == 0) ≡ true = no-star q.written.stars apart.0 in
      (rw (passed, unchecked, apart.1, apart.0) refl, ap (λ b. (if b then plain_by (meant g q.written.base) (size_of g table q.written) else opaque (size_of g table q.written)).integer) stars ∙ plain-integer (meant g q.written.base) (size_of g table q.written) parts.1)

  -- ---- the parameters in order

  pub params-at : (t : Bool) (all ps : List Declared) (fields : List (Option Shape)) (i : ℕ) (q : Declared) → slice_get ps i ≡ Some q
      → (before : List (Option Shape)) × (slice_get (params_from g table t all fields ps) i ≡ Some (param_behind g table all before q))
  params-at t all [] fields i q e = absurd (none-some q e)
  params-at t all (p ∷ ps) fields zero q e = (fields, ap (λ d. Some (param_behind g table all fields d)) (same_Some p q e))
  params-at t all (p ∷ ps) fields (suc i) q e = params-at t all ps (fields ++ param_fields (shape_of g table) t p) i q e

  pub params-all : (P : Param → Type 0) (Q : Declared → Type 0) (t : Bool) (all ps : List Declared) (fields : List (Option Shape))
      → ((q : Declared) (before : List (Option Shape)) → Q q → P (param_behind g table all before q)) → All Q ps → All P (params_from g table t all fields ps)
  params-all P Q t all [] fields h a = All-nil P
  params-all P Q t all (p ∷ ps) fields h a =
      All-cons P _ _ (h p fields (All-head Q p ps a)) (params-all P Q t all ps (fields ++ param_fields (shape_of g table) t p) h (All-tail Q p ps a))

  -- ---- amounts

  place-by : (ps : List Declared) (name : List ℕ) (q : Declared) (o : Option ℕ) → option_and_then (λ i. slice_get ps i) o ≡ Some q → slice_get ps (unwrap_or o 0) ≡ Some q
  place-by ps name q None e = absurd (none-some q e)
  place-by ps name q (Some i) e = e

  place-found : (ps : List Declared) (name : List ℕ) (q : Declared) → find (λ d. bytes_eq d.name name) ps ≡ Some q → slice_get ps (place_of name ps) ≡ Some q
  place-found ps name q e = place-by ps name q (position (λ d. bytes_eq d.name name) ps) (sym (found_at (λ d. bytes_eq d.name name) ps) ∙ e)

  module _ (t : Bool) (ps : List Declared) (fields : List (Option Shape)) (rows : All (λ p. AreClean (param_rows g runner ps p)) ps) where
    integer-at : (name : List ℕ) → list_any (λ d. bytes_eq d.name name) ps ≡ true → not_integer g (first_named ps name) ≡ false → IsIntegerAt (params_from g table t ps fields ps) (place_of name ps)
    integer-at name any whole =
        let found = found-any (λ d. bytes_eq d.name name) ps any in
        let at : slice_get ps (place_of name ps) ≡ Some found.0 = place-found ps name found.0 found.1 in
        let whole_one : is_integer g found.0 ≡ true = not-true (is_integer g found.0) (sym (ap (not_integer g) found.1) ∙ whole) in
        let passed = integer-class ps found.0 (get-All (λ p. AreClean (param_rows g runner ps p)) ps (place_of name ps) found.0 rows at) whole_one in
        let there = params-at t ps ps fields (place_of name ps) found.0 at in
        (param_behind g table ps there.0 found.0, plain_of g table found.0.written, there.1, passed.0, passed.1)

    named-by : (p : Declared) (attr : List ℕ) (a : Attribute) (x : NameAt) → is_among with_value attr ≡ true → AreClean (param_rows g runner ps p)
        → find (λ b. bytes_eq b.name attr) p.attrs ≡ Some a → a.value ≡ Some (value.Named x) → IsIntegerAt (params_from g table t ps fields ps) (place_of x.name ps)
    named-by p attr a x among clean found is =
        let name : amount_name a ≡ Some x = amount-named attr a x among (found-passes (λ b. bytes_eq b.name attr) p.attrs a found) is in
        let unknown = nil-map (λ (y : NameAt). y.token) _ (nil-first (unknown_amounts ps p) clean.1.1.1.1.1.1.1.1.1.1.0) in
        let other = nil-map (λ (y : NameAt). y.token) _ (nil-first (other_amounts g ps p) clean.1.1.1.1.1.1.1.1.1.1.1.0) in
        integer-at x.name
        (not-true _ (amount-tested (λ y. not (list_any (λ q. bytes_eq q.name y.name) ps)) attr p.attrs a x unknown found name))
        (amount-tested (λ y. not_integer g (first_named ps y.name)) attr p.attrs a x other found name)

    value-by : (p : Declared) (attr : List ℕ) (a : Attribute) (default : ℕ) (v : Option AttrValue) → is_among with_value attr ≡ true → AreClean (param_rows g runner ps p)
        → find (λ b. bytes_eq b.name attr) p.attrs ≡ Some a → a.value ≡ v → IsSoundAmount (params_from g table t ps fields ps) (amount_by ps default (Some v))
    value-by p attr a default None among clean found is = tt
    value-by p attr a default (Some (value.Number n)) among clean found is = tt
    value-by p attr a default (Some (value.Named x)) among clean found is = named-by p attr a x among clean found is

    amount-by : (p : Declared) (attr : List ℕ) (default : ℕ) (o : Option Attribute) → is_among with_value attr ≡ true → AreClean (param_rows g runner ps p)
        → find (λ b. bytes_eq b.name attr) p.attrs ≡ o → IsSoundAmount (params_from g table t ps fields ps) (amount_by ps default (option_map (λ a. a.value) o))
    amount-by p attr default None among clean found = tt
    amount-by p attr default (Some a) among clean found = value-by p attr a default a.value among clean found refl

    either : (b : Bool) (x y : Class) → IsSoundClass (params_from g table t ps fields ps) x → IsSoundClass (params_from g table t ps fields ps) y → IsSoundClass (params_from g table t ps fields ps) (if b then x else y)
    either true x y h k = h
    either false x y h k = k

    pub class-sound : (p : Declared) → AreClean (param_rows g runner ps p) → IsSoundClass (params_from g table t ps fields ps) (class_of g table ps p)
    class-sound p clean =
        let size = amount-by p (codes "size") _ (find (λ b. bytes_eq b.name (codes "size")) p.attrs) refl clean refl in
        let count = amount-by p (codes "count") 1 (find (λ b. bytes_eq b.name (codes "count")) p.attrs) refl clean refl in
        either (is_foreign_passed p) _ _ tt (either (has "user_check" p) _ _ tt (either (is_array p) _ _ tt (either (is_pointer p) _ _ (either (is_string p) _ _ tt (size, count)) tt)))

  -- ---- words

  abbrev size-by : (stars : ℕ) (own : Option ℕ) (b : Base) → ℕ
  size-by stars own b = unwrap_or (option_map (λ s. s.size) (pointed stars (base_shape_by g table own b))) 0

  word-by : (w : Written) (m : Meaning) (stars : Bool) → meant g w.base ≡ m → (w.stars == 0) ≡ stars
      → IsWordSized (class.Plain (if stars then plain_by m (size_of g table w) else opaque (size_of g table w)))
  word-by w m false is star = λ h. absurd (true≢false (sym h))
  word-by w (Integer n signed) true is star = by (nat_lt 8 n) refl
    where
      sized : (stars : ℕ) → (stars == 0) ≡ true → size-by stars (Some n) w.base ≡ n
      sized zero e = refl
      sized (suc k) e = grind (arith, nat_tests)

      by : (b : Bool) → nat_lt 8 n ≡ b → IsWordSized (class.Plain (if b then opaque (size_of g table w) else record { size = size_of g table w; integer = true; signed = signed }))
      by true e = λ h. absurd (true≢false (sym h))
      by false e = λ h. subst (λ k. k ≤ 8) (sym (ap (λ o. size-by w.stars (own_size o) w.base) is ∙ sized w.stars star)) (grind (arith, nat_tests))
  word-by w Empty true is star = λ h. absurd (true≢false (sym h))
  word-by w (Real n) true is star = λ h. absurd (true≢false (sym h))
  word-by w (Defined d) true is star = λ h. absurd (true≢false (sym h))
  word-by w (Foreign s) true is star = λ h. absurd (true≢false (sym h))
  word-by w Opaque true is star = λ h. absurd (true≢false (sym h))
  word-by w Undeclared true is star = λ h. absurd (true≢false (sym h))

  one-word : (b : Bool) (x y : Class) → IsWordSized x → IsWordSized y → IsWordSized (if b then x else y)
  one-word true x y h k = h
  one-word false x y h k = k

  pub class-word : (ps : List Declared) (p : Declared) → IsWordSized (class_of g table ps p)
  class-word ps p =
      one-word (is_foreign_passed p) _ _ tt (one-word (has "user_check" p) _ _ tt (one-word (is_array p) _ _ tt (one-word (is_pointer p) _ _ (one-word (is_string p) _ _ tt tt) (word-by p.written (meant g p.written.base) (p.written.stars == 0) refl refl))))
