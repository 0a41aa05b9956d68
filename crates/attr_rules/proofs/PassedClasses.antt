-- The classes of parameters that a run takes, and the sizes of their fields.
use Rattle.std.proofs.Common.{◌≡◌, ℕ, zero, suc, ◌≤◌, ◌⊎◌, inl, inr, Bool, true, false, true≢false, not, ◌&&◌, ◌||◌, ◌==◌, nat_lt, if◌then◌else◌, List, find, Option, Some, None, option_map, unwrap_or, codes, refl, sym, ap, ◌∙◌, subst, arith}
use Rattle.std.specs.List.{list_any}
use Rattle.std.specs.Str.{bytes_eq}
use Rattle.std.proofs.lemmas.Option.{same_Some}
use Rattle.std.proofs.lemmas.Bool.Decides.{nat_tests}
use Rattle.std.proofs.lemmas.Slice.Eq.{bytes_eq-Decides}
use Rattle.edl_grammar.specs.declared.Gathered.{Gathered}
use Rattle.edl_grammar.specs.declared.Declared.{Declared}
use Rattle.edl_grammar.specs.declared.Written.{Written}
use Rattle.edl_grammar.specs.declared.Base.{Base}
use Rattle.edl_grammar.specs.declared.Base.TheVariants as base
use Rattle.edl_grammar.specs.Files.{TypeIn, types_of}
use Rattle.edl_layout.specs.declared.NamedShape.{NamedShape}
use Rattle.edl_layout.specs.Shape.{Shape, address}
use Rattle.edl_layout.specs.Meaning.{Meaning, Empty, Real, Integer, Defined, Foreign, Opaque, Undeclared, standard_types, is_named, or_else, pointed}
use Rattle.edl_layout.specs.Frame.{has, is_array, is_pointer, is_by_address, is_measured, field_shape}
use Rattle.edl_interface.specs.declared.Class.{Class}
use Rattle.edl_interface.specs.declared.Class.TheVariants as class
use Rattle.edl_interface.specs.Parameters.{field_size, is_text}
use Rattle.edl_interface.specs.Runnable.{IsPassed}
use Rattle.attr_terms.specs.Attributes.{is_string, is_foreign_passed, is_integer_meaning, is_aggregate, is_char, is_wide, is_single_pointer, points_to, meant}
use Rattle.attr_terms.specs.Rules.{param_rows, is_pointer_attribute, is_large_result}
use Rattle.attr_terms.specs.Accepted.{opaque, plain_by, own_size, pointee_by, base_shape_by, base_shape, pointee_size, plain_of, size_of, shape_of, fixed_class, buffer_of, direction_of, class_of}
use Rattle.accepted_interface.proofs.Unbroken.{AreClean, row-clean, not-above}
use Rattle.accepted_interface.proofs.SoundLaws.{any-weaker, both-true, user_check-pointer, pointed-by}

or-right : (b c : Bool) → c ≡ true → (b || c) ≡ true
or-right true c e = refl
or-right false c e = e

or-none : (b c : Bool) → (b || c) ≡ false → (b ≡ false) × (c ≡ false)
or-none true c e = absurd (true≢false e)
or-none false c e = (refl, e)

or-both : (b c : Bool) → b ≡ false → c ≡ false → (b || c) ≡ false
or-both true c e k = absurd (true≢false e)
or-both false c e k = k

chosen : (P : Class → Type 0) (b : Bool) (x y : Class) → (b ≡ true → P x) → (b ≡ false → P y) → P (if b then x else y)
chosen P true x y h k = h refl
chosen P false x y h k = k refl

equal-one : (n : ℕ) (b : Bool) → (n == 1 && b) ≡ true → n ≡ 1
equal-one n b e = let one = both-true (n == 1) b e in is-one n one.0
  where
    is-one : (n : ℕ) → (n == 1) ≡ true → n ≡ 1
    is-one n e = grind (arith, nat_tests)

module _ (g : Gathered) (table : List NamedShape) where
  -- ---- the units of strings

  abbrev unit_by : Meaning → Base → ℕ
  unit_by m b = pointee_by m (unwrap_or (option_map (λ s. s.size) (base_shape_by g table (own_size m) b)) 0)

  char-unit : (b : Base) → is_char b ≡ true → unit_by (meant g b) b ≡ 1
  char-unit (base.Integer size signed) e = equal-one size signed e
  char-unit base.Void e = absurd (true≢false (sym e))
  char-unit base.Float e = absurd (true≢false (sym e))
  char-unit base.Double e = absurd (true≢false (sym e))
  char-unit (base.Bare name) e = absurd (true≢false (sym e))
  char-unit (base.Tagged tag name) e = absurd (true≢false (sym e))

  abbrev wide_by : Option TypeIn → Meaning
  wide_by d = or_else (option_map Defined d) (or_else (option_map (λ s. Integer s.size s.signed) (find (λ s. bytes_eq s.name (codes "wchar_t")) standard_types)) Opaque)

  wide-meant : (d : Option TypeIn) → is_integer_meaning (wide_by d) ≡ true → wide_by d ≡ Integer 4 true
  wide-meant None e = refl
  wide-meant (Some c) e = absurd (true≢false (sym e))

  wide-name : (name : List ℕ) → name ≡ codes "wchar_t" → is_integer_meaning (meant g (base.Bare name)) ≡ true → meant g (base.Bare name) ≡ Integer 4 true
  wide-name name is e =
      ap (λ n. meant g (base.Bare n)) is ∙ wide-meant (find (is_named (codes "wchar_t")) (types_of g)) (sym (ap (λ n. is_integer_meaning (meant g (base.Bare n))) is) ∙ e)

  wide-unit : (b : Base) → is_wide g b ≡ true → unit_by (meant g b) b ≡ 4
  wide-unit (base.Bare name) e =
      let parts = both-true (bytes_eq name (codes "wchar_t")) (is_integer_meaning (meant g (base.Bare name))) e in
      ap (λ m. unit_by m (base.Bare name)) (wide-name name ((bytes_eq-Decides name (codes "wchar_t")).0 parts.0) parts.1)
  wide-unit (base.Integer size signed) e = absurd (true≢false (sym e))
  wide-unit base.Void e = absurd (true≢false (sym e))
  wide-unit base.Float e = absurd (true≢false (sym e))
  wide-unit base.Double e = absurd (true≢false (sym e))
  wide-unit (base.Tagged tag name) e = absurd (true≢false (sym e))

  unit-of : (test : Base → Bool) (n : ℕ) → ((b : Base) → test b ≡ true → unit_by (meant g b) b ≡ n) → (p : Declared) → points_to g test p ≡ true → pointee_size g table p.written ≡ n
  unit-of test n units p e =
      let parts = both-true (is_single_pointer p) (test p.written.base) e in
      let single = both-true (not (is_array p)) (p.written.stars == 1) parts.0 in
      ap (λ b. if b then unit_by (meant g p.written.base) p.written.base else 8) single.1 ∙ units p.written.base parts.1

  either-unit : (narrow wide char other : Bool) → (narrow || wide) ≡ true → ((narrow && not char) || (wide && not other)) ≡ false → (char ≡ true) ⊎ (other ≡ true)
  either-unit true wide true other e h = inl refl
  either-unit true wide false other e h = absurd (true≢false h)
  either-unit false true char true e h = inr refl
  either-unit false true char false e h = absurd (true≢false h)
  either-unit false false char other e h = absurd (true≢false (sym e))

  unit-by : (n : ℕ) (p : Declared) → pointee_size g table p.written ≡ n → (points_to g is_char p ≡ true) ⊎ (points_to g (is_wide g) p ≡ true) → (n ≡ 1) ⊎ (n ≡ 4)
  unit-by n p is (inl e) = inl (sym is ∙ unit-of is_char 1 char-unit p e)
  unit-by n p is (inr e) = inr (sym is ∙ unit-of (is_wide g) 4 wide-unit p e)

  -- ---- sizes of plain values

  plain-by-size : (m : Meaning) (size : ℕ) → (plain_by m size).size ≡ size
  plain-by-size (Integer n signed) size = by (nat_lt 8 n)
    where
      by : (b : Bool) → (if b then opaque size else record { size = size; integer = true; signed = signed }).size ≡ size
      by true = refl
      by false = refl
  plain-by-size Empty size = refl
  plain-by-size (Real n) size = refl
  plain-by-size (Defined d) size = refl
  plain-by-size (Foreign s) size = refl
  plain-by-size Opaque size = refl
  plain-by-size Undeclared size = refl

  pub plain-size : (w : Written) → (plain_of g table w).size ≡ size_of g table w
  plain-size w = by (w.stars == 0)
    where
      by : (b : Bool) → (if b then plain_by (meant g w.base) (size_of g table w) else opaque (size_of g table w)).size ≡ size_of g table w
      by true = plain-by-size (meant g w.base) (size_of g table w)
      by false = refl

  -- a result that is not too large
  abbrev size-by : ℕ → Base → ℕ
  size-by stars b = unwrap_or (option_map (λ s. s.size) (pointed stars (base_shape g table b))) 0

  pub small-result : (w : Written) → is_large_result g (size_of g table) w ≡ false → size_of g table w ≤ 8
  small-result w e = by w.stars e
    where
      by : (n : ℕ) → (n == 0 && (is_aggregate (meant g w.base) || nat_lt 8 (size-by n w.base))) ≡ false → size-by n w.base ≤ 8
      by zero e = not-above 8 (size-by 0 w.base) (or-none (is_aggregate (meant g w.base)) (nat_lt 8 (size-by 0 w.base)) e).1
      by (suc n) e = omega arith

  module _ (ps : List Declared) (p : Declared) (rows : AreClean (param_rows g true ps p)) where
    pub not-foreign : is_foreign_passed p ≡ false
    not-foreign = row-clean 38 p.token _ rows.1.1.1.1.1.1.1.1.1.1.1.1.1.1.1.1.1.1.1.0

    unchecked-pointer : has "user_check" p ≡ true → is_by_address p ≡ true
    unchecked-pointer e = by (is_by_address p) refl
      where
        by : (b : Bool) → is_by_address p ≡ b → is_by_address p ≡ true
        by true h = h
        by false h =
            let any : list_any is_pointer_attribute p.attrs ≡ false = pointed-by g table true (is_by_address p) (is_foreign_passed p) (list_any is_pointer_attribute p.attrs) h not-foreign (row-clean 20 p.token _ rows.1.1.1.1.1.0) in
            let none : has "user_check" p ≡ false = any-weaker (λ a. bytes_eq a.name (codes "user_check")) is_pointer_attribute p.attrs (user_check-pointer g table true) any in
            absurd (true≢false (sym e ∙ none))

    -- what holds of each class that is left holds of the parameter's
    class-cases : (P : Class → Type 0) → (is_by_address p ≡ true → P class.UserCheck) → (is_by_address p ≡ true → P (fixed_class g table p)) → (is_by_address p ≡ true → is_string p ≡ true → P (class.Text (direction_of p) (pointee_size g table p.written)))
        → (is_by_address p ≡ true → P (buffer_of g table ps p)) → (is_by_address p ≡ false → P (class.Plain (plain_of g table p.written))) → P (class_of g table ps p)
    class-cases P user fixed text buffer plain =
        chosen P (is_foreign_passed p) _ _ (λ e. absurd (true≢false (sym e ∙ not-foreign)))
        (λ e. chosen P (has "user_check" p) _ _ (λ e. user (unchecked-pointer e))
        (λ e. chosen P (is_array p) _ _ (λ a. fixed (or-right (is_pointer p) (is_array p) a))
        (λ a. chosen P (is_pointer p) _ _
        (λ s. chosen P (is_string p) _ _ (λ t. text (ap (λ b. b || is_array p) s) t) (λ t. buffer (ap (λ b. b || is_array p) s)))
        (λ s. plain (or-both (is_pointer p) (is_array p) s a)))))

    pub class-passed : IsPassed (class_of g table ps p)
    class-passed =
        class-cases IsPassed (λ a. tt) (λ a. tt)
        (λ a t. unit-by (pointee_size g table p.written) p refl (either-unit (has "string" p) (has "wstring" p) (points_to g is_char p) (points_to g (is_wide g) p) t (row-clean 28 p.token _ rows.1.1.1.1.1.1.1.1.1.1.1.1.1.0)))
        (λ a. tt) (λ a. tt)

    -- ---- the field of a class, and the length behind it

    pub record IsHeld (t : Bool) (s : Shape) (c : Class) : Type 0 where
      pub size : field_size c ≤ s.size
      pub length : t ≡ true → is_text c ≡ true → is_measured t p ≡ true

    address-size : (s : Shape) → field_shape (shape_of g table) p ≡ Some s → is_by_address p ≡ true → 8 ≤ s.size
    address-size s is a =
        subst (λ (z : Shape). 8 ≤ z.size) (same_Some address s (sym (ap (λ b. if b || has "isary" p then Some address else shape_of g table p.written) a) ∙ is)) (omega arith)

    plain-held : (s : Shape) → field_shape (shape_of g table) p ≡ Some s → is_by_address p ≡ false → (plain_of g table p.written).size ≤ s.size
    plain-held s is a =
        let array : has "isary" p ≡ false = (or-none (has "isptr" p) (has "isary" p) not-foreign).1 in
        let shape : shape_of g table p.written ≡ Some s = sym (ap (λ b. if b then Some address else shape_of g table p.written) (or-both (is_by_address p) (has "isary" p) a array)) ∙ is in
        let size : (plain_of g table p.written).size ≡ s.size = plain-size p.written ∙ ap (λ o. unwrap_or (option_map (λ z. z.size) o) 0) shape in
        omega arith

    pub class-held : (t : Bool) (s : Shape) → field_shape (shape_of g table) p ≡ Some s → IsHeld t s (class_of g table ps p)
    class-held t s is =
        class-cases (IsHeld t s)
        (λ a. record { size = address-size s is a; length = λ e text. absurd (true≢false (sym text)) })
        (λ a. record { size = address-size s is a; length = λ e text. absurd (true≢false (sym text)) })
        (λ a string. record { size = address-size s is a; length = λ e text i. e i && a i && string i })
        (λ a. record { size = address-size s is a; length = λ e text. absurd (true≢false (sym text)) })
        (λ a. record { size = plain-held s is a; length = λ e text. absurd (true≢false (sym text)) })
