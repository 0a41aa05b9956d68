-- The sizes, counts, types and arguments that bridges print do not name a word that their author does not.
use Rattle.std.proofs.Common.{ℕ, zero, suc, ◌+◌, ◌%◌, ◌/◌, ◌<◌, ◌≡◌, Bool, true, false, List, [], ◌∷◌, ◌++◌, Option, Some, None, refl, ap, ◌∙◌, append_assoc, append-nil, arith}
use Rattle.std.specs.Prelude.{◌||◌, ◌&&◌, ◌-◌, if◌then◌else◌, cond, nat_lt, nat_eq, ◌==◌, map, replicate, find, option_map, option_and_then, codes, decimal}
use Rattle.std.specs.List.{list_any, AllByRecursion}
use Rattle.std.specs.Str.{bytes_eq}
use Rattle.std.specs.Fmt.{digits, digits_onto, digit_glyph}
use Rattle.std.specs.Int.Digits.{digits_of}
use Rattle.std.proofs.lemmas.Bool.Decides.{nat_tests}
use Rattle.std.proofs.lemmas.Int.Digits.{all_below_base_digits_of}
use Rattle.edl_grammar.specs.declared.AttrValue.{AttrValue}
use Rattle.edl_grammar.specs.declared.AttrValue.TheVariants as value
use Rattle.edl_grammar.specs.declared.Attribute.{Attribute}
use Rattle.edl_grammar.specs.declared.Declared.{Declared}
use Rattle.edl_grammar.specs.declared.Written.{Written}
use Rattle.edl_layout.specs.Shape.{elements}
use Rattle.edl_layout.specs.Frame.{has, is_array, is_void}
use Rattle.attr_terms.specs.Attributes.{is_string}
use Rattle.bridge_text.specs.Template.{joined_by, with_commas}
use Rattle.bridge_text.specs.Products.{digit_bytes, product_text}
use Rattle.bridge_text.specs.Declarations.{spelled, type_text}
use Rattle.bridge_text.specs.Bridges.{is_marshalled, named, value_text, amount_text, written_or, size_of, element_text, text_size, size_text, count_text, argument, length_templates, outside_templates}
use Rattle.stub_laws.specs.Words.{is_word_byte, names_behind, names, value_names, param_names}
use Rattle.stub_laws.proofs.WordLaws.{neither, first_not, second_not, IsOther, other_longer, other_alone, other_begun, begins, between, behind}
use Rattle.stub_laws.proofs.TemplateLaws.{begun, is_clear, are_clear, clear_silent}

-- a word that expressions do not have of themselves, and the lines up to the checks do not have either
pub record IsApart (w : List ℕ) : Type 0 where
  pub some : bytes_eq [] w ≡ false
  pub first : ℕ
  pub others : List ℕ
  pub is : w ≡ first ∷ others
  pub letter : 57 < first
  pub size_of : bytes_eq (codes "sizeof") w ≡ false
  pub cast : bytes_eq (codes "size_t") w ≡ false
  pub frame : bytes_eq (codes "ms") w ≡ false
  pub field : begins (codes "ms_") w ≡ false
  pub copy : begins (codes "in_") w ≡ false
  pub text_length : is_clear w (begun []) (codes "ms.ms_$P_len") ≡ true
  pub lengths : are_clear w (map codes length_templates) ≡ true
  pub outside : are_clear w (map codes outside_templates) ≡ true

-- ---- digits

pub record IsDigit (b : ℕ) : Type 0 where
  pub digit : ℕ
  pub small : digit < 10
  pub is : b ≡ 48 + digit

word_of_digit : (d : ℕ) → d < 10 → is_word_byte (48 + d) ≡ true
word_of_digit d h = grind (arith, nat_tests)

not_letter : (d c : ℕ) → d < 10 → 57 < c → nat_eq (48 + d) c ≡ false
not_letter d c h k = grind (arith, nat_tests)

abbrev pub AreDigits : List ℕ → Type 0
AreDigits ds = AllByRecursion IsDigit ds

digits_behind : (w x ds : List ℕ) → IsOther w x → AreDigits ds → names_behind w x ds ≡ false
digits_behind w x [] o h = other_alone w x o
digits_behind w x (b ∷ ds) o (d, h) =
    let word : is_word_byte b ≡ true = ap is_word_byte d.is ∙ word_of_digit d.digit d.small in
    rw word (digits_behind w (x ++ b ∷ []) ds (other_longer w x (b ∷ []) o) h)

digits_silent : (w ds : List ℕ) → IsApart w → AreDigits ds → names w ds ≡ false
digits_silent w [] a h = a.some
digits_silent w (b ∷ ds) a (d, h) =
    let word : is_word_byte b ≡ true = ap is_word_byte d.is ∙ word_of_digit d.digit d.small in
    let apart : begins (b ∷ []) w ≡ false = rw (a.is, d.is, not_letter d.digit a.first d.small a.letter) refl in
    rw word (digits_behind w (b ∷ []) ds (other_begun w (b ∷ []) apart) h)

glyph : (n : ℕ) → IsDigit (digit_glyph false (n % 10))
glyph n =
    let below : n % 10 < 10 = omega arith in
    let test : nat_lt (n % 10) 10 ≡ true = grind (arith, nat_tests) in
    record { digit = n % 10; small = below; is = rw test refl }

onto_digits : (k n : ℕ) (acc : List ℕ) → AreDigits acc → AreDigits (digits_onto k 10 false n acc)
onto_digits zero n acc h = h
onto_digits (suc k) n acc h = go (n / 10 == 0)
    (onto_digits k (n / 10) (digit_glyph false (n % 10) ∷ acc) (glyph n, h))
  where
    go : (t : Bool) → AreDigits (digits_onto k 10 false (n / 10) (digit_glyph false (n % 10) ∷ acc))
        → AreDigits (if t then digit_glyph false (n % 10) ∷ acc else digits_onto k 10 false (n / 10) (digit_glyph false (n % 10) ∷ acc))
    go true r = (glyph n, h)
    go false r = r

decimal_digits : (n : ℕ) → AreDigits (decimal n)
unfolding digits
decimal_digits n = onto_digits 64 n [] tt

bytes_of : (ds : List ℕ) → AllByRecursion (λ d. d < 10) ds → AreDigits (map (λ d. 48 + d) ds)
bytes_of [] h = tt
bytes_of (d ∷ ds) (k, h) = (record { digit = d; small = k; is = refl }, bytes_of ds h)

bytes_digits : (n : ℕ) → AreDigits (digit_bytes n)
unfolding digit_bytes
bytes_digits n = bytes_of (digits_of 10 n) (all_below_base_digits_of 10 n (omega arith))

-- ---- types and values

pub either_silent : (w : List ℕ) (t : Bool) (x y : List ℕ) → names w x ≡ false → names w y ≡ false → names w (if t then x else y) ≡ false
either_silent w true x y h k = h
either_silent w false x y h k = k

product_silent : (w : List ℕ) (dims : List (Option ℕ)) → IsApart w → names w (product_text dims) ≡ false
product_silent w dims a =
    either_silent w (elements dims == 0) (codes "0") (digit_bytes (elements dims))
    (digits_silent w (codes "0") a (record { digit = 0; small = omega arith; is = refl }, tt))
    (digits_silent w (digit_bytes (elements dims)) a (bytes_digits (elements dims)))

starred : (w text : List ℕ) (n : ℕ) → IsApart w → names w text ≡ false → names w (text ++ replicate n 42) ≡ false
starred w text zero a h = rw (append-nil text) h
starred w text (suc n) a h = between w [] text (replicate n 42) 42 refl ∙ neither _ _ h (starred w [] n a a.some)

past_space : (w t rest : List ℕ) → IsApart w → names w t ≡ false → names w rest ≡ false → names w (t ++ codes " " ++ rest) ≡ false
past_space w t rest a h k =
    ap (λ l. names w l) (append_assoc t (codes " ") rest) ∙ between w [] t rest 32 refl ∙ neither (names w t) (names w rest) h k

past_comma : (w t rest : List ℕ) → IsApart w → names w t ≡ false → names w rest ≡ false → names w (t ++ codes ", " ++ rest) ≡ false
past_comma w t rest a h k =
    ap (λ l. names w l) (append_assoc t (codes ", ") rest) ∙ between w [] t (32 ∷ rest) 44 refl
    ∙ neither (names w t) (names w (32 ∷ rest)) h (neither (bytes_eq [] w) (names w rest) a.some k)

spaced : (w : List ℕ) (words : List (List ℕ)) → IsApart w → list_any (names w) words ≡ false → names w (joined_by (codes " ") words) ≡ false
spaced w [] a h = a.some
spaced w (t ∷ []) a h = first_not (names w t) _ h
spaced w (t ∷ u ∷ words) a h =
    past_space w t (joined_by (codes " ") (u ∷ words)) a (first_not (names w t) _ h) (spaced w (u ∷ words) a (second_not (names w t) _ h))

spelled_silent : (w : List ℕ) (words : List (List ℕ)) (stars : ℕ) → IsApart w → list_any (names w) words ≡ false → names w (spelled words stars) ≡ false
spelled_silent w words stars a h = starred w (joined_by (codes " ") words) stars a (spaced w words a h)

pub type_silent : (w : List ℕ) (t : Written) → IsApart w → list_any (names w) t.words ≡ false → names w (type_text t) ≡ false
type_silent w t a h = spelled_silent w t.words t.stars a h

value_silent : (w name : List ℕ) → IsApart w → names w name ≡ false → names w (value_text true name) ≡ false
value_silent w name a h =
    neither (bytes_eq (codes "ms") w) (names_behind w (codes "ms_") name) a.frame (behind w (codes "ms_") [] name (other_begun w (codes "ms_") a.field) h)

size_of_silent : (w text : List ℕ) → IsApart w → names w text ≡ false → names w (size_of text) ≡ false
size_of_silent w text a h =
    neither (bytes_eq (codes "sizeof") w) (names w (text ++ 41 ∷ [])) a.size_of (between w [] text [] 41 refl ∙ neither _ _ h a.some)

pointed_silent : (w text : List ℕ) → IsApart w → names w text ≡ false → names w (codes "*" ++ text) ≡ false
pointed_silent w text a h = neither (bytes_eq [] w) (names w text) a.some h

amount_silent : (w : List ℕ) (v : AttrValue) → IsApart w → value_names w (Some v) ≡ false → names w (amount_text true v) ≡ false
amount_silent w (value.Number n) a h = digits_silent w (decimal n) a (decimal_digits n)
amount_silent w (value.Named x) a h =
    neither (bytes_eq [] w) (bytes_eq (codes "size_t") w || names w (value_text true x.name)) a.some
    (neither (bytes_eq (codes "size_t") w) (names w (value_text true x.name)) a.cast (value_silent w x.name a h))

-- what is written behind an attribute
written_silent : (w : List ℕ) (attrs : List Attribute) (test : Attribute → Bool) (default : List ℕ) → IsApart w
    → list_any (λ a. value_names w a.value) attrs ≡ false → names w default ≡ false
    → names w (written_or true (option_and_then (λ v. v) (option_map (λ a. a.value) (find test attrs))) default) ≡ false
written_silent w [] test default a h k = k
written_silent w (x ∷ attrs) test default a h k =
    go (test x) x.value (first_not (value_names w x.value) _ h) (written_silent w attrs test default a (second_not (value_names w x.value) _ h) k)
  where
    here : (v : Option AttrValue) → value_names w v ≡ false → names w (written_or true v default) ≡ false
    here None i = k
    here (Some v) i = amount_silent w v a i

    go : (t : Bool) (v : Option AttrValue) → value_names w v ≡ false
        → names w (written_or true (option_and_then (λ v. v) (option_map (λ a. a.value) (find test attrs))) default) ≡ false
        → names w (written_or true (option_and_then (λ v. v) (option_map (λ a. a.value) (cond t (Some x) (find test attrs)))) default) ≡ false
    go true v i r = here x.value (first_not (value_names w x.value) _ h)
    go false v i r = r

-- ---- sizes and counts

module _ (w : List ℕ) (p : Declared) (a : IsApart w) (h : param_names w p ≡ false) where
  first_two : names w p.name || list_any (names w) p.written.words ≡ false
  first_two = first_not (names w p.name || list_any (names w) p.written.words) (list_any (λ a. value_names w a.value) p.attrs) h

  pub name_silent : names w p.name ≡ false
  name_silent = first_not (names w p.name) (list_any (names w) p.written.words) first_two

  words_silent : list_any (names w) p.written.words ≡ false
  words_silent = second_not (names w p.name) (list_any (names w) p.written.words) first_two

  values_silent : list_any (λ a. value_names w a.value) p.attrs ≡ false
  values_silent = second_not (names w p.name || list_any (names w) p.written.words) (list_any (λ a. value_names w a.value) p.attrs) h

  one_silent : names w (codes "1") ≡ false
  one_silent = digits_silent w (codes "1") a (record { digit = 1; small = omega arith; is = refl }, tt)

  behind_silent : names w (size_of (spelled p.written.words (p.written.stars - 1))) ≡ false
  behind_silent = size_of_silent w (spelled p.written.words (p.written.stars - 1)) a (spelled_silent w p.written.words (p.written.stars - 1) a words_silent)

  whole_silent : names w (size_of (type_text p.written)) ≡ false
  whole_silent = size_of_silent w (type_text p.written) a (type_silent w p.written a words_silent)

  followed_silent : names w (size_of (codes "*" ++ value_text true p.name)) ≡ false
  followed_silent =
      size_of_silent w (codes "*" ++ value_text true p.name) a (pointed_silent w (value_text true p.name) a (value_silent w p.name a name_silent))

  pub element_silent : names w (element_text true p) ≡ false
  element_silent =
      either_silent w (has "isptr" p) (size_of (codes "*" ++ value_text true p.name)) _ followed_silent
      (either_silent w (has "isary" p || is_array p) (size_of (type_text p.written)) _ whole_silent
      (either_silent w (is_void p.written.base && p.written.stars == 1) (codes "1") _ one_silent behind_silent))

  text_silent : names w (text_size true p) ≡ false
  text_silent = clear_silent w (named p) a.some (name_silent, tt) (codes "ms.ms_$P_len") (begun []) a.text_length

  pub size_silent : names w (size_text true p) ≡ false
  size_silent =
      either_silent w (is_string p) (text_size true p) _ text_silent
      (written_silent w p.attrs (λ x. bytes_eq x.name (codes "size")) (element_text true p) a values_silent element_silent)

  pub count_silent : names w (count_text true p) ≡ false
  count_silent =
      either_silent w (is_string p) (codes "1") _ one_silent
      (either_silent w (is_array p) (product_text p.dims) _ (product_silent w p.dims a)
      (written_silent w p.attrs (λ x. bytes_eq x.name (codes "count")) (codes "1") a values_silent one_silent))

  argument_silent : names w (argument p) ≡ false
  argument_silent =
      either_silent w (is_marshalled p) (codes "in_" ++ p.name) (codes "ms.ms_" ++ p.name)
      (behind w (codes "in_") [] p.name (other_begun w (codes "in_") a.copy) name_silent)
      (value_silent w p.name a name_silent)

pub arguments_silent : (w : List ℕ) (params : List Declared) → IsApart w → list_any (param_names w) params ≡ false
    → names w (with_commas (map argument params)) ≡ false
arguments_silent w [] a h = a.some
arguments_silent w (p ∷ []) a h = argument_silent w p a (first_not (param_names w p) false h)
arguments_silent w (p ∷ q ∷ params) a h =
    let first : param_names w p ≡ false = first_not (param_names w p) (list_any (param_names w) (q ∷ params)) h in
    let others : list_any (param_names w) (q ∷ params) ≡ false = second_not (param_names w p) (list_any (param_names w) (q ∷ params)) h in
    past_comma w (argument p) (with_commas (map argument (q ∷ params))) a (argument_silent w p a first) (arguments_silent w (q ∷ params) a others)
