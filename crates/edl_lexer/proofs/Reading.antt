-- What stands at the front of a text is the longest lexeme there.
use Rattle.std.specs.Prelude.{if◌then◌else◌, ◌==◌, ◌&&◌, nat_eq, slice_index, not, codes, IsTrue, IsFalse, IsSome, is_some, option_map, cond}
use Rattle.std.proofs.Common.{get_or, length-take, arith, ◌≡◌, ◌≤◌, ◌<◌, ◌+◌, ℕ, zero, suc, Bool, true, false, List, [], ◌∷◌, length, take, drop, refl, sym, ◌∙◌, ap, subst, Option, Some, None}
use Rattle.std.specs.List.{prefix_len, starts_with}
use Rattle.std.specs.Char.{is_ascii_digit, is_ascii_hexdigit}
use Rattle.std.proofs.lemmas.List.{get_or_past}
use Rattle.std.proofs.lemmas.List.Sums.{prefix_len-le-length}
use Rattle.std.proofs.lemmas.Bool.{eqb-true, eq-eqb, ne_eqb}
use Rattle.sgx_base.specs.Numbers.{spelled_number}
use Rattle.edl_lexer.specs.declared.TokenKind.{TokenKind}
use Rattle.edl_lexer.specs.declared.TokenKind.TheVariants as kinds
use Rattle.edl_lexer.specs.declared.scan.Class.{Class}
use Rattle.edl_lexer.specs.declared.scan.Class.TheVariants.{Blank, Letter, Digit, Quote, Slash, Marking, Other}
use Rattle.edl_lexer.specs.declared.scan.Flaw.{Flaw}
use Rattle.edl_lexer.specs.declared.scan.Flaw.TheVariants.{BadByte, OpenComment, OpenText, NumberTooWide, TooManyTokens}
use Rattle.edl_lexer.specs.declared.scan.Lexeme.{Lexeme}
use Rattle.edl_lexer.specs.declared.scan.Lexeme.TheVariants.{Gap, Piece, No}
use Rattle.edl_lexer.specs.Lexemes.{is_blank, is_letter, is_word, is_mark, is_inside_text, class_of, lexeme, lexeme_of, text, comment, closed, close_len, number, valued, number_len, has_hex_front}
use Rattle.edl_lexer.specs.Lexing.{is_number as is_number_kind}
use Rattle.edl_lexer.specs.Division.{is_at, is_comment, is_lexeme, is_lexeme_of, IsLongest, is_number, is_number_of, kind_of, kind_by}
use Rattle.edl_lexer.specs.FirstFault.{HasNoLexeme, BeginsTooWide, opens_comment, opens_text}
use Rattle.edl_lexer.proofs.Longest.{left_false, right_false, neither, both, all_front, all_longer, text_closed, text_other, text_open, close-least, close-take, close-none, hexadecimal_front, hexadecimal_longer, decimal_front, decimal_longer}

-- the first n bytes are the longest lexeme, and of this kind
pub record Read (n : ℕ) (its_kind : Option TokenKind) (numeric : Bool) (bytes : List ℕ) : Type 0 where
  pub some : 0 < n
  pub long : IsLongest n bytes
  pub kind : kind_of (take n bytes) ≡ its_kind
  pub number : is_number (take n bytes) ≡ numeric
  pub sound : IsTrue numeric → IsSome (spelled_number (take n bytes))

-- what is known where no lexeme is read
abbrev pub Stops : Flaw → List ℕ → Type 0
Stops BadByte bytes = HasNoLexeme bytes × IsFalse (opens_comment bytes) × IsFalse (opens_text bytes)
Stops OpenComment bytes = HasNoLexeme bytes × IsTrue (opens_comment bytes)
Stops OpenText bytes = HasNoLexeme bytes × IsTrue (opens_text bytes)
Stops NumberTooWide bytes = BeginsTooWide bytes
Stops TooManyTokens bytes = ⊥

abbrev pub Reads : Lexeme → List ℕ → Type 0
Reads (Gap n) bytes = Read n None false bytes
Reads (Piece kind n) bytes = Read n (Some kind) (is_number_kind kind) bytes
Reads (No flaw) bytes = Stops flaw bytes

-- what a class says of its byte
abbrev Facts : Class → (letter digit quote slash : Bool) → Type 0
Facts Blank l d q s = Unit {0}
Facts Letter l d q s = l ≡ true
Facts Digit l d q s = d ≡ true
Facts Quote l d q s = q ≡ true
Facts Slash l d q s = s ≡ true
Facts Marking l d q s = Unit {0}
Facts Other l d q s = (q ≡ false) × (s ≡ false)

class_facts : (blank l d q s mark : Bool)
    → Facts (if blank then Blank else (if l then Letter else (if d then Digit else (if q then Quote else (if s then Slash else (if mark then Marking else Other)))))) l d q s
class_facts true l d q s mark = tt
class_facts false true d q s mark = refl
class_facts false false true q s mark = refl
class_facts false false false true s mark = refl
class_facts false false false false true mark = refl
class_facts false false false false false true = tt
class_facts false false false false false false = (refl, refl)

-- a lexeme of a class, by its bytes behind the first
module _ (cls : Class) (b : ℕ) (bytes : List ℕ) (is : class_of b ≡ cls) where
  at_class : (j : ℕ) → is_lexeme (b ∷ take j bytes) ≡ is_lexeme_of cls (b ∷ take j bytes)
  at_class j = ap (λ c. is_lexeme_of c (b ∷ take j bytes)) is

  longer_at : (k : ℕ) → ((j : ℕ) → k < j → j ≤ length bytes → is_lexeme_of cls (b ∷ take j bytes) ≡ false) → (m : ℕ) → suc k < m → m ≤ length (b ∷ bytes) → is_lexeme (take m (b ∷ bytes)) ≡ false
  longer_at k f zero l h = absurd (omega arith)
  longer_at k f (suc j) l h = at_class j ∙ f j (omega arith) (omega arith)

  longest_at : (k : ℕ) → k ≤ length bytes → is_lexeme_of cls (b ∷ take k bytes) ≡ true
      → ((j : ℕ) → k < j → j ≤ length bytes → is_lexeme_of cls (b ∷ take j bytes) ≡ false) → IsLongest (suc k) (b ∷ bytes)
  longest_at k l h f = record { within = omega arith; is_one = at_class k ∙ h; longest = longer_at k f }

  read_at : (n k : ℕ) → n ≡ suc k → k ≤ length bytes → is_lexeme_of cls (b ∷ take k bytes) ≡ true
      → ((j : ℕ) → k < j → j ≤ length bytes → is_lexeme_of cls (b ∷ take j bytes) ≡ false)
      → is_number_of cls ≡ false → Read n (kind_by cls (b ∷ take k bytes)) false (b ∷ bytes)
  read_at n k e l h f d =
      subst (λ x. Read x (kind_by cls (b ∷ take k bytes)) false (b ∷ bytes)) (sym e)
      (record { some = omega arith; long = longest_at k l h f; kind = ap (λ c. kind_by c (b ∷ take k bytes)) is; number = ap is_number_of is ∙ d; sound = λ t. cc })

  none_at : ((j : ℕ) → j ≤ length bytes → is_lexeme_of cls (b ∷ take j bytes) ≡ false) → HasNoLexeme (b ∷ bytes)
  none_at f zero l = refl
  none_at f (suc j) l = at_class j ∙ f j (omega arith)

-- comments
line : (bytes : List ℕ) → Reads (comment (47 ∷ 47 ∷ bytes)) (47 ∷ 47 ∷ bytes)
line bytes =
    read_at Slash 47 (47 ∷ bytes) refl (1 + (1 + k)) (suc k) (omega arith) (omega (arith, prefix_len-le-length (λ b. not (b == 10)) bytes))
    (let one : is_comment (47 ∷ 47 ∷ take k bytes) ≡ true = rw (all_front (λ b. not (b == 10)) bytes) refl in one) longer refl
  where
    k : ℕ
    k = prefix_len (λ b. not (b == 10)) bytes

    longer : (j : ℕ) → suc k < j → j ≤ length (47 ∷ bytes) → is_comment (47 ∷ take j (47 ∷ bytes)) ≡ false
    longer zero l h = absurd (omega arith)
    longer (suc i) l h = neither _ _ (all_longer (λ b. not (b == 10)) bytes i (omega arith) (omega arith)) refl

block : (bytes : List ℕ) → Reads (comment (47 ∷ 42 ∷ bytes)) (47 ∷ 42 ∷ bytes)
block bytes = go (close_len bytes) refl
  where
    longer : (n : ℕ) → close_len bytes ≡ Some n → (j : ℕ) → suc n < j → j ≤ length (42 ∷ bytes) → is_comment (47 ∷ take j (42 ∷ bytes)) ≡ false
    longer n e zero l h = absurd (omega arith)
    longer n e (suc i) l h = ap (is_at (length (take i bytes))) (close-take bytes i n e (omega arith)) ∙ ne_eqb n (length (take i bytes)) (λ q. omega (arith, q, length-take i bytes))

    none : close_len bytes ≡ None → (j : ℕ) → j ≤ length (42 ∷ bytes) → is_comment (47 ∷ take j (42 ∷ bytes)) ≡ false
    none e zero l = refl
    none e (suc i) l = ap (is_at (length (take i bytes))) (close-none bytes i e)

    go : (r : Option ℕ) → close_len bytes ≡ r → Reads (closed r) (47 ∷ 42 ∷ bytes)
    go (Some n) e =
        let w = close-least bytes n e in
        read_at Slash 47 (42 ∷ bytes) refl (2 + n) (suc n) (omega arith) (omega arith)
        (ap (is_at (length (take n bytes))) (close-take bytes n n e (omega arith)) ∙ eq-eqb n (length (take n bytes)) (omega (arith, length-take n bytes))) (longer n e) refl
    go None e = (none_at Slash 47 (42 ∷ bytes) refl (none e), refl)

choose : (a b : Bool) (g h : Lexeme) (bytes : List ℕ) → a ≡ false → b ≡ false → Stops BadByte bytes → Reads (if a then g else (if b then h else No BadByte)) bytes
choose true b g h bytes p q n = cc
choose false true g h bytes p q n = cc
choose false false g h bytes p q n = n

slash : (bytes : List ℕ) → Reads (comment (47 ∷ bytes)) (47 ∷ bytes)
slash [] = (none_at Slash 47 [] refl none, refl, refl)
  where
    none : (j : ℕ) → j ≤ 0 → is_comment (47 ∷ take j []) ≡ false
    none zero l = refl
    none (suc j) l = refl
slash (c ∷ bytes) = go (nat_eq 47 c) (nat_eq 42 c) refl refl
  where
    none : nat_eq 47 c ≡ false → nat_eq 42 c ≡ false → (j : ℕ) → j ≤ length (c ∷ bytes) → is_comment (47 ∷ take j (c ∷ bytes)) ≡ false
    none e f zero l = refl
    none e f (suc i) l = neither _ _ (left_false _ _ (left_false (nat_eq 47 c) true e)) (left_false _ _ (left_false (nat_eq 42 c) true f))

    go : (t u : Bool) → nat_eq 47 c ≡ t → nat_eq 42 c ≡ u → Reads (comment (47 ∷ c ∷ bytes)) (47 ∷ c ∷ bytes)
    go true u e f = subst (λ x. Reads (comment (47 ∷ x ∷ bytes)) (47 ∷ x ∷ bytes)) (eqb-true 47 c e) (line bytes)
    go false true e f = subst (λ x. Reads (comment (47 ∷ x ∷ bytes)) (47 ∷ x ∷ bytes)) (eqb-true 42 c f) (block bytes)
    go false false e f =
        choose (starts_with nat_eq (47 ∷ c ∷ bytes) (codes "//")) (starts_with nat_eq (47 ∷ c ∷ bytes) (codes "/*")) (Gap (prefix_len (λ b. not (b == 10)) (47 ∷ c ∷ bytes))) (closed (close_len bytes)) (47 ∷ c ∷ bytes)
        (left_false (nat_eq 47 c) true e) (left_false (nat_eq 42 c) true f)
        (none_at Slash 47 (c ∷ bytes) refl (none e f), left_false (nat_eq 42 c) true f, refl)

-- numbers
pub left_of : (a b : Bool) → (a && b) ≡ true → a ≡ true
left_of true b e = refl
left_of false b e = e

pub right_of : (a b : Bool) → (a && b) ≡ true → b ≡ true
right_of true b e = e
right_of false b e = cc

pub record Numeral (n : ℕ) (bytes : List ℕ) : Type 0 where
  pub some : 0 < n
  pub long : IsLongest n bytes

hexadecimal : (bytes : List ℕ) → 0 < prefix_len is_ascii_hexdigit bytes → Numeral (2 + prefix_len is_ascii_hexdigit bytes) (48 ∷ 120 ∷ bytes)
hexadecimal bytes l =
    subst (λ n. Numeral n (48 ∷ 120 ∷ bytes)) two
    (record { some = omega arith; long = longest_at Digit 48 (120 ∷ bytes) refl (suc k) (omega (arith, prefix_len-le-length is_ascii_hexdigit bytes)) (hexadecimal_front bytes l) longer })
  where
    k : ℕ
    k = prefix_len is_ascii_hexdigit bytes

    two : suc (suc k) ≡ 2 + k
    two = omega arith

    longer : (j : ℕ) → suc k < j → j ≤ length (120 ∷ bytes) → is_lexeme_of Digit (48 ∷ take j (120 ∷ bytes)) ≡ false
    longer zero l h = absurd (omega arith)
    longer (suc i) l h = hexadecimal_longer bytes i (omega arith) (omega arith)

passing : (p : ℕ → Bool) (b : ℕ) (bytes : List ℕ) → p b ≡ true → prefix_len p (b ∷ bytes) ≡ suc (prefix_len p bytes)
passing p b bytes e = let one : 1 + prefix_len p bytes ≡ suc (prefix_len p bytes) = omega arith in ap (λ t. cond t (1 + prefix_len p bytes) 0) e ∙ one

hexadecimal_at : (b : ℕ) (bytes : List ℕ) → has_hex_front (b ∷ bytes) ≡ true → Numeral (2 + prefix_len is_ascii_hexdigit (drop 2 (b ∷ bytes))) (b ∷ bytes)
hexadecimal_at b [] e = let f : false ≡ true = right_of (starts_with nat_eq (b ∷ []) (codes "0x")) false e in cc
hexadecimal_at b (c ∷ []) e = let f : false ≡ true = right_of (starts_with nat_eq (b ∷ c ∷ []) (codes "0x")) false e in cc
hexadecimal_at b (c ∷ h ∷ bytes) e =
    let s = left_of (starts_with nat_eq (b ∷ c ∷ []) (codes "0x")) (is_ascii_hexdigit h) e in
    let x : 48 ≡ b = eqb-true 48 b (left_of (nat_eq 48 b) (nat_eq 120 c && true) s) in
    let y : 120 ≡ c = eqb-true 120 c (left_of (nat_eq 120 c) true (right_of (nat_eq 48 b) (nat_eq 120 c && true) s)) in
    let d : is_ascii_hexdigit h ≡ true = right_of (starts_with nat_eq (b ∷ c ∷ []) (codes "0x")) (is_ascii_hexdigit h) e in
    let some : 0 < prefix_len is_ascii_hexdigit (h ∷ bytes) = omega (arith, passing is_ascii_hexdigit h bytes d) in
    subst (λ z. Numeral (2 + prefix_len is_ascii_hexdigit (h ∷ bytes)) (z ∷ c ∷ h ∷ bytes)) x
    (subst (λ z. Numeral (2 + prefix_len is_ascii_hexdigit (h ∷ bytes)) (48 ∷ z ∷ h ∷ bytes)) y (hexadecimal (h ∷ bytes) some))

module _ (b : ℕ) (bytes : List ℕ) (is : class_of b ≡ Digit) (digit : is_ascii_digit b ≡ true) where
  decimal_at : has_hex_front (b ∷ bytes) ≡ false → Numeral (prefix_len is_ascii_digit (b ∷ bytes)) (b ∷ bytes)
  decimal_at e =
      subst (λ n. Numeral n (b ∷ bytes)) (sym (passing is_ascii_digit b bytes digit))
      (record { some = omega arith; long = longest_at Digit b bytes is (prefix_len is_ascii_digit bytes) (prefix_len-le-length is_ascii_digit bytes) (decimal_front b bytes digit) (λ j l h. decimal_longer b bytes j e l h) })

  numeral : Numeral (number_len (b ∷ bytes)) (b ∷ bytes)
  numeral = go (has_hex_front (b ∷ bytes)) refl
    where
      go : (t : Bool) → has_hex_front (b ∷ bytes) ≡ t → Numeral (if t then 2 + prefix_len is_ascii_hexdigit (drop 2 (b ∷ bytes)) else prefix_len is_ascii_digit (b ∷ bytes)) (b ∷ bytes)
      go true e = hexadecimal_at b bytes e
      go false e = decimal_at e

  front_class : (n : ℕ) → 0 < n → class_of (slice_index (take n (b ∷ bytes)) 0) ≡ Digit
  front_class zero l = absurd (omega arith)
  front_class (suc n) l = is

  digits : Reads (number (b ∷ bytes)) (b ∷ bytes)
  digits = go (spelled_number (take (number_len (b ∷ bytes)) (b ∷ bytes))) refl
    where
      go : (r : Option ℕ) → spelled_number (take (number_len (b ∷ bytes)) (b ∷ bytes)) ≡ r → Reads (valued r (number_len (b ∷ bytes))) (b ∷ bytes)
      go (Some v) e = record {
        some = numeral.some;
        long = numeral.long;
        kind = ap (λ c. kind_by c (take (number_len (b ∷ bytes)) (b ∷ bytes))) (front_class (number_len (b ∷ bytes)) numeral.some) ∙ ap (option_map (λ n. kinds.Number n)) e;
        number = ap is_number_of (front_class (number_len (b ∷ bytes)) numeral.some);
        sound = λ t. ap is_some e;
      }
      go None e = record {
        len = number_len (b ∷ bytes);
        longest = numeral.long;
        number = ap is_number_of (front_class (number_len (b ∷ bytes)) numeral.some);
        wide = e;
      }

-- texts
module _ (b : ℕ) (bytes : List ℕ) (is : class_of b ≡ Quote) (opens : (b == 34) ≡ true) where
  abbrev inside : ℕ
  inside = prefix_len is_inside_text bytes

  closed_within : (get_or bytes inside 0 == 34) ≡ true → inside < length bytes
  closed_within e = go (inside == length bytes) refl
    where
      go : (t : Bool) → (inside == length bytes) ≡ t → inside < length bytes
      go true q =
          let end : inside ≡ length bytes = eqb-true inside (length bytes) q in
          let past : get_or bytes inside 0 ≡ 0 = get_or_past bytes inside 0 (omega arith) in
          let quote : get_or bytes inside 0 ≡ 34 = eqb-true (get_or bytes inside 0) 34 e in absurd (omega arith)
      go false q = let ne : inside ≡ length bytes → ⊥ = λ s. (let t : (inside == length bytes) ≡ true = eq-eqb inside (length bytes) s in cc) in omega (arith, prefix_len-le-length is_inside_text bytes, ne)

  quote : Reads (text bytes) (b ∷ bytes)
  quote = go (get_or bytes inside 0 == 34) refl
    where
      go : (t : Bool) → (get_or bytes inside 0 == 34) ≡ t → Reads (if t then Piece kinds.Text (inside + 2) else No OpenText) (b ∷ bytes)
      go true e =
          let l = closed_within e in
          read_at Quote b bytes is (inside + 2) (inside + 1) (omega arith) (omega arith) (text_closed bytes l e) (λ j g h. text_other bytes j h (λ q. omega arith)) refl
      go false e = (none_at Quote b bytes is (λ j h. text_open bytes e j h), opens)

one_byte : (b : ℕ) (bytes : List ℕ) (j : ℕ) → 0 < j → j ≤ length bytes → (length (b ∷ take j bytes) == 1) ≡ false
one_byte b bytes j l h = ne_eqb (length (b ∷ take j bytes)) 1 (λ e. omega (arith, e, length-take j bytes))

-- the same test, the other way round
other_byte : (b c : ℕ) → (b == c) ≡ false → nat_eq c b ≡ false
other_byte b c e = ne_eqb c b (λ q. let t : (b == c) ≡ true = eq-eqb b c (sym q) in cc)

by_class : (b : ℕ) (bytes : List ℕ) (cls : Class) → class_of b ≡ cls → Facts cls (is_letter b) (is_ascii_digit b) (b == 34) (b == 47) → Reads (lexeme_of cls b bytes) (b ∷ bytes)
by_class b bytes Blank is f = read_at Blank b bytes is 1 0 refl (omega arith) refl (one_byte b bytes) refl
by_class b bytes Letter is f =
    read_at Letter b bytes is (1 + prefix_len is_word bytes) (prefix_len is_word bytes) (omega arith) (prefix_len-le-length is_word bytes)
    (both (is_word b) _ (rw f refl) (all_front is_word bytes)) (λ j l h. right_false (is_word b) _ (all_longer is_word bytes j l h)) refl
by_class b bytes Digit is f = digits b bytes is f
by_class b bytes Quote is f = quote b bytes is f
by_class b bytes Slash is f = subst (λ x. Reads (comment (x ∷ bytes)) (x ∷ bytes)) (sym (eqb-true b 47 f)) (slash bytes)
by_class b bytes Marking is f = read_at Marking b bytes is 1 0 refl (omega arith) refl (one_byte b bytes) refl
by_class b bytes Other is f = (none_at Other b bytes is (λ j h. refl), left_false (nat_eq 47 b) _ (other_byte b 47 f.1), f.0)

pub reads : (b : ℕ) (bytes : List ℕ) → Reads (lexeme b bytes) (b ∷ bytes)
reads b bytes = by_class b bytes (class_of b) refl (class_facts (is_blank b) (is_letter b) (is_ascii_digit b) (b == 34) (b == 47) (is_mark b))

-- a letter begins a lexeme, which is no number
pub letter_reads : (b : ℕ) (bytes : List ℕ) → is_letter b ≡ true → (n : ℕ) × (k : Option TokenKind) × Read n k false (b ∷ bytes)
letter_reads b bytes l = go (is_blank b) refl
  where
    go : (t : Bool) → is_blank b ≡ t → (n : ℕ) × (k : Option TokenKind) × Read n k false (b ∷ bytes)
    go true e = (1, None, by_class b bytes Blank (rw e refl) tt)
    go false e = (1 + prefix_len is_word bytes, Some kinds.Name, by_class b bytes Letter (rw (e, l) refl) l)
