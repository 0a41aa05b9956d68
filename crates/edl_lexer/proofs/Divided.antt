-- The scanner's answer is that of the one front of a text that is divided as far as it can be.
use Rattle.std.specs.Prelude.{if◌then◌else◌, ◌&&◌, ◌==◌, nat_eq, slice_index, IsTrue, IsFalse, IsSome, is_some, option_map, option_to_list, fold, ◌⊎◌}
use Rattle.std.proofs.Common.{length-take, length-drop, length-append, append_assoc, arith, ◌≡◌, ◌≤◌, ◌<◌, ◌+◌, ◌-◌, ℕ, zero, suc, Bool, true, false, List, [], ◌∷◌, ◌++◌, length, take, drop, refl, sym, ◌∙◌, ap, subst, inl, inr, Option, Some, None, Ok, Err}
use Rattle.std.specs.List.{concat}
use Rattle.std.proofs.lemmas.List.{take-append-drop, append-nil}
use Rattle.std.proofs.lemmas.Bool.{eqb-true}
use Rattle.std.proofs.lemmas.List.Sums.{fold-append}
use Rattle.std.proofs.Math.Seq.{take-append_seam, drop-append_seam}
use Rattle.sgx_base.specs.Numbers.{spelled_number}
use Rattle.edl_lexer.specs.declared.Token.{Token}
use Rattle.edl_lexer.specs.declared.TokenKind.{TokenKind}
use Rattle.edl_lexer.specs.declared.TokenKind.TheVariants as kinds
use Rattle.edl_lexer.specs.declared.scan.Class.{Class}
use Rattle.edl_lexer.specs.declared.scan.Class.TheVariants.{Blank, Letter, Digit, Quote, Slash, Marking, Other}
use Rattle.edl_lexer.specs.declared.LexFault.{LexFault}
use Rattle.edl_lexer.specs.declared.LexFault.TheVariants.{Memory}
use Rattle.edl_lexer.specs.declared.place.Place.{Place}
use Rattle.edl_lexer.specs.declared.scan.Flaw.{Flaw}
use Rattle.edl_lexer.specs.declared.scan.Flaw.TheVariants.{BadByte, OpenComment, OpenText, NumberTooWide, TooManyTokens}
use Rattle.edl_lexer.specs.declared.scan.Lexeme.{Lexeme}
use Rattle.edl_lexer.specs.declared.scan.Lexeme.TheVariants.{Gap, Piece, No}
use Rattle.edl_lexer.specs.Lexemes.{lexeme, lexeme_after, is_letter, class_of}
use Rattle.edl_lexer.specs.Lexing.{lexing, max_tokens, mark_len, opening, tokens_from, after, step, token, with_token, fault_of, is_number as is_number_kind}
use Rattle.edl_lexer.specs.Division.{AreTokensOf, HasNoTokens, behind_mark, first_place, is_lexeme, IsLongest, AreLongest, AreNumbersSound, BeginsWith, DivisionIsUnique, is_number, kind_of, kind_by, is_number_of, tokens_of}
use Rattle.sgx_base.specs.Outcome.{OrMemory}
use Rattle.edl_lexer.specs.FirstFault.{HasNoLexeme, BeginsWithToken, HasFlaw, HasLexFault, FaultIsUnique, opens_comment}
use Rattle.edl_lexer.proofs.Reading.{Read, Stops, Reads, reads, letter_reads, left_of}
use Rattle.edl_lexer.proofs.Turns.{with_front, with_front-nothing, with_front-front, with_front-one, skip, gap_turn, piece_turn, full, flawed}

-- the longest lexeme is one
some_bytes : (n : ℕ) (bytes : List ℕ) → IsLongest n bytes → 0 < n
some_bytes zero bytes p = let e : false ≡ true = p.is_one in cc
some_bytes (suc n) bytes p = omega arith

not_shorter : (n m : ℕ) (bytes : List ℕ) → IsLongest n bytes → IsLongest m bytes → n < m → ⊥
not_shorter n m bytes p q l = let e : is_lexeme (take m bytes) ≡ false = p.longest m l q.within in let f : is_lexeme (take m bytes) ≡ true = q.is_one in cc

one_length : (n m : ℕ) (bytes : List ℕ) → IsLongest n bytes → IsLongest m bytes → n ≡ m
one_length n m bytes p q = omega (arith, not_shorter n m bytes p q, not_shorter m n bytes q p)

-- what a front that is divided begins with
module _ (bytes x others rest : List ℕ) (e : x ++ others ++ rest ≡ bytes) where
  at_front : x ++ (others ++ rest) ≡ bytes
  at_front = sym (append_assoc x others rest) ∙ e

  pub front_is : take (length x) bytes ≡ x
  front_is = ap (take (length x)) (sym at_front) ∙ take-append_seam x (others ++ rest)

  pub rest_is : drop (length x) bytes ≡ others ++ rest
  rest_is = ap (drop (length x)) (sym at_front) ∙ drop-append_seam x (others ++ rest)

  no_longer : length x + length others ≤ length bytes
  no_longer = omega (arith, ap length e, length-append (x ++ others) rest, length-append x others)

same_lexemes : (bytes : List ℕ) (one other : List (List ℕ)) → AreLongest bytes one → AreLongest bytes other → concat one ++ [] ≡ bytes → concat other ++ [] ≡ bytes → one ≡ other
same_lexemes bytes [] [] a b e f = refl
same_lexemes bytes [] (y ∷ ys) a b e f = let long = b.0.within in absurd (omega (arith, ap length e, some_bytes (length y) bytes b.0, long))
same_lexemes bytes (x ∷ xs) [] a b e f = let long = a.0.within in absurd (omega (arith, ap length f, some_bytes (length x) bytes a.0, long))
same_lexemes bytes (x ∷ xs) (y ∷ ys) a b e f =
    let n : length x ≡ length y = one_length (length x) (length y) bytes a.0 b.0 in
    let front : x ≡ y = sym (front_is bytes x (concat xs) [] e) ∙ ap (λ k. take k bytes) n ∙ front_is bytes y (concat ys) [] f in
    let behind : xs ≡ ys = same_lexemes (drop (length x) bytes) xs ys a.1 (subst (λ k. AreLongest (drop k bytes) ys) (sym n) b.1)
    (sym (rest_is bytes x (concat xs) [] e)) (sym (rest_is bytes y (concat ys) [] f) ∙ ap (λ k. drop k bytes) (sym n)) in cc

pub one_division : DivisionIsUnique
one_division bytes one other p q = same_lexemes bytes one other p.longest q.longest p.joined q.joined

-- where no letter stands behind a number
module _ (after_number : Bool) (b : ℕ) (bytes : List ℕ) where
  lexeme_at : (after_number && is_letter b) ≡ false → lexeme_after after_number b bytes ≡ lexeme b bytes
  lexeme_at e = ap (λ t. if t then No BadByte else lexeme b bytes) e

  letter_at : (after_number && is_letter b) ≡ true → lexeme_after after_number b bytes ≡ No BadByte
  letter_at e = ap (λ t. if t then No BadByte else lexeme b bytes) e

no_letter : (after_number letter : Bool) → (after_number ≡ true → letter ≡ false) → (after_number && letter) ≡ false
no_letter true letter h = h refl
no_letter false letter h = refl

apart_of : (after_number letter : Bool) → (after_number && letter) ≡ false → IsTrue after_number → IsFalse letter
apart_of true letter e t = e
apart_of false letter e t = cc

-- whether the last lexeme of those behind others is a number
abbrev pub ends : Bool → List (List ℕ) → Bool
ends = fold (λ _ lexeme. is_number lexeme)

-- the token that a lexeme is, if it is one
abbrev pub its_token : Place → ℕ → Option TokenKind → List Token
its_token at len kind = option_to_list (option_map (λ k. token k len at) kind)

-- the rest of a text, from which no lexeme is taken
pub record Flawed (room : ℕ) (after_number : Bool) (rest : List ℕ) : Type 0 where
  pub some : 0 < length rest
  pub flaw : Flaw
  pub cause : HasFlaw room after_number rest flaw

-- a text from a place on, divided as far as it can be
pub record Front (room : ℕ) (after_number : Bool) (at : Place) (bytes : List ℕ) : Type 0 where
  pub lexemes : List (List ℕ)
  pub rest : List ℕ
  pub joined : concat lexemes ++ rest ≡ bytes
  pub longest : AreLongest bytes lexemes
  pub numbers : AreNumbersSound lexemes
  pub apart : IsTrue after_number → IsFalse (is_letter (slice_index (concat lexemes) 0))
  pub few : length (tokens_of at lexemes) ≤ room
  pub ending : (rest ≡ []) ⊎ Flawed (room - length (tokens_of at lexemes)) (ends after_number lexemes) rest

-- no lexeme is taken
none_taken : (room : ℕ) (after_number : Bool) (at : Place) (b : ℕ) (bytes : List ℕ) (flaw : Flaw) → HasFlaw room after_number (b ∷ bytes) flaw → Front room after_number at (b ∷ bytes)
none_taken room after_number at b bytes flaw cause =
    let stopped : Flawed room after_number (b ∷ bytes) = record { some = omega arith; flaw = flaw; cause = cause } in
    let all : room ≡ room - 0 = omega arith in
    record {
      lexemes = [];
      rest = b ∷ bytes;
      joined = refl;
      longest = tt;
      numbers = tt;
      apart = λ t. refl;
      few = omega arith;
      ending = inr (subst (λ k. Flawed k after_number (b ∷ bytes)) all stopped);
    }

-- one lexeme before a front of the rest
module _ (room less : ℕ) (after_number : Bool) (at : Place) (b : ℕ) (tail : List ℕ) (n : ℕ) (its_kind : Option TokenKind) (numeric : Bool) (read : Read n its_kind numeric (b ∷ tail))
    (front : Front less numeric (after at (take n (b ∷ tail))) (drop n (b ∷ tail))) (fits : less + length (its_token at n its_kind) ≡ room)
    (apart : IsTrue after_number → IsFalse (is_letter b)) where
  abbrev bytes : List ℕ
  bytes = b ∷ tail

  abbrev x : List ℕ
  x = take n bytes

  its_length : length x ≡ n
  its_length = let w = read.long.within in omega (arith, length-take n bytes)

  begins_so : (k : ℕ) (others : List ℕ) → 0 < k → slice_index (take k bytes ++ others) 0 ≡ b
  begins_so zero others l = absurd (omega arith)
  begins_so (suc k) others l = refl

  its_tokens : tokens_of at (x ∷ front.lexemes) ≡ its_token at n its_kind ++ tokens_of (after at x) front.lexemes
  its_tokens = ap (λ k. its_token at k (kind_of x) ++ tokens_of (after at x) front.lexemes) its_length ∙ ap (λ k. its_token at n k ++ tokens_of (after at x) front.lexemes) read.kind

  its_count : length (tokens_of at (x ∷ front.lexemes)) ≡ length (its_token at n its_kind) + length (tokens_of (after at x) front.lexemes)
  its_count = ap length its_tokens ∙ length-append (its_token at n its_kind) (tokens_of (after at x) front.lexemes)

  its_ending : (front.rest ≡ []) ⊎ Flawed (less - length (tokens_of (after at x) front.lexemes)) (ends numeric front.lexemes) front.rest
      → (front.rest ≡ []) ⊎ Flawed (room - length (tokens_of at (x ∷ front.lexemes))) (ends (is_number x) front.lexemes) front.rest
  its_ending (inl e) = inl e
  its_ending (inr f) =
      let left : less - length (tokens_of (after at x) front.lexemes) ≡ room - length (tokens_of at (x ∷ front.lexemes)) = omega (arith, its_count, fits) in
      inr (subst (λ k. Flawed k (ends (is_number x) front.lexemes) front.rest) left (subst (λ t. Flawed (less - length (tokens_of (after at x) front.lexemes)) (ends t front.lexemes) front.rest) (sym read.number) f))

  with_lexeme : Front room after_number at bytes
  with_lexeme =
      let few = front.few in record {
        lexemes = x ∷ front.lexemes;
        rest = front.rest;
        joined = append_assoc x (concat front.lexemes) front.rest ∙ ap (λ z. x ++ z) front.joined ∙ take-append-drop n bytes;
        longest = (subst (λ k. IsLongest k bytes) (sym its_length) read.long, subst (λ k. AreLongest (drop k bytes) front.lexemes) (sym its_length) front.longest);
        numbers = (λ t. (read.sound (sym read.number ∙ t), front.apart (sym read.number ∙ t)), front.numbers);
        apart = λ t. ap is_letter (begins_so n (concat front.lexemes) read.some) ∙ apart t;
        few = omega (arith, its_count, fits, few);
        ending = its_ending front.ending;
      }

-- a text that is not empty, where each shorter one has its front
module _ (room : ℕ) (after_number : Bool) (at : Place) (b : ℕ) (tail : List ℕ)
    (behind : (room' : ℕ) (after_number' : Bool) (at' : Place) (bytes' : List ℕ) → length bytes' ≤ length tail → Front room' after_number' at' bytes') where
  shorter : (n : ℕ) → 0 < n → length (drop n (b ∷ tail)) ≤ length tail
  shorter n p = omega (arith, length-drop n (b ∷ tail))

  passing_over : (less n : ℕ) (kind : Option TokenKind) (numeric : Bool) → Read n kind numeric (b ∷ tail) → less + length (its_token at n kind) ≡ room → (after_number && is_letter b) ≡ false
      → Front room after_number at (b ∷ tail)
  passing_over less n kind numeric w fits e =
      with_lexeme room less after_number at b tail n kind numeric w
      (behind less numeric (after at (take n (b ∷ tail))) (drop n (b ∷ tail)) (shorter n w.some)) fits (apart_of after_number (is_letter b) e)

  one_of : (kind : TokenKind) (n : ℕ) → Read n (Some kind) (is_number_kind kind) (b ∷ tail) → (after_number && is_letter b) ≡ false → (some_room : ℕ) → some_room ≡ room → Front room after_number at (b ∷ tail)
  one_of kind n w e zero none = none_taken room after_number at b tail TooManyTokens (sym none, record { len = n; longest = w.long; token = ap is_some w.kind }, e)
  one_of kind n w e (suc less) is = passing_over less n (Some kind) (is_number_kind kind) w (omega arith) e

  stopped_by : (flaw : Flaw) → Stops flaw (b ∷ tail) → Front room after_number at (b ∷ tail)
  stopped_by BadByte w = none_taken room after_number at b tail BadByte (inr w)
  stopped_by OpenComment w = none_taken room after_number at b tail OpenComment w
  stopped_by OpenText w = none_taken room after_number at b tail OpenText w
  stopped_by NumberTooWide w = none_taken room after_number at b tail NumberTooWide w
  stopped_by TooManyTokens w = absurd w

  one_more_lexeme : Front room after_number at (b ∷ tail)
  one_more_lexeme = go (after_number && is_letter b) refl
    where
      read : (after_number && is_letter b) ≡ false → (r : Lexeme) → Reads r (b ∷ tail) → Front room after_number at (b ∷ tail)
      read e (Gap n) w = passing_over room n None false w (omega arith) e
      read e (Piece kind n) w = one_of kind n w e room refl
      read e (No flaw) w = stopped_by flaw w

      go : (t : Bool) → (after_number && is_letter b) ≡ t → Front room after_number at (b ∷ tail)
      go true e = none_taken room after_number at b tail BadByte (inl e)
      go false e = read e (lexeme b tail) (reads b tail)

fronted : (fuel room : ℕ) (after_number : Bool) (at : Place) (text : List ℕ) → length text ≤ fuel → Front room after_number at text
fronted fuel room after_number at [] l = record {
  lexemes = [];
  rest = [];
  joined = refl;
  longest = tt;
  numbers = tt;
  apart = λ t. refl;
  few = omega arith;
  ending = inl refl;
}
fronted zero room after_number at (b ∷ tail) l = absurd (omega arith)
fronted (suc fuel) room after_number at (b ∷ tail) l =
    one_more_lexeme room after_number at b tail (λ room' after_number' at' text' shorter'. fronted fuel room' after_number' at' text' (omega (arith, shorter', l)))

-- a number above 64 bits is no token
wide_by : (cls : Class) (x : List ℕ) → is_number_of cls ≡ true → spelled_number x ≡ None → kind_by cls x ≡ None
wide_by Blank x p e = absurd cc
wide_by Letter x p e = absurd cc
wide_by Digit x p e = ap (option_map (λ n. kinds.Number n)) e
wide_by Quote x p e = absurd cc
wide_by Slash x p e = absurd cc
wide_by Marking x p e = absurd cc
wide_by Other x p e = absurd cc

wide_kind : (x : List ℕ) → is_number x ≡ true → spelled_number x ≡ None → kind_of x ≡ None
wide_kind x p e = wide_by (class_of (slice_index x 0)) x p e

-- the scanner passes over a lexeme that stands at the front
module _ (file : ℕ) (at : Place) (b : ℕ) (x more : List ℕ) where
  abbrev front : List ℕ
  front = b ∷ x

  module _ (long : IsLongest (length front) (front ++ more)) (sound : IsTrue (is_number front) → IsSome (spelled_number front)) where
    gap : (room : ℕ) (after_number : Bool) → lexeme_after after_number b (x ++ more) ≡ Gap (length front) → Read (length front) None false (front ++ more)
        → tokens_from file room 0 after_number at (front ++ more) ≡ with_front (its_token at (length front) (kind_of front)) (tokens_from file (room - length (its_token at (length front) (kind_of front))) 0 (is_number front) (after at front) more)
    gap room after_number s w =
        let kind : kind_of front ≡ None = ap kind_of (sym (take-append_seam front more)) ∙ w.kind in
        let number : is_number front ≡ false = ap is_number (sym (take-append_seam front more)) ∙ w.number in
        let left : room ≡ room - 0 = omega arith in
        gap_turn file room (length front) after_number at b (x ++ more) s w.some
        ∙ ap (λ z. tokens_from file room 0 false (after at z) (drop (length front) (front ++ more))) (take-append_seam front more)
        ∙ ap (tokens_from file room 0 false (after at front)) (drop-append_seam front more)
        ∙ ap (λ t. tokens_from file room 0 t (after at front) more) (sym number)
        ∙ sym (with_front-nothing (tokens_from file room 0 (is_number front) (after at front) more))
        ∙ ap (λ k. with_front [] (tokens_from file k 0 (is_number front) (after at front) more)) left
        ∙ ap (λ k. with_front (its_token at (length front) k) (tokens_from file (room - length (its_token at (length front) k)) 0 (is_number front) (after at front) more)) (sym kind)

    piece_of : (room : ℕ) (after_number : Bool) (kind : TokenKind) → lexeme_after after_number b (x ++ more) ≡ Piece kind (length front)
        → Read (length front) (Some kind) (is_number_kind kind) (front ++ more) → length (its_token at (length front) (kind_of front)) ≤ room
        → tokens_from file room 0 after_number at (front ++ more) ≡ with_front (its_token at (length front) (kind_of front)) (tokens_from file (room - length (its_token at (length front) (kind_of front))) 0 (is_number front) (after at front) more)
    piece_of zero after_number kind s w fits =
        let is : kind_of front ≡ Some kind = ap kind_of (sym (take-append_seam front more)) ∙ w.kind in
        let one : length (its_token at (length front) (Some kind)) ≤ 0 = subst (λ k. length (its_token at (length front) k) ≤ 0) is fits in absurd (omega arith)
    piece_of (suc room) after_number kind s w fits =
        let is : kind_of front ≡ Some kind = ap kind_of (sym (take-append_seam front more)) ∙ w.kind in
        let number : is_number front ≡ is_number_kind kind = ap is_number (sym (take-append_seam front more)) ∙ w.number in
        let left : room ≡ suc room - 1 = omega arith in
        piece_turn file room (length front) kind after_number at b (x ++ more) s w.some
        ∙ ap (λ z. with_token (token kind (length front) at) (tokens_from file room 0 (is_number_kind kind) (after at z) (drop (length front) (front ++ more)))) (take-append_seam front more)
        ∙ ap (λ z. with_token (token kind (length front) at) (tokens_from file room 0 (is_number_kind kind) (after at front) z)) (drop-append_seam front more)
        ∙ ap (λ t. with_token (token kind (length front) at) (tokens_from file room 0 t (after at front) more)) (sym number)
        ∙ sym (with_front-one (token kind (length front) at) (tokens_from file room 0 (is_number front) (after at front) more))
        ∙ ap (λ k. with_front (token kind (length front) at ∷ []) (tokens_from file k 0 (is_number front) (after at front) more)) left
        ∙ ap (λ k. with_front (its_token at (length front) k) (tokens_from file (suc room - length (its_token at (length front) k)) 0 (is_number front) (after at front) more)) (sym is)

    is_front : is_lexeme (take (length front) (front ++ more)) ≡ true
    is_front = long.is_one

    passed : (room : ℕ) (after_number : Bool) → (IsTrue after_number → IsFalse (is_letter b)) → length (its_token at (length front) (kind_of front)) ≤ room
        → tokens_from file room 0 after_number at (front ++ more) ≡ with_front (its_token at (length front) (kind_of front)) (tokens_from file (room - length (its_token at (length front) (kind_of front))) 0 (is_number front) (after at front) more)
    passed room after_number apart fits = read (lexeme b (x ++ more)) (lexeme_at after_number b (x ++ more) (no_letter after_number (is_letter b) apart)) (reads b (x ++ more))
      where
        none : HasNoLexeme (front ++ more) → ⊥
        none n = let f : is_lexeme (take (length front) (front ++ more)) ≡ false = n (length front) long.within in cc

        read : (r : Lexeme) → lexeme_after after_number b (x ++ more) ≡ r → Reads r (front ++ more)
            → tokens_from file room 0 after_number at (front ++ more) ≡ with_front (its_token at (length front) (kind_of front)) (tokens_from file (room - length (its_token at (length front) (kind_of front))) 0 (is_number front) (after at front) more)
        read (Gap n) s w =
            let n' : n ≡ length front = one_length n (length front) (front ++ more) w.long long in
            gap room after_number (s ∙ ap Gap n') (subst (λ k. Read k None false (front ++ more)) n' w)
        read (Piece kind n) s w =
            let n' : n ≡ length front = one_length n (length front) (front ++ more) w.long long in
            piece_of room after_number kind (s ∙ ap (Piece kind) n') (subst (λ k. Read k (Some kind) (is_number_kind kind) (front ++ more)) n' w) fits
        read (No BadByte) s w = absurd (none w.0)
        read (No OpenComment) s w = absurd (none w.0)
        read (No OpenText) s w = absurd (none w.0)
        read (No TooManyTokens) s w = absurd w
        read (No NumberTooWide) s w =
            let n' : w.len ≡ length front = one_length w.len (length front) (front ++ more) w.longest long in
            let is : take w.len (front ++ more) ≡ front = ap (λ k. take k (front ++ more)) n' ∙ take-append_seam front more in
            let some : is_some (spelled_number front) ≡ true = sound (ap is_number (sym is) ∙ w.number) in
            let wide : spelled_number front ≡ None = ap spelled_number (sym is) ∙ w.wide in
            let f : false ≡ true = ap is_some (sym wide) ∙ some in cc

module _ (file : ℕ) where
  -- the scanner passes over the lexemes of a front
  through : (lexemes : List (List ℕ)) (at : Place) (room : ℕ) (after_number : Bool) (bytes rest : List ℕ) → concat lexemes ++ rest ≡ bytes → AreLongest bytes lexemes → AreNumbersSound lexemes
      → (IsTrue after_number → IsFalse (is_letter (slice_index (concat lexemes) 0))) → length (tokens_of at lexemes) ≤ room
      → tokens_from file room 0 after_number at bytes ≡ with_front (tokens_of at lexemes) (tokens_from file (room - length (tokens_of at lexemes)) 0 (ends after_number lexemes) (after at (concat lexemes)) rest)
  through [] at room after_number bytes rest e long sound apart few =
      let left : room ≡ room - 0 = omega arith in
      sym (with_front-nothing (tokens_from file room 0 after_number at bytes)) ∙ ap (λ z. with_front [] (tokens_from file room 0 after_number at z)) (sym e)
      ∙ ap (λ k. with_front [] (tokens_from file k 0 after_number at rest)) left
  through ([] ∷ others) at room after_number bytes rest e long sound apart few = let w : 0 < 0 = some_bytes 0 bytes long.0 in absurd (omega arith)
  through ((b ∷ x) ∷ others) at room after_number bytes rest e long sound apart few =
      let more : List ℕ = concat others ++ rest in
      let whole : (b ∷ x) ++ more ≡ bytes = at_front bytes (b ∷ x) (concat others) rest e in
      let own : List Token = its_token at (length (b ∷ x)) (kind_of (b ∷ x)) in
      let theirs : List Token = tokens_of (after at (b ∷ x)) others in
      let count : length (own ++ theirs) ≡ length own + length theirs = length-append own theirs in
      let left : room - length own - length theirs ≡ room - length (own ++ theirs) = omega arith in
      ap (tokens_from file room 0 after_number at) (sym whole)
      ∙ passed file at b x more (subst (IsLongest (length (b ∷ x))) (sym whole) long.0) (λ t. (sound.0 t).0) room after_number apart (omega (arith, few))
      ∙ ap (with_front own) (through others (after at (b ∷ x)) (room - length own) (is_number (b ∷ x)) more rest refl
      (subst (λ z. AreLongest z others) (rest_is bytes (b ∷ x) (concat others) rest e) long.1) sound.1 (λ t. (sound.0 t).1) (omega (arith, few)))
      ∙ with_front-front own theirs _
      ∙ ap (λ k. with_front (own ++ theirs) (tokens_from file k 0 (ends (is_number (b ∷ x)) others) (after (after at (b ∷ x)) (concat others)) rest)) left
      ∙ ap (λ a. with_front (own ++ theirs) (tokens_from file (room - length (own ++ theirs)) 0 (ends (is_number (b ∷ x)) others) a rest)) (sym (fold-append step at (b ∷ x) (concat others)))

  -- the scanner stops where no lexeme is taken
  module _ (at : Place) (room : ℕ) (after_number : Bool) (b : ℕ) (bytes : List ℕ) where
    abbrev Refuses : Flaw → Type 0
    Refuses flaw = tokens_from file room 0 after_number at (b ∷ bytes) ≡ Err (fault_of file at flaw)

    no_one : (n : ℕ) → IsLongest n (b ∷ bytes) → HasNoLexeme (b ∷ bytes) → ⊥
    no_one n w none = let e : is_lexeme (take n (b ∷ bytes)) ≡ false = none n w.within in let f : is_lexeme (take n (b ∷ bytes)) ≡ true = w.is_one in cc

    at_letter : (flaw : Flaw) → HasFlaw room after_number (b ∷ bytes) flaw → (after_number && is_letter b) ≡ true → is_letter b ≡ true → Refuses flaw
    at_letter BadByte w e l = flawed file room BadByte after_number at b bytes (letter_at after_number b bytes e)
    at_letter OpenComment w e l = let r = letter_reads b bytes l in absurd (no_one r.0 r.2.long w.0)
    at_letter OpenText w e l = let r = letter_reads b bytes l in absurd (no_one r.0 r.2.long w.0)
    at_letter NumberTooWide w e l =
        let r = letter_reads b bytes l in
        let same : r.0 ≡ w.len = one_length r.0 w.len (b ∷ bytes) r.2.long w.longest in
        let f : false ≡ true = sym r.2.number ∙ ap (λ k. is_number (take k (b ∷ bytes))) same ∙ w.number in cc
    at_letter TooManyTokens w e l = let f : false ≡ true = sym w.2 ∙ e in cc

    -- a flaw that is found, where one is known
    both_open : (opens_comment (b ∷ bytes)) ≡ true → (b == 34) ≡ true → ⊥
    both_open p q =
        let slash : 47 ≡ b = eqb-true 47 b (left_of (nat_eq 47 b) _ p) in
        let quote : b ≡ 34 = eqb-true b 34 q in omega arith

    no_token : (w : BeginsWithToken (b ∷ bytes)) (n : ℕ) → IsLongest n (b ∷ bytes) → kind_of (take n (b ∷ bytes)) ≡ None → ⊥
    no_token w n long none =
        let same : n ≡ w.len = one_length n w.len (b ∷ bytes) long w.longest in
        let f : false ≡ true = ap is_some (sym none) ∙ ap (λ k. is_some (kind_of (take k (b ∷ bytes)))) same ∙ w.token in cc

    same_flaw : (flaw other : Flaw) → HasFlaw room after_number (b ∷ bytes) flaw → (after_number && is_letter b) ≡ false → Stops other (b ∷ bytes) → flaw ≡ other
    same_flaw flaw TooManyTokens w e h = absurd h
    same_flaw BadByte other (inl l) e h = let f : false ≡ true = sym e ∙ l in absurd cc
    same_flaw BadByte BadByte (inr w) e h = refl
    same_flaw BadByte OpenComment (inr w) e h = let f : false ≡ true = sym w.1 ∙ h.1 in absurd cc
    same_flaw BadByte OpenText (inr w) e h = let f : false ≡ true = sym w.2 ∙ h.1 in absurd cc
    same_flaw BadByte NumberTooWide (inr w) e h = absurd (no_one h.len h.longest w.0)
    same_flaw OpenComment BadByte w e h = let f : false ≡ true = sym h.1 ∙ w.1 in absurd cc
    same_flaw OpenComment OpenComment w e h = refl
    same_flaw OpenComment OpenText w e h = absurd (both_open w.1 h.1)
    same_flaw OpenComment NumberTooWide w e h = absurd (no_one h.len h.longest w.0)
    same_flaw OpenText BadByte w e h = let f : false ≡ true = sym h.2 ∙ w.1 in absurd cc
    same_flaw OpenText OpenComment w e h = absurd (both_open h.1 w.1)
    same_flaw OpenText OpenText w e h = refl
    same_flaw OpenText NumberTooWide w e h = absurd (no_one h.len h.longest w.0)
    same_flaw NumberTooWide BadByte w e h = absurd (no_one w.len w.longest h.0)
    same_flaw NumberTooWide OpenComment w e h = absurd (no_one w.len w.longest h.0)
    same_flaw NumberTooWide OpenText w e h = absurd (no_one w.len w.longest h.0)
    same_flaw NumberTooWide NumberTooWide w e h = refl
    same_flaw TooManyTokens BadByte w e h = absurd (no_one w.1.len w.1.longest h.0)
    same_flaw TooManyTokens OpenComment w e h = absurd (no_one w.1.len w.1.longest h.0)
    same_flaw TooManyTokens OpenText w e h = absurd (no_one w.1.len w.1.longest h.0)
    same_flaw TooManyTokens NumberTooWide w e h = absurd (no_token w.1 h.len h.longest (wide_kind (take h.len (b ∷ bytes)) h.number h.wide))

    -- a lexeme that is read is one token too many
    one_more : (flaw : Flaw) → HasFlaw room after_number (b ∷ bytes) flaw → (after_number && is_letter b) ≡ false → (n : ℕ) (k : Option TokenKind) (numeric : Bool) → Read n k numeric (b ∷ bytes) → flaw ≡ TooManyTokens
    one_more BadByte (inl l) e n k numeric h = let f : false ≡ true = sym e ∙ l in absurd cc
    one_more BadByte (inr w) e n k numeric h = absurd (no_one n h.long w.0)
    one_more OpenComment w e n k numeric h = absurd (no_one n h.long w.0)
    one_more OpenText w e n k numeric h = absurd (no_one n h.long w.0)
    one_more NumberTooWide w e n k numeric h =
        let same : w.len ≡ n = one_length w.len n (b ∷ bytes) w.longest h.long in
        let number : is_number (take n (b ∷ bytes)) ≡ true = ap (λ m. is_number (take m (b ∷ bytes))) (sym same) ∙ w.number in
        let some : is_some (spelled_number (take n (b ∷ bytes))) ≡ true = h.sound (sym h.number ∙ number) in
        let none : is_some (spelled_number (take n (b ∷ bytes))) ≡ false = ap (λ m. is_some (spelled_number (take m (b ∷ bytes)))) (sym same) ∙ ap is_some w.wide in absurd cc
    one_more TooManyTokens w e n k numeric h = refl

    at_lexeme : (flaw : Flaw) → HasFlaw room after_number (b ∷ bytes) flaw → (after_number && is_letter b) ≡ false → (r : Lexeme) → lexeme_after after_number b bytes ≡ r → Reads r (b ∷ bytes) → Refuses flaw
    at_lexeme flaw w e (Gap n) s h =
        let more : flaw ≡ TooManyTokens = one_more flaw w e n None false h in
        let many : HasFlaw room after_number (b ∷ bytes) TooManyTokens = subst (HasFlaw room after_number (b ∷ bytes)) more w in absurd (no_token many.1 n h.long h.kind)
    at_lexeme flaw w e (Piece kind n) s h =
        let more : flaw ≡ TooManyTokens = one_more flaw w e n (Some kind) (is_number_kind kind) h in
        let many : HasFlaw room after_number (b ∷ bytes) TooManyTokens = subst (HasFlaw room after_number (b ∷ bytes)) more w in
        subst Refuses (sym more) (subst (λ k. tokens_from file k 0 after_number at (b ∷ bytes) ≡ Err (fault_of file at TooManyTokens)) (sym many.0) (full file n kind after_number at b bytes s))
    at_lexeme flaw w e (No other) s h = subst Refuses (sym (same_flaw flaw other w e h)) (flawed file room other after_number at b bytes s)

    letter_of : (t letter : Bool) → (t && letter) ≡ true → letter ≡ true
    letter_of true letter e = e
    letter_of false letter e = cc

    refuses : (flaw : Flaw) → HasFlaw room after_number (b ∷ bytes) flaw → Refuses flaw
    refuses flaw w = go (after_number && is_letter b) refl
      where
        go : (t : Bool) → (after_number && is_letter b) ≡ t → Refuses flaw
        go true e = at_letter flaw w e (letter_of after_number (is_letter b) e)
        go false e = at_lexeme flaw w e (lexeme b bytes) (lexeme_at after_number b bytes e) (reads b bytes)

  refused_rest : (at : Place) (room : ℕ) (after_number : Bool) (rest : List ℕ) (flaw : Flaw) → 0 < length rest → HasFlaw room after_number rest flaw → tokens_from file room 0 after_number at rest ≡ Err (fault_of file at flaw)
  refused_rest at room after_number [] flaw l w = absurd (omega arith)
  refused_rest at room after_number (b ∷ rest) flaw l w = refuses at room after_number b rest flaw w

  -- what the scanner makes of a file whose bytes begin with these lexemes
  module _ (bytes : List ℕ) (lexemes : List (List ℕ)) (rest : List ℕ) (front : BeginsWith (behind_mark bytes) lexemes rest) where
    abbrev these : List Token
    these = tokens_of (first_place bytes) lexemes

    passed_to : length these ≤ max_tokens → lexing file bytes ≡ with_front these (tokens_from file (max_tokens - length these) 0 (ends false lexemes) (after (first_place bytes) (concat lexemes)) rest)
    passed_to few =
        skip file max_tokens (mark_len bytes) false opening bytes
        ∙ through lexemes (first_place bytes) max_tokens false (behind_mark bytes) rest front.joined front.longest front.numbers (λ t. cc) few

    whole : rest ≡ [] → length these ≤ max_tokens → lexing file bytes ≡ Ok these
    whole e few =
        passed_to few
        ∙ ap (λ z. with_front these (tokens_from file (max_tokens - length these) 0 (ends false lexemes) (after (first_place bytes) (concat lexemes)) z)) e
        ∙ ap (λ z. Ok z) (append-nil these)

    broken : (flaw : Flaw) → 0 < length rest → HasFlaw (max_tokens - length these) (ends false lexemes) rest flaw → length these ≤ max_tokens
        → lexing file bytes ≡ Err (fault_of file (after (first_place bytes) (concat lexemes)) flaw)
    broken flaw some cause few =
        passed_to few
        ∙ ap (with_front these) (refused_rest (after (first_place bytes) (concat lexemes)) (max_tokens - length these) (ends false lexemes) rest flaw some cause)

  module _ (bytes : List ℕ) where
    front_of : Front max_tokens false (first_place bytes) (behind_mark bytes)
    front_of = fronted (length (behind_mark bytes)) max_tokens false (first_place bytes) (behind_mark bytes) (omega arith)

    begun : BeginsWith (behind_mark bytes) front_of.lexemes front_of.rest
    begun = record { joined = front_of.joined; longest = front_of.longest; numbers = front_of.numbers }

    -- the tokens of a file
    pub tokens_divided : (tokens : List Token) → lexing file bytes ≡ Ok tokens → AreTokensOf bytes tokens
    tokens_divided tokens e = go front_of.ending
      where
        go : (front_of.rest ≡ []) ⊎ Flawed (max_tokens - length (tokens_of (first_place bytes) front_of.lexemes)) (ends false front_of.lexemes) front_of.rest → AreTokensOf bytes tokens
        go (inl none) =
            let given : Ok tokens ≡ Ok (tokens_of (first_place bytes) front_of.lexemes) = sym e ∙ whole bytes front_of.lexemes front_of.rest begun none front_of.few in
            record { lexemes = front_of.lexemes; division = subst (BeginsWith (behind_mark bytes) front_of.lexemes) none begun; same = (cc) }
        go (inr f) = let given = broken bytes front_of.lexemes front_of.rest begun f.flaw f.some f.cause front_of.few in absurd cc

    -- the first fault of a file
    pub fault_found : (fault : LexFault) → lexing file bytes ≡ Err fault → HasLexFault file bytes fault
    fault_found fault e = go front_of.ending
      where
        go : (front_of.rest ≡ []) ⊎ Flawed (max_tokens - length (tokens_of (first_place bytes) front_of.lexemes)) (ends false front_of.lexemes) front_of.rest → HasLexFault file bytes fault
        go (inl none) = let given = whole bytes front_of.lexemes front_of.rest begun none front_of.few in absurd cc
        go (inr f) =
            let given : Err fault ≡ Err (fault_of file (after (first_place bytes) (concat front_of.lexemes)) f.flaw) = sym e ∙ broken bytes front_of.lexemes front_of.rest begun f.flaw f.some f.cause front_of.few in
            record {
              lexemes = front_of.lexemes;
              rest = front_of.rest;
              begun = begun;
              allowed = front_of.few;
              some = f.some;
              flaw = f.flaw;
              cause = f.cause;
              same = (cc);
            }

    fault_computed : (fault : LexFault) → HasLexFault file bytes fault → lexing file bytes ≡ Err fault
    fault_computed fault h = broken bytes h.lexemes h.rest h.begun h.flaw h.some h.cause h.allowed ∙ ap (λ z. Err z) (sym h.same)

    refused : (fault : LexFault) → lexing file bytes ≡ Err fault → HasNoTokens bytes
    refused fault e lexemes d = omega (arith, not_few)
      where
        not_few : length (tokens_of (first_place bytes) lexemes) ≤ 65536 → ⊥
        not_few l = let given = whole bytes lexemes [] d refl l in cc

    pub no_tokens : (fault : LexFault) → OrMemory Memory (HasLexFault file bytes) fault → OrMemory Memory (λ _. HasNoTokens bytes) fault
    no_tokens fault (inl m) = inl m
    no_tokens fault (inr h) = inr (refused fault (fault_computed fault h))

pub one_fault : FaultIsUnique
one_fault file bytes one other p q = let e : Err one ≡ Err other = sym (fault_computed file bytes one p) ∙ fault_computed file bytes other q in cc
