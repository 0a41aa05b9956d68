-- One lexeme after another.
use Rattle.std.specs.Prelude.{if◌then◌else◌, ◌==◌}
use Rattle.std.proofs.Common.{get_or, length-take, length-drop, arith, ◌≡◌, ◌≤◌, ◌<◌, ◌+◌, ◌-◌, ℕ, zero, suc, Bool, true, false, List, [], ◌∷◌, ◌++◌, length, take, drop, refl, sym, ◌∙◌, ap, subst, append_assoc, Result, Ok, Err}
use Rattle.std.proofs.Math.Seq.{take-length}
use Rattle.std.proofs.lemmas.List.{drop-drop, append-nil}
use Rattle.edl_lexer.specs.declared.Token.{Token}
use Rattle.edl_lexer.specs.declared.TokenKind.{TokenKind}
use Rattle.edl_lexer.specs.declared.place.Place.{Place}
use Rattle.edl_lexer.specs.declared.scan.Flaw.{Flaw}
use Rattle.edl_lexer.specs.declared.scan.Flaw.TheVariants.{TooManyTokens}
use Rattle.edl_lexer.specs.declared.LexFault.{LexFault}
use Rattle.edl_lexer.specs.declared.scan.Lexeme.TheVariants.{Gap, Piece, No}
use Rattle.edl_lexer.specs.Lexemes.{lexeme_after}
use Rattle.edl_lexer.specs.Lexing.{tokens_from, after, step, token, is_number, fault_of, with_token}

abbrev pub with_front : List Token → Result (List Token) LexFault → Result (List Token) LexFault
with_front front (Ok ts) = Ok (front ++ ts)
with_front front (Err e) = Err e

pub with_front-token : (front : List Token) (t : Token) (r : Result (List Token) LexFault) → with_front (front ++ t ∷ []) r ≡ with_front front (with_token t r)
with_front-token front t (Ok ts) = ap (λ z. Ok z) (append_assoc front (t ∷ []) ts)
with_front-token front t (Err e) = refl

pub with_front-nothing : (r : Result (List Token) LexFault) → with_front [] r ≡ r
with_front-nothing (Ok ts) = refl
with_front-nothing (Err e) = refl

pub with_front-one : (t : Token) (r : Result (List Token) LexFault) → with_front (t ∷ []) r ≡ with_token t r
with_front-one t (Ok ts) = refl
with_front-one t (Err e) = refl

pub with_front-front : (one other : List Token) (r : Result (List Token) LexFault) → with_front one (with_front other r) ≡ with_front (one ++ other) r
with_front-front one other (Ok ts) = ap (λ z. Ok z) (sym (append_assoc one other ts))
with_front-front one other (Err e) = refl

pub begun : (front : List Token) → front ≡ [] → (f : ℕ → Result (List Token) LexFault) → with_front front (f (65536 - length front)) ≡ f 65536
begun front e f = subst (λ z. with_front z (f (65536 - length z)) ≡ f 65536) (sym e) (with_front-nothing (f 65536))

module _ (file : ℕ) where
  -- the rest of a lexeme is passed over
  pub skip : (room k : ℕ) (after_number : Bool) (at : Place) (bytes : List ℕ) → tokens_from file room k after_number at bytes ≡ tokens_from file room 0 after_number (after at (take k bytes)) (drop k bytes)
  skip room zero after_number at [] = refl
  skip room zero after_number at (b ∷ bytes) = refl
  skip room (suc k) after_number at [] = refl
  skip room (suc k) after_number at (b ∷ bytes) = skip room k after_number (step at b) bytes

  pub gap_turn : (room n : ℕ) (after_number : Bool) (at : Place) (b : ℕ) (bytes : List ℕ) → lexeme_after after_number b bytes ≡ Gap n → 0 < n
      → tokens_from file room 0 after_number at (b ∷ bytes) ≡ tokens_from file room 0 false (after at (take n (b ∷ bytes))) (drop n (b ∷ bytes))
  gap_turn room zero after_number at b bytes e l = absurd (omega arith)
  gap_turn room (suc n) after_number at b bytes e l = rw (tokens_from, e) (ap (λ k. tokens_from file room k false (step at b) bytes) (omega arith) ∙ skip room n false (step at b) bytes)

  pub piece_turn : (room n : ℕ) (kind : TokenKind) (after_number : Bool) (at : Place) (b : ℕ) (bytes : List ℕ) → lexeme_after after_number b bytes ≡ Piece kind n → 0 < n
      → tokens_from file (suc room) 0 after_number at (b ∷ bytes) ≡ with_token (token kind n at) (tokens_from file room 0 (is_number kind) (after at (take n (b ∷ bytes))) (drop n (b ∷ bytes)))
  piece_turn room zero kind after_number at b bytes e l = absurd (omega arith)
  piece_turn room (suc n) kind after_number at b bytes e l =
      rw (tokens_from, e) (ap (λ r. with_token (token kind (suc n) at) r) (ap (λ k. tokens_from file room k (is_number kind) (step at b) bytes) (omega arith) ∙ skip room n (is_number kind) (step at b) bytes))

  pub full : (n : ℕ) (kind : TokenKind) (after_number : Bool) (at : Place) (b : ℕ) (bytes : List ℕ) → lexeme_after after_number b bytes ≡ Piece kind n
      → tokens_from file 0 0 after_number at (b ∷ bytes) ≡ Err (fault_of file at TooManyTokens)
  full n kind after_number at b bytes e = rw (tokens_from, e) refl

  pub flawed : (room : ℕ) (flaw : Flaw) (after_number : Bool) (at : Place) (b : ℕ) (bytes : List ℕ) → lexeme_after after_number b bytes ≡ No flaw
      → tokens_from file room 0 after_number at (b ∷ bytes) ≡ Err (fault_of file at flaw)
  flawed room flaw after_number at b bytes e = rw (tokens_from, e) refl

-- where a place goes
abbrev moved : Place → Bool → Place
moved at t = if t then record { offset = at.offset + 1; line = at.line + 1; column = 1 } else record { offset = at.offset + 1; line = at.line; column = at.column + 1 }

pub offset-step : (at : Place) (b : ℕ) → (step at b).offset ≡ at.offset + 1
offset-step at b = go (b == 10)
  where
    go : (t : Bool) → (moved at t).offset ≡ at.offset + 1
    go true = refl
    go false = refl

pub line-step : (at : Place) (b : ℕ) → (step at b).line ≤ at.line + 1
line-step at b = go (b == 10)
  where
    go : (t : Bool) → (moved at t).line ≤ at.line + 1
    go true = omega arith
    go false = omega arith

pub column-step : (at : Place) (b : ℕ) → (step at b).column ≤ at.column + 1
column-step at b = go (b == 10)
  where
    go : (t : Bool) → (moved at t).column ≤ at.column + 1
    go true = omega arith
    go false = omega arith

pub offset-after : (bytes : List ℕ) (at : Place) → (after at bytes).offset ≡ at.offset + length bytes
offset-after [] at = omega arith
offset-after (b ∷ bytes) at = omega (arith, offset-after bytes (step at b), offset-step at b)

pub line-after : (bytes : List ℕ) (at : Place) → (after at bytes).line ≤ at.line + length bytes
line-after [] at = omega arith
line-after (b ∷ bytes) at = omega (arith, line-after bytes (step at b), line-step at b)

pub column-after : (bytes : List ℕ) (at : Place) → (after at bytes).column ≤ at.column + length bytes
column-after [] at = omega arith
column-after (b ∷ bytes) at = omega (arith, column-after bytes (step at b), column-step at b)

-- a lexeme at the front of what is left
module _ (file room : ℕ) (after_number : Bool) (at : Place) where
  pub gap_front : (n : ℕ) (ys : List ℕ) → 0 < length ys → lexeme_after after_number (get_or ys 0 0) (drop 1 ys) ≡ Gap n → 0 < n
      → tokens_from file room 0 after_number at ys ≡ tokens_from file room 0 false (after at (take n ys)) (drop n ys)
  gap_front n [] l e p = absurd (omega arith)
  gap_front n (b ∷ bytes) l e p = gap_turn file room n after_number at b bytes e p

  pub piece_front : (n : ℕ) (kind : TokenKind) (ys : List ℕ) → 0 < length ys → lexeme_after after_number (get_or ys 0 0) (drop 1 ys) ≡ Piece kind n → 0 < n
      → tokens_from file (suc room) 0 after_number at ys ≡ with_token (token kind n at) (tokens_from file room 0 (is_number kind) (after at (take n ys)) (drop n ys))
  piece_front n kind [] l e p = absurd (omega arith)
  piece_front n kind (b ∷ bytes) l e p = piece_turn file room n kind after_number at b bytes e p

-- where the place is after n bytes more, it stands at what is left
pub left_at : (at : Place) (bytes : List ℕ) (n : ℕ) → n ≤ length (drop at.offset bytes) → (after at (take n (drop at.offset bytes))).offset ≡ at.offset + n
left_at at bytes n l = omega (arith, offset-after (take n (drop at.offset bytes)) at, length-take n (drop at.offset bytes))

-- what is left, as the code cuts it
cut_at : (bytes : List ℕ) (n : ℕ) → take (length bytes - n) (drop n bytes) ≡ drop n bytes
cut_at bytes n = subst (λ k. take k (drop n bytes) ≡ drop n bytes) (length-drop n bytes) (take-length (drop n bytes))

-- one turn of a loop that stands at a place, over n bytes
pub record Turned (at new : Place) (n : ℕ) : Type 0 where
  pub offset : new.offset ≡ at.offset + n
  pub line : new.line ≤ at.line + n
  pub column : new.column ≤ at.column + n

module _ (bytes : List ℕ) (at : Place) (n : ℕ) (low : at.offset < length bytes) (fits : n ≤ length (take (length bytes - at.offset) (drop at.offset bytes))) (new : Place)
    (is : new ≡ after at (take n (take (length bytes - at.offset) (drop at.offset bytes)))) where
  abbrev pub ys : List ℕ
  ys = take (length bytes - at.offset) (drop at.offset bytes)

  pub turned : Turned at new n
  turned = rw is (record {
    offset = omega (arith, offset-after (take n ys) at, length-take n ys, fits);
    line = omega (arith, line-after (take n ys) at, length-take n ys, fits);
    column = omega (arith, column-after (take n ys) at, length-take n ys, fits);
  })

  behind : drop n ys ≡ drop new.offset bytes
  behind = ap (drop n) (cut_at bytes at.offset) ∙ drop-drop n at.offset bytes ∙ ap (λ k. drop k bytes) (sym turned.offset)

  some_left : 0 < length ys
  some_left = let e : length ys ≡ length bytes - at.offset = ap length (cut_at bytes at.offset) ∙ length-drop at.offset bytes in omega arith

  pub gap_at : (file room : ℕ) (after_number : Bool) → Gap n ≡ lexeme_after after_number (get_or ys 0 0) (drop 1 ys) → 0 < n
      → tokens_from file room 0 after_number at (drop at.offset bytes) ≡ tokens_from file room 0 false new (drop new.offset bytes)
  gap_at file room after_number e p =
      ap (tokens_from file room 0 after_number at) (sym (cut_at bytes at.offset)) ∙ gap_front file room after_number at n ys some_left (sym e) p
      ∙ ap (λ a. tokens_from file room 0 false a (drop n ys)) (sym is) ∙ ap (tokens_from file room 0 false new) behind

  pub piece_at : (file room : ℕ) (kind : TokenKind) (after_number : Bool) → Piece kind n ≡ lexeme_after after_number (get_or ys 0 0) (drop 1 ys) → 0 < n
      → tokens_from file (suc room) 0 after_number at (drop at.offset bytes) ≡ with_token (token kind n at) (tokens_from file room 0 (is_number kind) new (drop new.offset bytes))
  piece_at file room kind after_number e p =
      ap (tokens_from file (suc room) 0 after_number at) (sym (cut_at bytes at.offset)) ∙ piece_front file room after_number at n kind ys some_left (sym e) p
      ∙ ap (λ a. with_token (token kind n at) (tokens_from file room 0 (is_number kind) a (drop n ys))) (sym is) ∙ ap (λ z. with_token (token kind n at) (tokens_from file room 0 (is_number kind) new z)) behind

-- a text that stops at what is left
module _ (bytes : List ℕ) (at : Place) (low : at.offset < length bytes) (file : ℕ) (after_number : Bool) where
  abbrev left : List ℕ
  left = take (length bytes - at.offset) (drop at.offset bytes)

  left_some : 0 < length left
  left_some = let e : length left ≡ length bytes - at.offset = ap length (cut_at bytes at.offset) ∙ length-drop at.offset bytes in omega arith

  flawed_front : (room : ℕ) (flaw : Flaw) (ys : List ℕ) → 0 < length ys → lexeme_after after_number (get_or ys 0 0) (drop 1 ys) ≡ No flaw
      → tokens_from file room 0 after_number at ys ≡ Err (fault_of file at flaw)
  flawed_front room flaw [] l e = absurd (omega arith)
  flawed_front room flaw (b ∷ ys) l e = flawed file room flaw after_number at b ys e

  full_front : (n : ℕ) (kind : TokenKind) (ys : List ℕ) → 0 < length ys → lexeme_after after_number (get_or ys 0 0) (drop 1 ys) ≡ Piece kind n
      → tokens_from file 0 0 after_number at ys ≡ Err (fault_of file at TooManyTokens)
  full_front n kind [] l e = absurd (omega arith)
  full_front n kind (b ∷ ys) l e = full file n kind after_number at b ys e

  pub flawed_at : (room : ℕ) (flaw : Flaw) → No flaw ≡ lexeme_after after_number (get_or left 0 0) (drop 1 left)
      → tokens_from file room 0 after_number at (drop at.offset bytes) ≡ Err (fault_of file at flaw)
  flawed_at room flaw e = ap (tokens_from file room 0 after_number at) (sym (cut_at bytes at.offset)) ∙ flawed_front room flaw left left_some (sym e)

  pub full_at : (room n : ℕ) (kind : TokenKind) → room ≡ 0 → Piece kind n ≡ lexeme_after after_number (get_or left 0 0) (drop 1 left)
      → tokens_from file room 0 after_number at (drop at.offset bytes) ≡ Err (fault_of file at TooManyTokens)
  full_at room n kind none e =
      ap (λ r. tokens_from file r 0 after_number at (drop at.offset bytes)) none ∙ ap (tokens_from file 0 0 after_number at) (sym (cut_at bytes at.offset)) ∙ full_front n kind left left_some (sym e)

-- nothing is left
pub at_end : (file room : ℕ) (after_number : Bool) (at : Place) (tokens : List Token) (rest : List ℕ) → length rest ≤ 0
    → with_front tokens (tokens_from file room 0 after_number at rest) ≡ Ok tokens
at_end file room after_number at tokens [] l = ap (λ z. Ok z) (append-nil tokens)
at_end file room after_number at tokens (b ∷ rest) l = absurd (omega arith)
