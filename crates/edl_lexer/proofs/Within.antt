-- The tokens of a file lie in its bytes, in order.
use Rattle.std.specs.Prelude.{slice_index, option_map, option_to_list, All}
use Rattle.std.proofs.Common.{length-take, length-drop, length-append, arith, ◌≡◌, ◌≤◌, ◌+◌, ℕ, true, List, [], ◌∷◌, ◌++◌, length, take, drop, refl, sym, ◌∙◌, ap, subst, Option, Some, None}
use Rattle.std.specs.List.{concat, prefix_len}
use Rattle.std.proofs.lemmas.Bool.{eqb-true}
use Rattle.std.proofs.lemmas.List.Elements.{All-nil, All-cons, All-append}
use Rattle.sgx_base.specs.Numbers.{spelled_number}
use Rattle.edl_lexer.specs.declared.Token.{Token}
use Rattle.edl_lexer.specs.declared.TokenKind.{TokenKind}
use Rattle.edl_lexer.specs.declared.TokenKind.TheVariants as kinds
use Rattle.edl_lexer.specs.declared.place.Place.{Place}
use Rattle.edl_lexer.specs.declared.scan.Class.{Class}
use Rattle.edl_lexer.specs.declared.scan.Class.TheVariants.{Blank, Letter, Digit, Quote, Slash, Marking, Other}
use Rattle.edl_lexer.specs.Bounds.{least_len, LiesIn, LieIn, AreInOrder}
use Rattle.edl_lexer.specs.Division.{AreTokensOf, first_place, behind_mark, is_lexeme, is_lexeme_of, AreLongest, kind_of, kind_by, tokens_of}
use Rattle.edl_lexer.specs.Lexemes.{class_of, is_inside_text}
use Rattle.edl_lexer.specs.Lexing.{opening, mark_len, after, token}
use Rattle.edl_lexer.proofs.Reading.{left_of}
use Rattle.edl_lexer.proofs.Turns.{offset-after}
use Rattle.edl_lexer.proofs.Divided.{front_is, rest_is}

number_by : (r : Option ℕ) → option_map (λ n. kinds.Number n) r ≡ Some kinds.Text → ⊥
number_by (Some n) e = cc
number_by None e = cc

-- a text has its two quotes
text_by : (cls : Class) (lexeme : List ℕ) → is_lexeme_of cls lexeme ≡ true → kind_by cls lexeme ≡ Some kinds.Text → 2 ≤ length lexeme
text_by Blank lexeme p e = absurd cc
text_by Letter lexeme p e = absurd cc
text_by Digit lexeme p e = absurd (number_by (spelled_number lexeme) e)
text_by Quote lexeme p e =
    let q : length (drop 1 lexeme) ≡ prefix_len is_inside_text (drop 1 lexeme) + 1 = eqb-true _ _ (left_of _ _ p) in omega (arith, q, length-drop 1 lexeme)
text_by Slash lexeme p e = absurd cc
text_by Marking lexeme p e = absurd cc
text_by Other lexeme p e = absurd cc

long_enough : (kind : TokenKind) (lexeme : List ℕ) → is_lexeme lexeme ≡ true → kind_of lexeme ≡ Some kind → least_len kind ≤ length lexeme
long_enough kinds.Name lexeme p e = omega arith
long_enough (kinds.Number n) lexeme p e = omega arith
long_enough kinds.Text lexeme p e = text_by (class_of (slice_index lexeme 0)) lexeme p e
long_enough (kinds.Mark b) lexeme p e = omega arith

module _ (bytes : List ℕ) where
  one_lies : (lexeme : List ℕ) (at : Place) (k : Option TokenKind) → ((kind : TokenKind) → k ≡ Some kind → least_len kind ≤ length lexeme)
      → at.offset + length lexeme ≤ length bytes → All (LiesIn bytes) (option_to_list (option_map (λ kind. token kind (length lexeme) at) k))
  one_lies lexeme at None long l = All-nil (LiesIn bytes)
  one_lies lexeme at (Some kind) long l =
      let first : LiesIn bytes (token kind (length lexeme) at) = (omega (arith, long kind refl), l) in
      All-cons (LiesIn bytes) (token kind (length lexeme) at) [] first (All-nil (LiesIn bytes))

  lie : (lexemes : List (List ℕ)) (at : Place) (left : List ℕ) → concat lexemes ++ [] ≡ left → AreLongest left lexemes → at.offset + length (concat lexemes) ≤ length bytes → All (LiesIn bytes) (tokens_of at lexemes)
  lie [] at left e long l = All-nil (LiesIn bytes)
  lie (lexeme ∷ others) at left e long l =
      let whole = length-append lexeme (concat others) in
      let is_one : is_lexeme lexeme ≡ true = ap is_lexeme (sym (front_is left lexeme (concat others) [] e)) ∙ long.0.is_one in
      All-append (LiesIn bytes) _ _ (one_lies lexeme at (kind_of lexeme) (λ kind e. long_enough kind lexeme is_one e) (omega (arith, whole, l)))
      (lie others (after at lexeme) (drop (length lexeme) left) (sym (rest_is left lexeme (concat others) [] e)) long.1 (omega (arith, whole, l, offset-after lexeme at)))

followed : (k : Option TokenKind) (lexeme : List ℕ) (at : Place) (rest : List Token) (n : ℕ) → n ≤ at.offset → ((m : ℕ) → m ≤ at.offset + length lexeme → AreInOrder m rest)
    → AreInOrder n (option_to_list (option_map (λ kind. token kind (length lexeme) at) k) ++ rest)
followed None lexeme at rest n l f = f n (omega (arith, l))
followed (Some kind) lexeme at rest n l f = (l, f (at.offset + length lexeme) (omega arith))

follow : (lexemes : List (List ℕ)) (at : Place) (n : ℕ) → n ≤ at.offset → AreInOrder n (tokens_of at lexemes)
follow [] at n l = tt
follow (lexeme ∷ others) at n l =
    followed (kind_of lexeme) lexeme at (tokens_of (after at lexeme) others) n l (λ m h. follow others (after at lexeme) m (omega (arith, h, offset-after lexeme at)))

module _ (bytes : List ℕ) (tokens : List Token) (are : AreTokensOf bytes tokens) where
  pub tokens_lie : length tokens ≤ 65536 → LieIn bytes tokens 0
  tokens_lie few = record {
    inside = subst (All (LiesIn bytes)) (sym are.same) (lie bytes are.lexemes (first_place bytes) (behind_mark bytes) are.division.joined are.division.longest (omega (
      arith,
      length-append (concat are.lexemes) [],
      offset-after (take (mark_len bytes) bytes) opening,
      ap length are.division.joined,
      length-take (mark_len bytes) bytes,
      length-drop (mark_len bytes) bytes,
    )));
    fits = omega (arith, few);
  }

  pub tokens_follow : AreInOrder 0 tokens
  tokens_follow = subst (AreInOrder 0) (sym are.same) (follow are.lexemes (first_place bytes) 0 (omega arith))
