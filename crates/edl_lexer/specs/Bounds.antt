-- Where the tokens of a file lie in its bytes.
use Rattle.std.specs.Prelude.{ℕ, ◌+◌, ◌<◌, ◌≤◌, ◌^◌, List, [], ◌∷◌, length, All}
use Rattle.edl_lexer.specs.declared.Token.{Token}
use Rattle.edl_lexer.specs.declared.TokenKind.{TokenKind}
use Rattle.edl_lexer.specs.declared.TokenKind.TheVariants as kinds

-- how many bytes a token of this kind has at least: a text has two quotes
abbrev pub least_len : TokenKind → ℕ
least_len kinds.Name = 0
least_len (kinds.Number n) = 0
least_len kinds.Text = 2
least_len (kinds.Mark b) = 0

-- the token lies in the bytes
abbrev pub LiesIn : List ℕ → Token → Type 0
LiesIn bytes t = (t.from + least_len t.kind ≤ t.upto) × (t.upto ≤ length bytes)

-- the tokens lie in the bytes, and their numbers, from one on, fit
pub record LieIn (bytes : List ℕ) (tokens : List Token) (number : ℕ) : Type 0 where
  pub inside : All (LiesIn bytes) tokens
  pub fits : number + length tokens < 2 ^ 32

-- the first token begins at this byte or behind it, and each other where the one before ends or behind that
abbrev pub AreInOrder : ℕ → List Token → Type 0
AreInOrder n [] = Unit {0}
AreInOrder n (t ∷ ts) = (n ≤ t.from) × AreInOrder t.upto ts
