-- The symbols that the grammar speaks of, one for each token.
use Rattle.std.specs.Prelude.{ℕ, suc, ◌+◌, ◌-◌, Bool, List, [], ◌∷◌, ◌++◌, slice_range, codes}
use Rattle.std.specs.List.{list_any}
use Rattle.std.specs.Str.{bytes_eq}
use Rattle.edl_lexer.specs.declared.Token.{Token}
use Rattle.edl_lexer.specs.declared.TokenKind.{TokenKind}
use Rattle.edl_lexer.specs.declared.TokenKind.TheVariants as kinds

-- a name or a reserved word, a number, a text without its quotes, or a mark
pub data Symbol : Type 0 where
  Word : List ℕ → Symbol
  Number : ℕ → Symbol
  Text : List ℕ → Symbol
  Mark : ℕ → Symbol

abbrev pub symbol_by : List ℕ → Token → TokenKind → Symbol
symbol_by bytes t kinds.Name = Word (slice_range bytes t.from t.upto)
symbol_by bytes t (kinds.Number n) = Number n
symbol_by bytes t kinds.Text = Text (slice_range bytes (t.from + 1) (t.upto - 1))
symbol_by bytes t (kinds.Mark b) = Mark b

-- a symbol, and the number of its token
pub record Lexed : Type 0 where
  pub token : ℕ
  pub symbol : Symbol

-- the symbols of the tokens of these bytes, which are numbered from n on
abbrev pub symbols_from : ℕ → List ℕ → List Token → List Lexed
symbols_from n bytes [] = []
symbols_from n bytes (t ∷ ts) = record { token = n; symbol = symbol_by bytes t t.kind } ∷ symbols_from (suc n) bytes ts

abbrev pub symbols : List ℕ → List Token → List Lexed
symbols = symbols_from 0

-- the reserved words of files and blocks
abbrev pub file_words : List (List ℕ)
file_words =
    codes "enclave" ∷ codes "include" ∷ codes "from" ∷ codes "import" ∷ codes "trusted" ∷ codes "untrusted"
    ∷ codes "public" ∷ codes "allow" ∷ codes "transition_using_threads" ∷ []

-- the reserved words of types, but for numbers
abbrev pub type_words : List (List ℕ)
type_words = codes "enum" ∷ codes "struct" ∷ codes "union" ∷ codes "const" ∷ codes "void" ∷ []

-- the reserved words of types of numbers
abbrev pub number_words : List (List ℕ)
number_words =
    codes "char" ∷ codes "short" ∷ codes "int" ∷ codes "long" ∷ codes "signed" ∷ codes "unsigned" ∷ codes "float" ∷ codes "double" ∷ []

-- the words that are no names
abbrev pub reserved : List (List ℕ)
reserved = file_words ++ type_words ++ number_words

abbrev pub is_reserved : List ℕ → Bool
is_reserved word = list_any (bytes_eq word) reserved
