-- The division of a text into lexemes, longest first, and its tokens.
use Rattle.std.specs.Prelude.{ℕ, ◌+◌, ◌<◌, ◌≤◌, ◌≡◌, Bool, true, false, ◌&&◌, ◌||◌, ◌==◌, nat_eq, not, List, [], ◌∷◌, ◌++◌, length, take, drop, slice_index, Option, Some, None, option_map, option_to_list, IsTrue, IsFalse, IsSome, codes}
use Rattle.std.specs.List.{prefix_len, starts_with, list_all, concat}
use Rattle.sgx_base.specs.Numbers.{is_decimal, is_hexadecimal, spelled_number}
use Rattle.edl_lexer.specs.declared.Token.{Token}
use Rattle.edl_lexer.specs.declared.TokenKind.{TokenKind}
use Rattle.edl_lexer.specs.declared.TokenKind.TheVariants as kinds
use Rattle.edl_lexer.specs.declared.place.Place.{Place}
use Rattle.edl_lexer.specs.declared.scan.Class.{Class}
use Rattle.edl_lexer.specs.declared.scan.Class.TheVariants.{Blank, Letter, Digit, Quote, Slash, Marking, Other}
use Rattle.edl_lexer.specs.Lexemes.{class_of, is_letter, is_word, is_inside_text, close_len}
use Rattle.edl_lexer.specs.Lexing.{after, token, opening, mark_len, max_tokens}

-- what stands behind a text's first quote: bytes inside it, then a quote, and nothing more
abbrev pub is_text_end : List ℕ → Bool
is_text_end bytes =
    length bytes == prefix_len is_inside_text bytes + 1 && slice_index bytes (prefix_len is_inside_text bytes) == 34

-- whether there is an end, and it is this one
abbrev pub is_at : ℕ → Option ℕ → Bool
is_at n (Some len) = len == n
is_at n None = false

-- `//` and no line feed, or `/*` and what ends with the first `*/`
abbrev pub is_comment : List ℕ → Bool
is_comment bytes =
    starts_with nat_eq bytes (codes "//") && list_all (λ b. not (b == 10)) bytes
    || starts_with nat_eq bytes (codes "/*") && is_at (length (drop 2 bytes)) (close_len (drop 2 bytes))

-- whether the bytes are one lexeme, given what the first of them says
abbrev pub is_lexeme_of : Class → List ℕ → Bool
is_lexeme_of Blank bytes = length bytes == 1
is_lexeme_of Letter bytes = list_all is_word bytes
is_lexeme_of Digit bytes = is_decimal bytes || is_hexadecimal bytes
is_lexeme_of Quote bytes = is_text_end (drop 1 bytes)
is_lexeme_of Slash bytes = is_comment bytes
is_lexeme_of Marking bytes = length bytes == 1
is_lexeme_of Other bytes = false

-- whether the bytes are one lexeme: a blank, a comment or a token
abbrev pub is_lexeme : List ℕ → Bool
is_lexeme bytes = is_lexeme_of (class_of (slice_index bytes 0)) bytes

-- whether lexemes of a class are numbers
abbrev pub is_number_of : Class → Bool
is_number_of Blank = false
is_number_of Letter = false
is_number_of Digit = true
is_number_of Quote = false
is_number_of Slash = false
is_number_of Marking = false
is_number_of Other = false

-- whether a lexeme is a number
abbrev pub is_number : List ℕ → Bool
is_number lexeme = is_number_of (class_of (slice_index lexeme 0))

-- the kind of token that a lexeme of a class is
abbrev pub kind_by : Class → List ℕ → Option TokenKind
kind_by Blank lexeme = None
kind_by Letter lexeme = Some kinds.Name
kind_by Digit lexeme = option_map (λ n. kinds.Number n) (spelled_number lexeme)
kind_by Quote lexeme = Some kinds.Text
kind_by Slash lexeme = None
kind_by Marking lexeme = Some (kinds.Mark (slice_index lexeme 0))
kind_by Other lexeme = None

-- the kind of token that a lexeme is; none for a blank and a comment
abbrev pub kind_of : List ℕ → Option TokenKind
kind_of lexeme = kind_by (class_of (slice_index lexeme 0)) lexeme

-- the first n bytes are a lexeme, and no more of them are one
pub record IsLongest (n : ℕ) (bytes : List ℕ) : Type 0 where
  pub within : n ≤ length bytes
  pub is_one : IsTrue (is_lexeme (take n bytes))
  pub longest : (m : ℕ) → n < m → m ≤ length bytes → IsFalse (is_lexeme (take m bytes))

-- each lexeme is the longest at the front of what is left of the bytes
abbrev pub AreLongest : List ℕ → List (List ℕ) → Type 0
AreLongest bytes [] = Unit {0}
AreLongest bytes (lexeme ∷ others) = IsLongest (length lexeme) bytes × AreLongest (drop (length lexeme) bytes) others

-- each number has at most 64 bits, and no letter stands right behind it
abbrev pub AreNumbersSound : List (List ℕ) → Type 0
AreNumbersSound [] = Unit {0}
AreNumbersSound (lexeme ∷ others) =
    (IsTrue (is_number lexeme) → IsSome (spelled_number lexeme) × IsFalse (is_letter (slice_index (concat others) 0)))
    × AreNumbersSound others

-- the bytes begin with these lexemes, divided longest first, and the rest stands behind them
pub record BeginsWith (bytes : List ℕ) (lexemes : List (List ℕ)) (rest : List ℕ) : Type 0 where
  pub joined : concat lexemes ++ rest ≡ bytes
  pub longest : AreLongest bytes lexemes
  pub numbers : AreNumbersSound lexemes

-- the lexemes are the bytes, divided longest first
abbrev pub IsDivision : List ℕ → List (List ℕ) → Type 0
IsDivision bytes lexemes = BeginsWith bytes lexemes []

-- the tokens among lexemes, the first of which stands at this place
abbrev pub tokens_of : Place → List (List ℕ) → List Token
tokens_of at [] = []
tokens_of at (lexeme ∷ others) =
    option_to_list (option_map (λ kind. token kind (length lexeme) at) (kind_of lexeme))
    ++ tokens_of (after at lexeme) others

-- the bytes behind the byte order mark, if any
abbrev pub behind_mark : List ℕ → List ℕ
behind_mark bytes = drop (mark_len bytes) bytes

-- where the first lexeme stands
abbrev pub first_place : List ℕ → Place
first_place bytes = after opening (take (mark_len bytes) bytes)

-- the tokens are those of a division of the file
pub record AreTokensOf (bytes : List ℕ) (tokens : List Token) : Type 0 where
  pub lexemes : List (List ℕ)
  pub division : IsDivision (behind_mark bytes) lexemes
  pub same : tokens ≡ tokens_of (first_place bytes) lexemes

-- no division of the file has as few tokens as are allowed
abbrev pub HasNoTokens : List ℕ → Type 0
HasNoTokens bytes = (lexemes : List (List ℕ)) → IsDivision (behind_mark bytes) lexemes
    → max_tokens < length (tokens_of (first_place bytes) lexemes)

-- a text has one division
abbrev pub DivisionIsUnique : Type 0
DivisionIsUnique = (bytes : List ℕ) (one other : List (List ℕ))
    → IsDivision bytes one → IsDivision bytes other → one ≡ other
