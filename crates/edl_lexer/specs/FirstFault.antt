-- The first fault of a file: the lexemes before it, divided longest first, and why no other follows them.
use Rattle.std.specs.Prelude.{ℕ, ◌-◌, ◌<◌, ◌≤◌, ◌≡◌, Bool, false, ◌&&◌, ◌==◌, nat_eq, List, length, take, fold, slice_index, None, IsTrue, IsFalse, IsSome, codes, ◌⊎◌}
use Rattle.std.specs.List.{starts_with, concat}
use Rattle.sgx_base.specs.Numbers.{spelled_number}
use Rattle.edl_lexer.specs.declared.LexFault.{LexFault}
use Rattle.edl_lexer.specs.declared.scan.Flaw.{Flaw}
use Rattle.edl_lexer.specs.declared.scan.Flaw.TheVariants.{BadByte, OpenComment, OpenText, NumberTooWide, TooManyTokens}
use Rattle.edl_lexer.specs.Lexemes.{is_letter}
use Rattle.edl_lexer.specs.Lexing.{after, fault_of, max_tokens}
use Rattle.edl_lexer.specs.Division.{is_lexeme, is_number, kind_of, IsLongest, BeginsWith, tokens_of, behind_mark, first_place}

-- no bytes at the front are a lexeme
abbrev pub HasNoLexeme : List ℕ → Type 0
HasNoLexeme bytes = (n : ℕ) → n ≤ length bytes → IsFalse (is_lexeme (take n bytes))

-- `/*`, which needs an end
abbrev pub opens_comment : List ℕ → Bool
opens_comment bytes = starts_with nat_eq bytes (codes "/*")

-- a quote, which needs another
abbrev pub opens_text : List ℕ → Bool
opens_text bytes = slice_index bytes 0 == 34

-- the longest lexeme at the front is a number above 64 bits
pub record BeginsTooWide (bytes : List ℕ) : Type 0 where
  pub len : ℕ
  pub longest : IsLongest len bytes
  pub number : IsTrue (is_number (take len bytes))
  pub wide : spelled_number (take len bytes) ≡ None

-- the longest lexeme at the front is a token
pub record BeginsWithToken (bytes : List ℕ) : Type 0 where
  pub len : ℕ
  pub longest : IsLongest len bytes
  pub token : IsSome (kind_of (take len bytes))

-- whether the last lexeme is a number, behind which no letter may stand
abbrev pub ends_in_number : List (List ℕ) → Bool
ends_in_number = fold (λ _ lexeme. is_number lexeme) false

-- a letter at the front, where none may stand
abbrev pub is_letter_behind : (after_number : Bool) → List ℕ → Bool
is_letter_behind after_number bytes = after_number && is_letter (slice_index bytes 0)

-- why no lexeme is taken from the front of the bytes, where so many tokens more are allowed
abbrev pub HasFlaw : (room : ℕ) (after_number : Bool) → List ℕ → Flaw → Type 0
HasFlaw room after_number bytes BadByte =
    IsTrue (is_letter_behind after_number bytes)
    ⊎ (HasNoLexeme bytes × IsFalse (opens_comment bytes) × IsFalse (opens_text bytes))
HasFlaw room after_number bytes OpenComment = HasNoLexeme bytes × IsTrue (opens_comment bytes)
HasFlaw room after_number bytes OpenText = HasNoLexeme bytes × IsTrue (opens_text bytes)
HasFlaw room after_number bytes NumberTooWide = BeginsTooWide bytes
HasFlaw room after_number bytes TooManyTokens =
    (room ≡ 0) × BeginsWithToken bytes × IsFalse (is_letter_behind after_number bytes)

-- the lexemes before the fault are allowed, and it stands right behind them, at a byte
pub record HasLexFault (file : ℕ) (bytes : List ℕ) (fault : LexFault) : Type 0 where
  pub lexemes : List (List ℕ)
  pub rest : List ℕ
  pub begun : BeginsWith (behind_mark bytes) lexemes rest
  pub allowed : length (tokens_of (first_place bytes) lexemes) ≤ max_tokens
  pub some : 0 < length rest
  pub flaw : Flaw
  pub cause : HasFlaw (max_tokens - length (tokens_of (first_place bytes) lexemes)) (ends_in_number lexemes) rest flaw
  pub same : fault ≡ fault_of file (after (first_place bytes) (concat lexemes)) flaw

-- a file has one first fault
abbrev pub FaultIsUnique : Type 0
FaultIsUnique = (file : ℕ) (bytes : List ℕ) (one other : LexFault)
    → HasLexFault file bytes one → HasLexFault file bytes other → one ≡ other
