-- The tokens of a file, each with its place, or the first flaw.
use Rattle.std.specs.Prelude.{ℕ, zero, suc, ◌+◌, ◌-◌, Bool, true, false, if◌then◌else◌, ◌==◌, nat_eq, List, [], ◌∷◌, fold, Result, Ok, Err}
use Rattle.std.specs.List.{starts_with}
use Rattle.sgx_base.specs.declared.Fault.{Fault}
use Rattle.edl_lexer.specs.declared.Token.{Token}
use Rattle.edl_lexer.specs.declared.TokenKind.{TokenKind}
use Rattle.edl_lexer.specs.declared.TokenKind.TheVariants as kinds
use Rattle.edl_lexer.specs.declared.LexFault.{LexFault}
use Rattle.edl_lexer.specs.declared.LexFault.TheVariants as faults
use Rattle.edl_lexer.specs.declared.place.Place.{Place}
use Rattle.edl_lexer.specs.declared.scan.Flaw.{Flaw}
use Rattle.edl_lexer.specs.declared.scan.Flaw.TheVariants.{BadByte, OpenComment, OpenText, NumberTooWide, TooManyTokens}
use Rattle.edl_lexer.specs.declared.scan.Lexeme.TheVariants.{Gap, Piece, No}
use Rattle.edl_lexer.specs.Lexemes.{lexeme_after}

-- the place after one more byte
abbrev pub step : Place → ℕ → Place
step at b =
    if b == 10 then record { offset = at.offset + 1; line = at.line + 1; column = 1 }
    else record { offset = at.offset + 1; line = at.line; column = at.column + 1 }

-- the place of the first byte
abbrev pub opening : Place
opening = record { offset = 0; line = 1; column = 1 }

-- the place after these bytes
abbrev pub after : Place → List ℕ → Place
after = fold step

-- the fault with this code at a place of a file
abbrev pub fault_at : ℕ → Place → ℕ → Fault
fault_at file at code = record { file = file; line = at.line; column = at.column; code = code }

-- the fault of a flaw at a place
abbrev pub fault_of : ℕ → Place → Flaw → LexFault
fault_of file at BadByte = faults.BadByte (fault_at file at 1)
fault_of file at OpenComment = faults.OpenComment (fault_at file at 2)
fault_of file at OpenText = faults.OpenText (fault_at file at 3)
fault_of file at NumberTooWide = faults.NumberTooWide (fault_at file at 4)
fault_of file at TooManyTokens = faults.TooManyTokens (fault_at file at 5)

-- the token of this kind and length that begins at a place
abbrev pub token : TokenKind → ℕ → Place → Token
token kind len at = record { kind = kind; from = at.offset; upto = at.offset + len; line = at.line; column = at.column }

-- whether a token is a number
abbrev pub is_number : TokenKind → Bool
is_number (kinds.Number n) = true
is_number kinds.Name = false
is_number kinds.Text = false
is_number (kinds.Mark b) = false

-- a token before the others, where there are tokens
abbrev pub with_token : Token → Result (List Token) LexFault → Result (List Token) LexFault
with_token t (Ok ts) = Ok (t ∷ ts)
with_token t (Err e) = Err e

module _ (file : ℕ) where
  -- The tokens of the bytes from a place on, at most `room` of them. The first `rest` bytes belong to the
  -- lexeme before, and `after_number` says that it is a number, behind which no letter may stand.
  abbrev pub tokens_from : (room rest : ℕ) (after_number : Bool) → Place → List ℕ → Result (List Token) LexFault
  tokens_from room rest after_number at [] = Ok []
  tokens_from room (suc rest) after_number at (b ∷ bytes) = tokens_from room rest after_number (step at b) bytes
  tokens_from room zero after_number at (b ∷ bytes) =
      elim (lexeme_after after_number b bytes) [
        | Gap len ↦ tokens_from room (len - 1) false (step at b) bytes
        | Piece kind len ↦ elim room [
          | zero ↦ Err (fault_of file at TooManyTokens)
          | suc room' ↦ with_token (token kind len at) (tokens_from room' (len - 1) (is_number kind) (step at b) bytes)
        ]
        | No flaw ↦ Err (fault_of file at flaw)
      ]

-- the byte order mark, which may stand before the first lexeme
abbrev pub has_mark : List ℕ → Bool
has_mark bytes = starts_with nat_eq bytes (0xef ∷ 0xbb ∷ 0xbf ∷ [])

-- how many bytes stand before the first lexeme
abbrev pub mark_len : List ℕ → ℕ
mark_len bytes = if has_mark bytes then 3 else 0

-- the most tokens that a file may have
abbrev pub max_tokens : ℕ
max_tokens = 65536

-- the tokens of a file, or its first fault
abbrev pub lexing : ℕ → List ℕ → Result (List Token) LexFault
lexing file bytes = tokens_from file max_tokens (mark_len bytes) false opening bytes
