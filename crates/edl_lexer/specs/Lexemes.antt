-- The lexeme at the front of the bytes: a gap (a blank or a comment), a token, or none, which is a flaw.
use Rattle.std.specs.Prelude.{ℕ, suc, ◌+◌, Bool, not, ◌&&◌, ◌||◌, if◌then◌else◌, ◌==◌, nat_eq, List, [], ◌∷◌, take, drop, slice_index, Option, Some, None, option_map, codes}
use Rattle.std.specs.List.{prefix_len, starts_with, list_any}
use Rattle.std.specs.Char.{is_ascii_alphabetic, is_ascii_digit, is_ascii_hexdigit}
use Rattle.sgx_base.specs.Numbers.{spelled_number}
use Rattle.edl_lexer.specs.declared.TokenKind.TheVariants as kinds
use Rattle.edl_lexer.specs.declared.scan.Flaw.TheVariants.{BadByte, OpenComment, OpenText, NumberTooWide}
use Rattle.edl_lexer.specs.declared.scan.Lexeme.{Lexeme}
use Rattle.edl_lexer.specs.declared.scan.Lexeme.TheVariants.{Gap, Piece, No}
use Rattle.edl_lexer.specs.declared.scan.Class.{Class}
use Rattle.edl_lexer.specs.declared.scan.Class.TheVariants.{Blank, Letter, Digit, Quote, Slash, Marking, Other}

-- space, tab, line feed, form feed, carriage return
abbrev pub is_blank : ℕ → Bool
is_blank b = b == 32 || b == 9 || b == 10 || b == 12 || b == 13

-- a letter or `_`, which begins a name
abbrev pub is_letter : ℕ → Bool
is_letter b = is_ascii_alphabetic b || b == 95

-- a letter, a digit or `_`, which goes on with one
abbrev pub is_word : ℕ → Bool
is_word b = is_letter b || is_ascii_digit b

-- one of the bytes that are tokens by themselves
abbrev pub is_mark : ℕ → Bool
is_mark b = list_any (nat_eq b) (codes "{}()[];,=*-")

-- what a first byte says of its lexeme
abbrev pub class_of : ℕ → Class
class_of b =
    if is_blank b then Blank
    else (if is_letter b then Letter
    else (if is_ascii_digit b then Digit
    else (if b == 34 then Quote
    else (if b == 47 then Slash
    else (if is_mark b then Marking
    else Other)))))

-- `0x` and a hexadecimal digit, which begin a hexadecimal number
abbrev pub has_hex_front : List ℕ → Bool
has_hex_front bytes = starts_with nat_eq bytes (codes "0x") && is_ascii_hexdigit (slice_index bytes 2)

-- the bytes of the longest number at the front
abbrev pub number_len : List ℕ → ℕ
number_len bytes =
    if has_hex_front bytes
    then 2 + prefix_len is_ascii_hexdigit (drop 2 bytes)
    else prefix_len is_ascii_digit bytes

-- a number of so many bytes, where its value fits
abbrev pub valued : Option ℕ → ℕ → Lexeme
valued (Some n) len = Piece (kinds.Number n) len
valued None len = No NumberTooWide

-- the number at the front
abbrev pub number : List ℕ → Lexeme
number bytes = valued (spelled_number (take (number_len bytes) bytes)) (number_len bytes)

-- a text holds neither `"` nor a line feed
abbrev pub is_inside_text : ℕ → Bool
is_inside_text b = not (b == 34 || b == 10)

-- the text whose quote stood before these bytes
abbrev pub text : List ℕ → Lexeme
text bytes =
    let inside = prefix_len is_inside_text bytes in
    if slice_index bytes inside == 34 then Piece kinds.Text (inside + 2) else No OpenText

-- how many bytes there are up to the end of the first `*/`, whose bytes are 42 and 47
abbrev pub close_len : List ℕ → Option ℕ
close_len [] = None
close_len (b ∷ []) = None
close_len (b ∷ c ∷ bytes) = if b == 42 && c == 47 then Some 2 else option_map suc (close_len (c ∷ bytes))

-- a comment by how many bytes follow its opening
abbrev pub closed : Option ℕ → Lexeme
closed (Some len) = Gap (2 + len)
closed None = No OpenComment

-- `//` and the bytes before the line feed, or `/*` and all up to the first `*/`
abbrev pub comment : List ℕ → Lexeme
comment bytes =
    if starts_with nat_eq bytes (codes "//") then Gap (prefix_len (λ b. not (b == 10)) bytes)
    else (if starts_with nat_eq bytes (codes "/*") then closed (close_len (drop 2 bytes))
    else No BadByte)

-- the lexeme at the front of a byte of this class and those after it
abbrev pub lexeme_of : Class → ℕ → List ℕ → Lexeme
lexeme_of Blank b bytes = Gap 1
lexeme_of Letter b bytes = Piece kinds.Name (1 + prefix_len is_word bytes)
lexeme_of Digit b bytes = number (b ∷ bytes)
lexeme_of Quote b bytes = text bytes
lexeme_of Slash b bytes = comment (b ∷ bytes)
lexeme_of Marking b bytes = Piece (kinds.Mark b) 1
lexeme_of Other b bytes = No BadByte

-- the longest lexeme at the front of a byte and those after it
abbrev pub lexeme : ℕ → List ℕ → Lexeme
lexeme b bytes = lexeme_of (class_of b) b bytes

-- the lexeme behind another, which is a number where `after_number` holds: no letter may stand right behind a number
abbrev pub lexeme_after : (after_number : Bool) → ℕ → List ℕ → Lexeme
lexeme_after after_number b bytes = if after_number && is_letter b then No BadByte else lexeme b bytes

-- how many bytes it has
abbrev pub len_of : Lexeme → ℕ
len_of (Gap len) = len
len_of (Piece kind len) = len
len_of (No flaw) = 0
