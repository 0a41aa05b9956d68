-- The lines of a script, the words of a line, and what a word spells.
use Rattle.std.specs.Prelude.{ℕ, ◌+◌, Bool, true, false, not, ◌&&◌, ◌||◌, ◌==◌, if◌then◌else◌, nat_eq, nat_le, List, [], ◌∷◌, ◌++◌, drop, position, take_while, Option, Some, None, is_none, is_some, Result, Ok, Err, codes}
use Rattle.std.specs.List.{list_all, list_any, starts_with}
use Rattle.std.specs.Str.{bytes_eq}
use Rattle.std.specs.Char.{is_ascii_digit, is_ascii_alphabetic}
use Rattle.hex.specs.Hex.{decode_of}
use Rattle.hex.specs.declared.error.FromHexError.{FromHexError}
use Rattle.sgx_base.specs.Numbers.{is_decimal, is_hexadecimal, spelled_number}

abbrev pub Word : Type 0
Word = List ℕ

-- ---- lines and words

-- space, tab
abbrev pub is_blank : ℕ → Bool
is_blank b = b == 32 || b == 9

-- `(`, `)` and `,` are words of their own
abbrev pub is_mark : ℕ → Bool
is_mark b = b == 40 || b == 41 || b == 44

-- any other byte goes on with a word
abbrev pub is_word : ℕ → Bool
is_word b = not (is_blank b || is_mark b)

-- whether a byte comes first that passes the test
abbrev pub begins : (ℕ → Bool) → List ℕ → Bool
begins test [] = false
begins test (b ∷ bytes) = test b

-- the byte belongs to the first of these
abbrev pub onto : ℕ → List Word → List Word
onto b [] = (b ∷ []) ∷ []
onto b (w ∷ ws) = (b ∷ w) ∷ ws

-- the byte before these words, which goes on with the first of them where it is glued to it
abbrev pub with_byte : ℕ → Bool → List Word → List Word
with_byte b glued ws = if is_blank b then ws else (if glued then onto b ws else (b ∷ []) ∷ ws)

unfoldable pub words : List ℕ → List Word
words [] = []
words (b ∷ bytes) = with_byte b (is_word b && begins is_word bytes) (words bytes)

abbrev pub with_line_byte : ℕ → List (List ℕ) → List (List ℕ)
with_line_byte b ls = if b == 10 then [] ∷ ls else onto b ls

-- each line ends with a line feed, which the last may lack
unfoldable pub lines : List ℕ → List (List ℕ)
lines [] = []
lines (b ∷ bytes) = with_line_byte b (lines bytes)

-- the words of a line, with its number
pub record NumberedLine : Type 0 where
  pub number : ℕ
  pub words : List Word

-- a line without words, and one whose first word begins with `#`, means nothing
abbrev pub means_nothing : List Word → Bool
means_nothing [] = true
means_nothing (w ∷ ws) = begins (λ b. b == 35) w

abbrev pub numbered_from : ℕ → List (List ℕ) → List NumberedLine
numbered_from n [] = []
numbered_from n (l ∷ ls) =
    if means_nothing (words l) then numbered_from (n + 1) ls
    else record { number = n; words = words l } ∷ numbered_from (n + 1) ls

-- the lines that mean something, counted from 1
abbrev pub numbered_lines : List ℕ → List NumberedLine
numbered_lines bytes = numbered_from 1 (lines bytes)

-- ---- numbers

-- a number of any width
abbrev pub is_number : Word → Bool
is_number w = is_decimal w || is_hexadecimal w

-- a number above 64 bits
abbrev pub is_wide : Word → Bool
is_wide w = is_number w && is_none (spelled_number w)

abbrev pub is_from_to : ℕ → ℕ → Option ℕ → Bool
is_from_to least most None = false
is_from_to least most (Some n) = nat_le least n && nat_le n most

-- a number outside the range
abbrev pub is_out_of : ℕ → ℕ → Word → Bool
is_out_of least most w = is_number w && not (is_from_to least most (spelled_number w))

-- ---- names

-- the words of the language of interfaces, which are no names: those of files and blocks, of types, and of numbers
abbrev pub file_words : List Word
file_words =
    codes "enclave" ∷ codes "include" ∷ codes "from" ∷ codes "import" ∷ codes "trusted" ∷ codes "untrusted"
    ∷ codes "public" ∷ codes "allow" ∷ codes "transition_using_threads" ∷ []

abbrev pub type_words : List Word
type_words = codes "enum" ∷ codes "struct" ∷ codes "union" ∷ codes "const" ∷ codes "void" ∷ []

abbrev pub number_words : List Word
number_words =
    codes "char" ∷ codes "short" ∷ codes "int" ∷ codes "long" ∷ codes "signed" ∷ codes "unsigned" ∷ codes "float"
    ∷ codes "double" ∷ []

abbrev pub reserved_words : List Word
reserved_words = file_words ++ (type_words ++ number_words)

abbrev pub is_letter : ℕ → Bool
is_letter b = is_ascii_alphabetic b || b == 95

-- a letter or `_`, then letters, digits and `_`, and no reserved word
abbrev pub is_name : Word → Bool
is_name w =
    begins is_letter w && list_all (λ b. is_letter b || is_ascii_digit b) w
    && not (list_any (bytes_eq w) reserved_words)

abbrev pub is_name_by_dot : Word → Option ℕ → Bool
is_name_by_dot w None = is_name w
is_name_by_dot w (Some dot) = is_name (take_while (λ b. not (b == 46)) w) && is_name (drop (dot + 1) w)

-- a name, or two with a dot between them
abbrev pub is_dotted_name : Word → Bool
is_dotted_name w = is_name_by_dot w (position (λ b. b == 46) w)

-- ---- bytes

abbrev pub some_bytes : Result (List ℕ) FromHexError → Option (List ℕ)
some_bytes (Ok []) = None
some_bytes (Ok (b ∷ bytes)) = Some (b ∷ bytes)
some_bytes (Err e) = None

-- the bytes that hexadecimal digits spell, at least one
abbrev pub spelled_bytes : Word → Option (List ℕ)
spelled_bytes w = some_bytes (decode_of w)

abbrev pub is_bad_hex : Word → Bool
is_bad_hex w = is_none (spelled_bytes w)

-- ---- places

abbrev pub behind : Bool → ℕ → Word → Option Word
behind test n w = if test then Some (drop n w) else None

-- what stands behind `frame+`
abbrev pub frame_offset : Word → Option Word
frame_offset w = behind (starts_with nat_eq w (codes "frame+")) 6 w

abbrev pub is_place_by : Word → Option Word → Bool
is_place_by w None = is_number w
is_place_by w (Some offset) = is_number offset

-- an address, or `frame+` and a number
abbrev pub is_place : Word → Bool
is_place w = is_place_by w (frame_offset w)

-- a place in a frame
abbrev pub is_in_frame : Word → Bool
is_in_frame w = is_some (frame_offset w) && is_place w

abbrev pub is_place_out_by : Word → Option Word → Bool
is_place_out_by w None = is_wide w
is_place_out_by w (Some offset) = is_out_of 0 65535 offset

-- an address above 64 bits, or an offset above 65535
abbrev pub is_place_out : Word → Bool
is_place_out w = is_place_out_by w (frame_offset w)

-- what stands behind `@`, `#` and `-`
abbrev pub behind_at : Word → Option Word
behind_at w = behind (begins (λ b. b == 64) w) 1 w

abbrev pub behind_hash : Word → Option Word
behind_hash w = behind (begins (λ b. b == 35) w) 1 w

abbrev pub behind_minus : Word → Option Word
behind_minus w = behind (begins (λ b. b == 45) w) 1 w
