-- What is read from the front of a line's words.
use Rattle.std.specs.Prelude.{Bool, if◌then◌else◌, List, [], ◌∷◌, Option, Some, None, codes}
use Rattle.std.specs.Str.{bytes_eq}
use Prim.Native.String.{String}
use Rattle.call_script.specs.Spelling.{Word, is_mark, begins, is_number, is_name, is_place}

-- what is read, and the words that are left
abbrev pub Parser : Type 0 → Type 0
Parser A = List Word → Option (A × List Word)

abbrev pub and_then : {A B : Type 0} → Option (A × List Word) → (A → Parser B) → Option (B × List Word)
and_then None f = None
and_then (Some p) f = f p.0 p.1

infixl 10 ◌>>=◌
abbrev pub ◌>>=◌ : {A B : Type 0} → Parser A → (A → Parser B) → Parser B
(p >>= f) ws = and_then (p ws) f

abbrev pub pure : {A : Type 0} → A → Parser A
pure a ws = Some (a, ws)

-- the function, then its argument
infixl 70 ◌<*>◌
abbrev pub ◌<*>◌ : {A B : Type 0} → Parser (A → B) → Parser A → Parser B
p <*> q = p >>= λ f. q >>= λ a. pure (f a)

-- the first of two alone
infixl 70 ◌<*◌
abbrev pub ◌<*◌ : {A B : Type 0} → Parser A → Parser B → Parser A
p <* q = p >>= λ a. q >>= λ b. pure a

-- a word that passes the test
abbrev pub satisfying : (Word → Bool) → Parser Word
satisfying test [] = None
satisfying test (w ∷ ws) = if test w then Some (w, ws) else None

abbrev pub said : String → Parser Word
said text = satisfying (bytes_eq (codes text))

-- this word comes first
abbrev pub keyword : {A : Type 0} → String → A → Parser A
keyword text a = said text >>= λ w. pure a

abbrev pub any : Parser Word
any [] = None
any (w ∷ ws) = Some (w, ws)

-- a number of any width
abbrev pub number : Parser Word
number = satisfying is_number

abbrev pub name : Parser Word
name = satisfying is_name

-- an address, or a place in a frame
abbrev pub place : Parser Word
place = satisfying is_place

abbrev pub is_mark_word : Word → Bool
is_mark_word w = begins is_mark w

abbrev pub with_argument : Word → Option (List Word × List Word) → Option (List Word × List Word)
with_argument w None = None
with_argument w (Some p) = Some (w ∷ p.0, p.1)

-- at least one argument, with commas between them, and `)`
abbrev pub some_arguments : Parser (List Word)
some_arguments [] = None
some_arguments (w ∷ []) = None
some_arguments (w ∷ mark ∷ ws) =
    if is_mark_word w then None
    else (
    if bytes_eq mark (codes ")") then Some (w ∷ [], ws)
    else (if bytes_eq mark (codes ",") then with_argument w (some_arguments ws) else None)
    )

abbrev pub arguments_to_close : Parser (List Word)
arguments_to_close [] = None
arguments_to_close (w ∷ ws) = if bytes_eq w (codes ")") then Some ([], ws) else some_arguments (w ∷ ws)

-- `(`, arguments with commas between them, and `)`
abbrev pub arguments : Parser (List Word)
arguments = said "(" >>= λ w. arguments_to_close

-- all words are read
abbrev pub ended : {A : Type 0} → Option (A × List Word) → Option A
ended None = None
ended (Some (a, [])) = Some a
ended (Some (a, w ∷ ws)) = None

abbrev pub or_else : {A : Type 0} → Option A → Option A → Option A
or_else None other = other
or_else (Some a) other = Some a

-- what the first of these parsers reads that reads all words
abbrev pub first_to_read : {A : Type 0} → List (Parser A) → List Word → Option A
first_to_read [] ws = None
first_to_read (p ∷ ps) ws = or_else (ended (p ws)) (first_to_read ps ws)
