-- The tree of a list of symbols, computed with one symbol of view. It agrees with the grammar, which is the
-- definition: where there is no tree, what is left begins with the first unexpected symbol.
use Rattle.std.specs.Prelude.{ℕ, zero, suc, ◌-◌, Bool, true, false, not, ◌&&◌, ◌||◌, ◌==◌, List, [], ◌∷◌, ◌++◌, length, is_some, slice_index, Option, Some, None, Result, Ok, Err, codes}
use Rattle.std.specs.Str.{bytes_eq}
use Prim.Native.String.{String}
use Rattle.edl_lexer.specs.declared.Token.{Token}
use Rattle.edl_grammar.specs.declared.EdlFile.{EdlFile}
use Rattle.edl_grammar.specs.declared.NameAt.{NameAt}
use Rattle.edl_grammar.specs.declared.IncludePlace.{IncludePlace}
use Rattle.edl_grammar.specs.declared.IncludePlace.TheVariants as place
use Rattle.edl_grammar.specs.declared.TypeDecl.{TypeDecl}
use Rattle.edl_grammar.specs.declared.TypeDecl.TheVariants as decl
use Rattle.edl_grammar.specs.declared.EnumValue.{EnumValue}
use Rattle.edl_grammar.specs.declared.Declared.{Declared}
use Rattle.edl_grammar.specs.declared.Attribute.{Attribute}
use Rattle.edl_grammar.specs.declared.AttrValue.{AttrValue}
use Rattle.edl_grammar.specs.declared.AttrValue.TheVariants as value
use Rattle.edl_grammar.specs.declared.Written.{Written}
use Rattle.edl_grammar.specs.declared.Base.{Base}
use Rattle.edl_grammar.specs.declared.Base.TheVariants as base
use Rattle.edl_grammar.specs.declared.Tag.{Tag}
use Rattle.edl_grammar.specs.declared.Phrase.{Phrase}
use Rattle.edl_grammar.specs.declared.Literal.{Literal}
use Rattle.edl_grammar.specs.declared.Head.{Head}
use Rattle.edl_grammar.specs.declared.Tail.{Tail}
use Rattle.edl_grammar.specs.declared.Tag.TheVariants as tag
use Rattle.edl_grammar.specs.declared.ParseFault.{ParseFault}
use Rattle.edl_grammar.specs.declared.ParseFault.TheVariants as faults
use Rattle.edl_grammar.specs.Symbols.{Symbol, Word, Number, Text, Mark, Lexed, symbols, is_reserved}
use Rattle.edl_grammar.specs.Grammar.{joined, signed_base, words_of, list_of, enumerator, enumeration_of, function, all_of, include_item, import_item, type_as_item, trusted_as_item, untrusted_as_item}
use Rattle.edl_grammar.specs.Sentence.{deep_in, least, fault}

-- a value and what is left, or what is left at the first unexpected symbol
abbrev pub Outcome : Type 0 → Type 0
Outcome A = Result (A × List Lexed) (List Lexed)

abbrev pub Parser : Type 0 → Type 0
Parser A = List Lexed → Outcome A

abbrev pub and_then : {A B : Type 0} → Outcome A → (A → Parser B) → Outcome B
and_then (Ok p) f = f p.0 p.1
and_then (Err e) f = Err e

infixl 10 ◌>>=◌
abbrev pub ◌>>=◌ : {A B : Type 0} → Parser A → (A → Parser B) → Parser B
(p >>= f) ss = and_then (p ss) f

infixl 10 ◌>>◌
abbrev pub ◌>>◌ : {A B : Type 0} → Parser A → Parser B → Parser B
(p >> q) ss = and_then (p ss) (λ _. q)

abbrev pub pure : {A : Type 0} → A → Parser A
pure a ss = Ok (a, ss)

-- ---- one symbol

abbrev pub sees : (Symbol → Bool) → List Lexed → Bool
sees test [] = false
sees test (s ∷ ss) = test s.symbol

-- the first parser where the next symbol passes the test, and else the second
abbrev pub if_next : {A : Type 0} → (Symbol → Bool) → Parser A → Parser A → Parser A
if_next test p q ss = elim (sees test ss) [ true ↦ p ss | false ↦ q ss ]

-- what a symbol gives, where it gives something
abbrev pub given_by : {A : Type 0} → Option A → List Lexed → List Lexed → Outcome A
given_by None all rest = Err all
given_by (Some a) all rest = Ok (a, rest)

abbrev pub one : {A : Type 0} → (ℕ → Symbol → Option A) → Parser A
one f [] = Err []
one f (s ∷ ss) = given_by (f s.token s.symbol) (s ∷ ss) ss

abbrev pub is_spelled : List ℕ → Symbol → Bool
is_spelled word (Word w) = bytes_eq w word
is_spelled word _ = false

abbrev pub is_marked : ℕ → Symbol → Bool
is_marked byte (Mark b) = b == byte
is_marked byte _ = false

abbrev pub is_word : String → Symbol → Bool
is_word spelling = is_spelled (codes spelling)

abbrev pub is_mark : String → Symbol → Bool
is_mark spelling = is_marked (slice_index (codes spelling) 0)

abbrev pub is_name : Symbol → Bool
is_name (Word w) = not (is_reserved w)
is_name _ = false

abbrev pub is_number : Symbol → Bool
is_number (Number n) = true
is_number _ = false

abbrev pub token_if : Bool → ℕ → Option ℕ
token_if true token = Some token
token_if false token = None

abbrev pub spelled : List ℕ → Parser ℕ
spelled word = one (λ token s. token_if (is_spelled word s) token)

abbrev pub marked : ℕ → Parser ℕ
marked byte = one (λ token s. token_if (is_marked byte s) token)

abbrev pub word : String → Parser ℕ
word spelling = spelled (codes spelling)

abbrev pub mark : String → Parser ℕ
mark spelling = marked (slice_index (codes spelling) 0)

abbrev pub name_if : Bool → NameAt → Option NameAt
name_if true x = Some x
name_if false x = None

abbrev pub name_of : ℕ → Symbol → Option NameAt
name_of token (Word w) = name_if (not (is_reserved w)) (record { token = token; name = w })
name_of token _ = None

abbrev pub text_of : ℕ → Symbol → Option NameAt
text_of token (Text t) = Some (record { token = token; name = t })
text_of token _ = None

abbrev pub number_of : ℕ → Symbol → Option ℕ
number_of token (Number n) = Some n
number_of token _ = None

abbrev pub name : Parser NameAt
name = one name_of

abbrev pub quoted : Parser NameAt
quoted = one text_of

abbrev pub number : Parser ℕ
number = one number_of

-- ---- choices and repetitions

abbrev pub optional : {A : Type 0} → (Symbol → Bool) → Parser A → Parser (Option A)
optional test p = if_next test (p >>= λ a. pure (Some a)) (pure None)

abbrev pub given : {A : Type 0} → (Symbol → Bool) → Parser A → Parser Bool
given test p = if_next test (p >> pure true) (pure false)

-- at most n times; each time takes a symbol, so their number is enough
abbrev pub many_within : {A : Type 0} → ℕ → (Symbol → Bool) → Parser A → Parser (List A)
many_within zero test p = pure []
many_within (suc n) test p = if_next test (p >>= λ a. many_within n test p >>= λ as'. pure (a ∷ as')) (pure [])

abbrev pub many : {A : Type 0} → (Symbol → Bool) → Parser A → Parser (List A)
many test p ss = many_within (length ss) test p ss

-- what was read before, and then what is read
abbrev pub with_front : {A : Type 0} → List A → Outcome (List A) → Outcome (List A)
with_front front (Ok p) = Ok (front ++ p.0, p.1)
with_front front (Err r) = Err r

abbrev pub after_comma : {A : Type 0} → Parser A → Parser A
after_comma p = mark "," >> p

-- a first one, and more, each behind a comma
abbrev pub more : {A : Type 0} → Parser A → A → Parser (List A)
more p a ss = with_front (a ∷ []) (many (is_mark ",") (after_comma p) ss)

abbrev pub separated : {A : Type 0} → Parser A → Parser (List A)
separated p = p >>= more p

-- ---- types

abbrev pub said_as : List ℕ → Parser Phrase
said_as word = do
  n ← spelled word
  pure (record { token = n; words = word ∷ [] })

abbrev pub said : String → Parser Phrase
said spelling = said_as (codes spelling)

-- the phrase, and maybe one more word
abbrev pub then_maybe_as : Phrase → List ℕ → Parser Phrase
then_maybe_as first word = do
  other ← optional (is_spelled word) (said_as word)
  pure (joined first other)

infixl 12 ◌then_maybe◌
abbrev pub ◌then_maybe◌ : Parser Phrase → String → Parser Phrase
p then_maybe spelling = p >>= λ first. then_maybe_as first (codes spelling)

infixl 11 ◌means◌
abbrev pub ◌means◌ : {A : Type 0} → Parser Phrase → A → Parser (A × Phrase)
p means a = p >>= λ phrase. pure (a, phrase)

abbrev pub is_int_word : Symbol → Bool
is_int_word s = is_word "char" s || is_word "short" s || is_word "int" s || is_word "long" s

abbrev pub short_int : Parser (ℕ × Phrase)
short_int = said "short" then_maybe "int" means 2

abbrev pub long_int : Parser (ℕ × Phrase)
long_int = said "long" then_maybe "long" then_maybe "int" means 8

unfoldable pub int : Parser (ℕ × Phrase)
int =
    if_next (is_word "char") (said "char" means 1)
    (if_next (is_word "short") short_int
    (if_next (is_word "int") (said "int" means 4)
    long_int))

abbrev pub is_sign : Symbol → Bool
is_sign s = is_word "signed" s || is_word "unsigned" s

abbrev pub sign : Parser (Bool × Phrase)
sign = if_next (is_word "signed") (said "signed" means true) (said "unsigned" means false)

abbrev pub bare : Parser (Base × Phrase)
bare = do
  n ← name
  pure (base.Bare n.name, record { token = n.token; words = n.name ∷ [] })

abbrev pub tagged_as : List ℕ → Tag → Parser (Base × Phrase)
tagged_as word t = do
  spelled word
  n ← name
  pure (base.Tagged t n.name, record { token = n.token; words = word ∷ n.name ∷ [] })

abbrev pub tagged : String → Tag → Parser (Base × Phrase)
tagged spelling = tagged_as (codes spelling)

abbrev pub plain_int : Parser (Base × Phrase)
plain_int = int >>= λ i. pure (base.Integer i.0 true, i.1)

abbrev pub signed_int : Parser (Base × Phrase)
signed_int = sign >>= λ s. optional is_int_word int >>= λ i. pure (signed_base s i)

-- a type with a tag, or a bare name
abbrev pub named_base : Parser (Base × Phrase)
named_base =
    if_next (is_word "struct") (tagged "struct" tag.Struct)
    (if_next (is_word "enum") (tagged "enum" tag.Enum)
    (if_next (is_word "union") (tagged "union" tag.Union)
    bare))

-- an integer type, or one that has a name
abbrev pub other_base : Parser (Base × Phrase)
other_base = if_next is_int_word plain_int (if_next is_sign signed_int named_base)

unfoldable pub base_type : Parser (Base × Phrase)
base_type =
    if_next (is_word "void") (said "void" means base.Void)
    (if_next (is_word "float") (said "float" means base.Float)
    (if_next (is_word "double") (said "double" means base.Double)
    other_base))

abbrev pub is_plain : Symbol → Bool
is_plain s = is_word "void" s || is_word "float" s || is_word "double" s

abbrev pub is_named : Symbol → Bool
is_named s = is_word "struct" s || is_word "enum" s || is_word "union" s || is_name s

abbrev pub begins_type : Symbol → Bool
begins_type s = is_word "const" s || is_plain s || is_int_word s || is_sign s || is_named s

-- how many stars there are
abbrev pub stars : Parser ℕ
stars = many (is_mark "*") (mark "*") >>= λ stars. pure (length stars)

-- a type whose parts were read
abbrev pub written_by : Option Phrase → Base × Phrase → Option Phrase → ℕ → Written
written_by before b after stars = record {
  token = b.1.token;
  words = words_of before ++ b.1.words ++ words_of after;
  base = b.0;
  is_const = is_some before || is_some after;
  stars = stars;
}

unfoldable pub written : Parser Written
written = do
  before ← optional (is_word "const") (said "const")
  b ← base_type
  after ← optional (is_word "const") (said "const")
  n ← stars
  pure (written_by before b after n)

-- ---- declarations

abbrev pub dim : Parser (Option ℕ)
dim = do
  mark "["
  n ← optional is_number number
  mark "]"
  pure n

abbrev pub declared_as : Written → List Attribute → Parser Declared
declared_as w attrs = do
  n ← name
  dims ← many (is_mark "[") dim
  pure (record { token = n.token; name = n.name; written = w; dims = dims; attrs = attrs })

abbrev pub declared : List Attribute → Parser Declared
declared attrs = written >>= λ w. declared_as w attrs

abbrev pub attr_value : Parser AttrValue
attr_value = mark "=" >> if_next is_number (number >>= λ n. pure (value.Number n)) (name >>= λ x. pure (value.Named x))

unfoldable pub attribute : Parser Attribute
attribute = do
  n ← name
  v ← optional (is_mark "=") attr_value
  pure (record { token = n.token; name = n.name; value = v })

unfoldable pub attributes : Parser (List Attribute)
attributes = do
  mark "["
  attrs ← separated attribute
  mark "]"
  pure attrs

abbrev pub param : Parser Declared
param = do
  attrs ← optional (is_mark "[") attributes
  declared (list_of attrs)

abbrev pub member : Parser Declared
member = do
  m ← declared []
  mark ";"
  pure m

unfoldable pub members : Parser (List Declared)
members = do
  mark "{"
  ms ← many begins_type member
  mark "}"
  mark ";"
  pure ms

abbrev pub structure : Parser TypeDecl
structure = do
  word "struct"
  n ← name
  ms ← members
  pure (decl.Structure n.token n.name ms)

abbrev pub union : Parser TypeDecl
union = do
  word "union"
  n ← name
  ms ← members
  pure (decl.Union n.token n.name ms)

abbrev pub literal : Parser Literal
literal = do
  mark "="
  negative ← given (is_mark "-") (mark "-")
  n ← number
  pure (record { negative = negative; number = n })

abbrev pub enum_value : Parser EnumValue
enum_value = do
  n ← name
  l ← optional (is_mark "=") literal
  pure (enumerator n l)

-- a last comma may stand before `}`
abbrev pub values_within : ℕ → Parser (List EnumValue)
values_within zero = pure []
values_within (suc n) = if_next is_name (do
  v ← enum_value
  vs ← if_next (is_mark ",") (mark "," >> values_within n) (pure [])
  pure (v ∷ vs)) (pure [])

abbrev pub enum_values : Parser (List EnumValue)
enum_values ss = values_within (length ss) ss

unfoldable pub enumeration : Parser TypeDecl
enumeration = do
  keyword ← word "enum"
  n ← optional is_name name
  mark "{"
  vs ← enum_values
  mark "}"
  mark ";"
  pure (enumeration_of keyword n vs)

-- ---- functions

-- the type `void` alone
abbrev pub is_lone_void : Written → Bool
is_lone_void w = is_void w.base && w.stars == 0 && not w.is_const
  where
    is_void : Base → Bool
    is_void base.Void = true
    is_void _ = false

-- behind the type of a first parameter: its name, and the other parameters
abbrev pub named_param : Written → Parser (List Declared)
named_param w = declared_as w [] >>= more param

-- `void` alone before `)` is no parameter
abbrev pub void_params : Written → Parser (List Declared)
void_params w = if_next (is_mark ")") (pure []) (named_param w)

abbrev pub params_by : Bool → Written → Parser (List Declared)
params_by true w = void_params w
params_by false w = named_param w

abbrev pub typed_params : Parser (List Declared)
typed_params = written >>= λ w. params_by (is_lone_void w) w

abbrev pub attributed_params : Parser (List Declared)
attributed_params = attributes >>= λ attrs. declared attrs >>= more param

unfoldable pub params : Parser (List Declared)
params = if_next (is_mark ")") (pure []) (if_next (is_mark "[") attributed_params typed_params)

unfoldable pub func : Parser Head
func = do
  w ← written
  n ← name
  mark "("
  ps ← params
  mark ")"
  pure (record { result = w; name = n; params = ps })

abbrev pub is_switchless : Symbol → Bool
is_switchless = is_word "transition_using_threads"

abbrev pub switchless : Parser ℕ
switchless = word "transition_using_threads"

unfoldable pub allow : Parser (List NameAt)
allow = do
  word "allow"
  mark "("
  names ← optional is_name (separated name)
  mark ")"
  pure (list_of names)

abbrev pub no_tail : Tail
no_tail = record { allow = None; switchless = false }

abbrev pub switchless_first : Parser Tail
switchless_first = switchless >> optional (is_word "allow") allow >>= λ names. pure (record { allow = names; switchless = true })

abbrev pub allow_first : Parser Tail
allow_first = allow >>= λ names. given is_switchless switchless >>= λ marked. pure (record { allow = Some names; switchless = marked })

unfoldable pub tail : Parser Tail
tail = if_next is_switchless switchless_first (if_next (is_word "allow") allow_first (pure no_tail))

-- ---- items

abbrev pub include : IncludePlace → Parser EdlFile
include at = do
  word "include"
  t ← quoted
  pure (include_item (record { token = t.token; text = t.name; place = at }))

abbrev pub import_names : Parser (Option (List NameAt))
import_names = if_next (is_mark "*") (mark "*" >> pure None) (separated name >>= λ names. pure (Some names))

abbrev pub «import» : Parser EdlFile
«import» = do
  word "from"
  t ← quoted
  word "import"
  names ← import_names
  mark ";"
  pure (import_item (record { token = t.token; text = t.name; names = names }))

abbrev pub type_item : Parser TypeDecl → Parser EdlFile
type_item p = p >>= λ t. pure (type_as_item t)

abbrev pub trusted_function : Parser EdlFile
trusted_function = do
  is_public ← given (is_word "public") (word "public")
  head ← func
  marked ← given is_switchless switchless
  mark ";"
  pure (trusted_as_item (function head is_public (record { allow = None; switchless = marked })))

abbrev pub convention : Parser ℕ
convention = do
  mark "["
  word "cdecl"
  mark "]"

abbrev pub untrusted_function : Parser EdlFile
untrusted_function = do
  given (is_mark "[") convention
  head ← func
  t ← tail
  mark ";"
  pure (untrusted_as_item (function head false t))

-- items any number of times, as one file
abbrev pub items : (Symbol → Bool) → Parser EdlFile → Parser EdlFile
items begins_item item = many begins_item item >>= λ fs. pure (all_of fs)

abbrev pub block : String → (Symbol → Bool) → Parser EdlFile → Parser EdlFile
block spelling begins_item item = do
  word spelling
  mark "{"
  f ← items begins_item item
  mark "}"
  mark ";"
  pure f

abbrev pub begins_trusted : Symbol → Bool
begins_trusted s = is_word "include" s || is_word "public" s || begins_type s

abbrev pub begins_untrusted : Symbol → Bool
begins_untrusted s = is_word "include" s || is_mark "[" s || begins_type s

unfoldable pub trusted_item : Parser EdlFile
trusted_item = if_next (is_word "include") (include place.Trusted) trusted_function

unfoldable pub untrusted_item : Parser EdlFile
untrusted_item = if_next (is_word "include") (include place.Untrusted) untrusted_function

abbrev pub begins_item : Symbol → Bool
begins_item s =
    is_word "include" s || is_word "from" s || is_word "enum" s || is_word "struct" s || is_word "union" s
    || is_word "trusted" s || is_word "untrusted" s

abbrev pub block_item : Parser EdlFile
block_item = if_next (is_word "trusted") (block "trusted" begins_trusted trusted_item) (block "untrusted" begins_untrusted untrusted_item)

abbrev pub declaring_item : Parser EdlFile
declaring_item =
    if_next (is_word "enum") (type_item enumeration)
    (if_next (is_word "struct") (type_item structure)
    (if_next (is_word "union") (type_item union)
    block_item))

unfoldable pub item : Parser EdlFile
item = if_next (is_word "include") (include place.Outside) (if_next (is_word "from") «import» declaring_item)

abbrev pub file : Parser EdlFile
file = block "enclave" begins_item item

-- ---- the answer

module _ (number : ℕ) (bytes : List ℕ) (tokens : List Token) where
  abbrev pub unexpected : List Lexed → ParseFault
  unexpected rest = let token = length tokens - length rest in faults.Expected token (fault number bytes tokens token 6)

  abbrev pub unless_deep : EdlFile → Option ℕ → Result EdlFile ParseFault
  unless_deep tree None = Ok tree
  unless_deep tree (Some token) = Err (faults.TooDeep (fault number bytes tokens token 7))

  abbrev pub whole : Outcome EdlFile → Result EdlFile ParseFault
  whole (Err rest) = Err (unexpected rest)
  whole (Ok (tree, s ∷ rest)) = Err (unexpected (s ∷ rest))
  whole (Ok (tree, [])) = unless_deep tree (least (deep_in tree))

  -- the tree of the tokens of a file, or its first fault
  abbrev pub parsing : Result EdlFile ParseFault
  parsing = whole (file (symbols bytes tokens))
