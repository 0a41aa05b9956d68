-- The grammar of an interface file, a definition for each production.
use Rattle.std.specs.Prelude.{ℕ, Bool, true, false, ◌||◌, List, [], ◌∷◌, ◌++◌, length, is_some, Option, Some, None, codes}
use Rattle.edl_grammar.specs.declared.EdlFile.{EdlFile}
use Rattle.edl_grammar.specs.declared.NameAt.{NameAt}
use Rattle.edl_grammar.specs.declared.Include.{Include}
use Rattle.edl_grammar.specs.declared.Import.{Import}
use Rattle.edl_grammar.specs.declared.IncludePlace.{IncludePlace}
use Rattle.edl_grammar.specs.declared.IncludePlace.TheVariants as place
use Rattle.edl_grammar.specs.declared.TypeDecl.{TypeDecl}
use Rattle.edl_grammar.specs.declared.TypeDecl.TheVariants as decl
use Rattle.edl_grammar.specs.declared.EnumValue.{EnumValue}
use Rattle.edl_grammar.specs.declared.FuncDecl.{FuncDecl}
use Rattle.edl_grammar.specs.declared.Declared.{Declared}
use Rattle.edl_grammar.specs.declared.Attribute.{Attribute}
use Rattle.edl_grammar.specs.declared.AttrValue.{AttrValue}
use Rattle.edl_grammar.specs.declared.AttrValue.TheVariants as value
use Rattle.edl_grammar.specs.declared.Written.{Written}
use Rattle.edl_grammar.specs.declared.Base.{Base}
use Rattle.edl_grammar.specs.declared.Base.TheVariants as base
use Rattle.edl_grammar.specs.declared.Tag.{Tag}
use Rattle.edl_grammar.specs.declared.Phrase.{Phrase}
use Rattle.edl_grammar.specs.declared.Literal.{Literal}
use Rattle.edl_grammar.specs.declared.Head.{Head}
use Rattle.edl_grammar.specs.declared.Tail.{Tail}
use Rattle.edl_grammar.specs.declared.Tag.TheVariants as tag
use Rattle.edl_grammar.specs.Production.{Production, ◌>>=◌, ◌>>◌, ◌<|>◌, pure, optional, many, word, mark, name, quoted, number, given, separated}
use Prim.Native.String.{String}

-- ---- types

abbrev pub said : String → Production Phrase
said spelling = do
  n ← word spelling
  pure (record { token = n; words = codes spelling ∷ [] })

abbrev pub joined : Phrase → Option Phrase → Phrase
joined a None = a
joined a (Some b) = record { token = b.token; words = a.words ++ b.words }

-- the phrase, and maybe one more word
infixl 12 ◌then_maybe◌
abbrev pub ◌then_maybe◌ : Production Phrase → String → Production Phrase
p then_maybe spelling = do
  a ← p
  b ← optional (said spelling)
  pure (joined a b)

-- a phrase, and what it means
infixl 11 ◌means◌
abbrev pub ◌means◌ : {A : Type 0} → Production Phrase → A → Production (A × Phrase)
p means a = do
  phrase ← p
  pure (a, phrase)

-- an integer type without its sign, and its size
abbrev pub int : Production (ℕ × Phrase)
int =
    said "char" means 1
    <|> said "short" then_maybe "int" means 2
    <|> said "int" means 4
    <|> said "long" then_maybe "long" then_maybe "int" means 8

abbrev pub sign : Production (Bool × Phrase)
sign = said "signed" means true <|> said "unsigned" means false

abbrev pub plain_int : Production (Base × Phrase)
plain_int = do
  i ← int
  pure (base.Integer i.0 true, i.1)

-- a sign alone means `int`
abbrev pub signed_base : Bool × Phrase → Option (ℕ × Phrase) → Base × Phrase
signed_base s None = (base.Integer 4 s.0, s.1)
signed_base s (Some i) = (base.Integer i.0 s.0, joined s.1 (Some i.1))

abbrev pub signed_int : Production (Base × Phrase)
signed_int = do
  s ← sign
  i ← optional int
  pure (signed_base s i)

abbrev pub bare : Production (Base × Phrase)
bare = do
  n ← name
  pure (base.Bare n.name, record { token = n.token; words = n.name ∷ [] })

abbrev pub tagged : String → Tag → Production (Base × Phrase)
tagged spelling t = do
  word spelling
  n ← name
  pure (base.Tagged t n.name, record { token = n.token; words = codes spelling ∷ n.name ∷ [] })

abbrev pub base_type : Production (Base × Phrase)
base_type =
    said "void" means base.Void <|> said "float" means base.Float <|> said "double" means base.Double
    <|> plain_int <|> signed_int
    <|> tagged "struct" tag.Struct <|> tagged "enum" tag.Enum <|> tagged "union" tag.Union
    <|> bare

abbrev pub words_of : Option Phrase → List (List ℕ)
words_of None = []
words_of (Some p) = p.words

abbrev pub written : Production Written
written = do
  before ← optional (said "const")
  b ← base_type
  after ← optional (said "const")
  stars ← many (mark "*")
  pure (record {
    token = b.1.token;
    words = words_of before ++ b.1.words ++ words_of after;
    base = b.0;
    is_const = is_some before || is_some after;
    stars = length stars;
  })

-- ---- declarations

abbrev pub dim : Production (Option ℕ)
dim = do
  mark "["
  n ← optional number
  mark "]"
  pure n

abbrev pub declared : List Attribute → Production Declared
declared attrs = do
  w ← written
  n ← name
  dims ← many dim
  pure (record { token = n.token; name = n.name; written = w; dims = dims; attrs = attrs })

abbrev pub numeral : Production AttrValue
numeral = do
  n ← number
  pure (value.Number n)

abbrev pub named : Production AttrValue
named = do
  n ← name
  pure (value.Named n)

abbrev pub attribute : Production Attribute
attribute = do
  n ← name
  v ← optional (mark "=" >> (numeral <|> named))
  pure (record { token = n.token; name = n.name; value = v })

abbrev pub attributes : Production (List Attribute)
attributes = do
  mark "["
  attrs ← separated attribute
  mark "]"
  pure attrs

abbrev pub list_of : {A : Type 0} → Option (List A) → List A
list_of None = []
list_of (Some xs) = xs

abbrev pub param : Production Declared
param = do
  attrs ← optional attributes
  declared (list_of attrs)

-- a member, which ends with `;`
abbrev pub member : Production Declared
member = do
  m ← declared []
  mark ";"
  pure m

abbrev pub members : Production (List Declared)
members = do
  mark "{"
  ms ← many member
  mark "}"
  mark ";"
  pure ms

abbrev pub structure : Production TypeDecl
structure = do
  word "struct"
  n ← name
  ms ← members
  pure (decl.Structure n.token n.name ms)

abbrev pub union : Production TypeDecl
union = do
  word "union"
  n ← name
  ms ← members
  pure (decl.Union n.token n.name ms)

abbrev pub literal : Production Literal
literal = do
  mark "="
  negative ← given (mark "-")
  n ← number
  pure (record { negative = negative; number = n })

abbrev pub enumerator : NameAt → Option Literal → EnumValue
enumerator n None = record { token = n.token; name = n.name; negative = false; number = None }
enumerator n (Some l) = record { token = n.token; name = n.name; negative = l.negative; number = Some l.number }

abbrev pub enum_value : Production EnumValue
enum_value = do
  n ← name
  l ← optional literal
  pure (enumerator n l)

abbrev pub enumeration_of : ℕ → Option NameAt → List EnumValue → TypeDecl
enumeration_of keyword None vs = decl.Enumeration keyword None vs
enumeration_of keyword (Some n) vs = decl.Enumeration n.token (Some n.name) vs

abbrev pub some_values : Production (List EnumValue)
some_values = do
  vs ← separated enum_value
  given (mark ",")
  pure vs

abbrev pub enum_values : Production (List EnumValue)
enum_values = some_values <|> pure []

abbrev pub enumeration : Production TypeDecl
enumeration = do
  keyword ← word "enum"
  n ← optional name
  mark "{"
  vs ← enum_values
  mark "}"
  mark ";"
  pure (enumeration_of keyword n vs)

-- ---- functions

abbrev pub no_params : Production (List Declared)
no_params = do
  optional (word "void")
  pure []

abbrev pub params : Production (List Declared)
params = no_params <|> separated param

abbrev pub func : Production Head
func = do
  w ← written
  n ← name
  mark "("
  ps ← params
  mark ")"
  pure (record { result = w; name = n; params = ps })

abbrev pub switchless : Production ℕ
switchless = word "transition_using_threads"

abbrev pub allow : Production (List NameAt)
allow = do
  word "allow"
  mark "("
  names ← optional (separated name)
  mark ")"
  pure (list_of names)

abbrev pub allow_first : Production Tail
allow_first = do
  names ← optional allow
  is_switchless ← given switchless
  pure (record { allow = names; switchless = is_switchless })

abbrev pub switchless_first : Production Tail
switchless_first = do
  switchless
  names ← allow
  pure (record { allow = Some names; switchless = true })

abbrev pub tail : Production Tail
tail = allow_first <|> switchless_first

abbrev pub function : Head → Bool → Tail → FuncDecl
function head is_public tail = record {
  token = head.name.token;
  name = head.name.name;
  result = head.result;
  params = head.params;
  is_public = is_public;
  switchless = tail.switchless;
  allow = tail.allow;
}

-- ---- items, each a file that holds it alone

abbrev pub nothing : EdlFile
nothing = record { includes = []; imports = []; types = []; trusted = []; untrusted = [] }

abbrev pub include_item : Include → EdlFile
include_item i = record nothing { includes = i ∷ [] }

abbrev pub import_item : Import → EdlFile
import_item i = record nothing { imports = i ∷ [] }

abbrev pub type_as_item : TypeDecl → EdlFile
type_as_item t = record nothing { types = t ∷ [] }

abbrev pub trusted_as_item : FuncDecl → EdlFile
trusted_as_item f = record nothing { trusted = f ∷ [] }

abbrev pub untrusted_as_item : FuncDecl → EdlFile
untrusted_as_item f = record nothing { untrusted = f ∷ [] }

-- two files as one, each list in order
abbrev pub both : EdlFile → EdlFile → EdlFile
both f g = record {
  includes = f.includes ++ g.includes;
  imports = f.imports ++ g.imports;
  types = f.types ++ g.types;
  trusted = f.trusted ++ g.trusted;
  untrusted = f.untrusted ++ g.untrusted;
}

-- the files as one
abbrev pub all_of : List EdlFile → EdlFile
all_of [] = nothing
all_of (f ∷ fs) = both f (all_of fs)

abbrev pub include : IncludePlace → Production EdlFile
include at = do
  word "include"
  t ← quoted
  pure (include_item (record { token = t.token; text = t.name; place = at }))

abbrev pub all_names : Production (Option (List NameAt))
all_names = do
  mark "*"
  pure None

abbrev pub some_names : Production (Option (List NameAt))
some_names = do
  names ← separated name
  pure (Some names)

abbrev pub import_names : Production (Option (List NameAt))
import_names = all_names <|> some_names

abbrev pub «import» : Production EdlFile
«import» = do
  word "from"
  t ← quoted
  word "import"
  names ← import_names
  mark ";"
  pure (import_item (record { token = t.token; text = t.name; names = names }))

-- a type as an item
abbrev pub type_item : Production TypeDecl → Production EdlFile
type_item p = do
  t ← p
  pure (type_as_item t)

abbrev pub trusted_function : Production EdlFile
trusted_function = do
  is_public ← given (word "public")
  head ← func
  is_switchless ← given switchless
  mark ";"
  pure (trusted_as_item (function head is_public (record { allow = None; switchless = is_switchless })))

abbrev pub convention : Production ℕ
convention = do
  mark "["
  word "cdecl"
  mark "]"

abbrev pub untrusted_function : Production EdlFile
untrusted_function = do
  given convention
  head ← func
  t ← tail
  mark ";"
  pure (untrusted_as_item (function head false t))

-- a block, whose word stands before its items
abbrev pub block : String → Production EdlFile → Production EdlFile
block spelling item = do
  word spelling
  mark "{"
  items ← many item
  mark "}"
  mark ";"
  pure (all_of items)

abbrev pub trusted_item : Production EdlFile
trusted_item = include place.Trusted <|> trusted_function

abbrev pub untrusted_item : Production EdlFile
untrusted_item = include place.Untrusted <|> untrusted_function

abbrev pub item : Production EdlFile
item =
    include place.Outside <|> «import»
    <|> type_item enumeration <|> type_item structure <|> type_item union
    <|> block "trusted" trusted_item <|> block "untrusted" untrusted_item

abbrev pub file : Production EdlFile
file = block "enclave" item
