-- What a parser of interface files answers: the tree of a sentence, or the first fault.
use Rattle.std.specs.Prelude.{◌≡◌, ℕ, suc, ◌<◌, ◌≤◌, min, Bool, ◌||◌, nat_lt, List, [], ◌∷◌, ◌++◌, length, map, filter, flat_map, take, slice_get, Option, Some, None, Result, Ok, Err}
use Rattle.sgx_base.specs.declared.Fault.{Fault}
use Rattle.edl_lexer.specs.declared.Token.{Token}
use Rattle.edl_lexer.specs.Lexing.{opening, after, fault_at}
use Rattle.edl_grammar.specs.declared.EdlFile.{EdlFile}
use Rattle.edl_grammar.specs.declared.TypeDecl.{TypeDecl}
use Rattle.edl_grammar.specs.declared.TypeDecl.TheVariants as decl
use Rattle.edl_grammar.specs.declared.FuncDecl.{FuncDecl}
use Rattle.edl_grammar.specs.declared.Declared.{Declared}
use Rattle.edl_grammar.specs.declared.ParseFault.{ParseFault}
use Rattle.edl_grammar.specs.declared.ParseFault.TheVariants as faults
use Rattle.edl_grammar.specs.Symbols.{Lexed, symbols}
use Rattle.edl_grammar.specs.Grammar.{file}

abbrev pub IsSentence : List Lexed → Type 0
IsSentence ss = (tree : EdlFile) × file ss tree

-- some continuation makes a sentence of it
abbrev pub IsViable : List Lexed → Type 0
IsViable ss = (more : List Lexed) × IsSentence (ss ++ more)

-- n symbols are the longest viable prefix, and the symbols are no sentence: so the one behind the prefix,
-- or the end, is unexpected
pub record IsFirstUnexpected (ss : List Lexed) (n : ℕ) : Type 0 where
  pub within : n ≤ length ss
  pub viable : IsViable (take n ss)
  pub longest : n < length ss → IsViable (take (suc n) ss) → ⊥
  pub unfinished : IsSentence ss → ⊥

-- ---- declarations that are too deep

abbrev pub max_depth : ℕ
max_depth = 8

abbrev pub is_deep : Declared → Bool
is_deep d = nat_lt max_depth d.written.stars || nat_lt max_depth (length d.dims)

-- the tokens of the deep ones
abbrev pub deep_among : List Declared → List ℕ
deep_among ds = map (λ d. d.token) (filter is_deep ds)

abbrev pub deep_in_type : TypeDecl → List ℕ
deep_in_type (decl.Enumeration token name values) = []
deep_in_type (decl.Structure token name members) = deep_among members
deep_in_type (decl.Union token name members) = deep_among members

-- a function has no dimensions, and the stars of its result
abbrev pub deep_in_function : FuncDecl → List ℕ
deep_in_function f = map (λ f. f.token) (filter (λ f. nat_lt max_depth f.result.stars) (f ∷ [])) ++ deep_among f.params

abbrev pub deep_in : EdlFile → List ℕ
deep_in tree = flat_map deep_in_type tree.types ++ flat_map deep_in_function tree.trusted ++ flat_map deep_in_function tree.untrusted

abbrev pub least_of : ℕ → Option ℕ → ℕ
least_of n None = n
least_of n (Some m) = min n m

abbrev pub least : List ℕ → Option ℕ
least [] = None
least (n ∷ ns) = Some (least_of n (least ns))

-- ---- places

abbrev pub fault_by : ℕ → List ℕ → Option Token → ℕ → Fault
fault_by number bytes (Some t) code = record { file = number; line = t.line; column = t.column; code = code }
fault_by number bytes None code = fault_at number (after opening bytes) code

-- ---- the answer

module _ (number : ℕ) (bytes : List ℕ) (tokens : List Token) where
  -- the fault with this code at a token, or at the end of the file behind the last
  abbrev pub fault : ℕ → ℕ → Fault
  fault token code = fault_by number bytes (slice_get tokens token) code

  -- what the parser answers for the tokens of a file, which has this number
  abbrev pub Parses : Result EdlFile ParseFault → Type 0
  Parses (Ok tree) = file (symbols bytes tokens) tree × (deep_in tree ≡ [])
  Parses (Err (faults.Expected token at)) = IsFirstUnexpected (symbols bytes tokens) token × (at ≡ fault token 6)
  Parses (Err (faults.TooDeep at)) = (tree : EdlFile) × (token : ℕ) × file (symbols bytes tokens) tree × (least (deep_in tree) ≡ Some token) × (at ≡ fault token 7)
  Parses (Err faults.Memory) = Unit {0}
