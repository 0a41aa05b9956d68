-- The earliest token of a name, and what a table of names tells.
use Rattle.std.specs.Prelude.{◌≡◌, ℕ, min, Bool, false, nat_lt, if◌then◌else◌, List, [], ◌∷◌, Option, Some, None, fold}
use Rattle.std.specs.Str.{bytes_eq}
use Rattle.edl_grammar.specs.declared.NameAt.{NameAt}
use Rattle.edl_grammar.specs.declared.SourceFile.{SourceFile}
use Rattle.attr_terms.specs.Rules.{function_names}
use Rattle.broken_rules.specs.declared.names.Names.{Names}
use Rattle.attr_terms.specs.Kinds.{told}

abbrev pub earlier_of : Option ℕ → ℕ → ℕ
earlier_of None token = token
earlier_of (Some n) token = min n token

-- one name more
abbrev pub with_name : List ℕ → Option ℕ → NameAt → Option ℕ
with_name q t x = if bytes_eq x.name q then Some (earlier_of t x.token) else t

abbrev pub earliest : List ℕ → List NameAt → Option ℕ
earliest q = fold (with_name q) None

abbrev pub is_before : Option ℕ → ℕ → Bool
is_before None token = false
is_before (Some n) token = nat_lt n token

-- the table has the earliest token of each name
pub record TellsNames (names : Names) (list : List NameAt) : Type 0 where
  pub here : (q : List ℕ) → told names.earliest q ≡ earliest q list

-- a table for each file, of the names of its functions
abbrev pub TellEach : List Names → List SourceFile → Type 0
TellEach [] [] = Unit {0}
TellEach (n ∷ ns) (f ∷ fs) = TellsNames n (function_names f.tree) × TellEach ns fs
TellEach _ _ = ⊥
