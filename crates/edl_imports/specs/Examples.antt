-- Short files that import one another, and what is gathered of them.
use Rattle.std.specs.Prelude.{◌≡◌, ℕ, List, [], ◌∷◌, Some, None, Ok, Err, if◌then◌else◌, codes}
use Rattle.std.specs.Str.{bytes_eq}
use Rattle.sgx_base.specs.Stores.{Store}
use Rattle.sgx_base.specs.declared.Fault.{Fault}
use Rattle.edl_grammar.specs.declared.Pick.{Pick}
use Rattle.edl_grammar.specs.declared.Gathered.{Gathered}
use Rattle.edl_grammar.specs.declared.ParseFault.{ParseFault}
use Rattle.edl_grammar.specs.declared.ParseFault.TheVariants as syntactic
use Rattle.edl_imports.specs.declared.faults.ImportCause.TheVariants as causes
use Rattle.edl_imports.specs.Gathering.{Outcome, fail, gathering}

-- the files of a list, by name
abbrev pub store_of : List (List ℕ × List ℕ) → Store
store_of [] name = None
store_of (f ∷ fs) name = if bytes_eq f.0 name then Some f.1 else store_of fs name

abbrev pub untrusted_of : Outcome Gathered → List Pick
untrusted_of (Ok g) = g.untrusted
untrusted_of (Err e) = []

abbrev pub fault : ℕ → ℕ → ℕ → Fault
fault file column code = record { file = file; line = 1; column = column; code = code }

abbrev pub pick : ℕ → ℕ → Pick
pick file index = record { file = file; index = index }

-- an unexpected token or end
abbrev pub expected : ℕ → ℕ → ℕ → ParseFault
expected file token column = syntactic.Expected token (fault file column 6)

pub record Examples : Type 0 where
  pub cycle : gathering (store_of ((codes "a.edl", codes "enclave { from \"b.edl\" import *; };")
      ∷ (codes "b.edl", codes "enclave { from \"a.edl\" import *; };") ∷ [])) [] (codes "a.edl")
      ≡ fail (codes "b.edl") (causes.Cycle (fault 1 16 8))
  pub no_such_name : gathering (store_of ((codes "a.edl", codes "enclave { from \"b.edl\" import g; };")
      ∷ (codes "b.edl", codes "enclave { };") ∷ [])) [] (codes "a.edl")
      ≡ fail (codes "a.edl") (causes.NoSuchName (fault 0 31 9))
  pub not_found : gathering (store_of ((codes "a.edl", codes "enclave { from \"c.edl\" import g; };") ∷ []))
      (codes "p" ∷ []) (codes "a.edl") ≡ fail (codes "c.edl") causes.NotFound
  pub no_root : gathering (store_of []) (codes "p" ∷ []) (codes "a.edl") ≡ fail (codes "a.edl") causes.NotFound
  -- the second directory has the file, whose name is that of the candidate
  pub in_directory : gathering (store_of ((codes "a", codes "enclave { from \"c\" import *; };")
      ∷ (codes "q/c", codes "enclave") ∷ [])) (codes "p" ∷ [] ∷ codes "q" ∷ []) (codes "a")
      ≡ fail (codes "q/c") (causes.Parse (expected 1 1 8))
  -- the own functions come first, and what is reached twice is taken once, at its first place
  pub twice : untrusted_of (gathering (store_of (
      (codes "a", codes "enclave { from \"b\" import *; from \"c\" import h, g; untrusted { void o(); }; };")
      ∷ (codes "b", codes "enclave { from \"c\" import g; untrusted { void p(); }; };")
      ∷ (codes "c", codes "enclave { untrusted { void g(); void h(); }; };") ∷ [])) [] (codes "a"))
      ≡ pick 0 0 ∷ pick 1 0 ∷ pick 2 0 ∷ pick 2 1 ∷ []
  -- what a file takes it hands on; a list of names has its own order
  pub handed_on : untrusted_of (gathering (store_of ((codes "a", codes "enclave { from \"b\" import h, g; };")
      ∷ (codes "b", codes "enclave { from \"c\" import *; };")
      ∷ (codes "c", codes "enclave { untrusted { void g(); void h(); }; };") ∷ [])) [] (codes "a"))
      ≡ pick 2 1 ∷ pick 2 0 ∷ []
  pub two_types : gathering (store_of ((codes "a", codes "enclave { from \"b\" import *; struct s { int x; }; };")
      ∷ (codes "b", codes "enclave { struct s { int x; }; };") ∷ [])) [] (codes "a")
      ≡ fail (codes "b") (causes.Conflict (fault 1 18 10))
  pub two_functions : gathering (store_of (
      (codes "a", codes "enclave { from \"b\" import *; untrusted { void f(); }; };")
      ∷ (codes "b", codes "enclave { trusted { void f(); }; };") ∷ [])) [] (codes "a")
      ≡ fail (codes "b") (causes.Conflict (fault 1 26 10))
  -- a function and a type of one name are no conflict
  pub apart : untrusted_of (gathering (store_of (
      (codes "a", codes "enclave { from \"b\" import *; untrusted { void s(); }; };")
      ∷ (codes "b", codes "enclave { struct s { int x; }; };") ∷ [])) [] (codes "a")) ≡ pick 0 0 ∷ []
  -- a first import's own fault comes before a later import that is missing
  pub in_order : gathering (store_of ((codes "a", codes "enclave { from \"b\" import *; from \"c\" import *; };")
      ∷ (codes "b", codes "") ∷ [])) [] (codes "a") ≡ fail (codes "b") (causes.Parse (expected 1 0 1))
