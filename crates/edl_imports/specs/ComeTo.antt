-- The names that the gathering comes to: the root's, and those for which imports of files that it came to ask.
use Rattle.std.specs.Prelude.{ℕ, ◌≡◌, ◌⊎◌, List, [], ◌∷◌, Option, None, Some, IfSome, Result, Ok, Err, All, Contains}
use Rattle.sgx_base.specs.Stores.{Store}
use Rattle.edl_grammar.specs.declared.Import.{Import}
use Rattle.edl_grammar.specs.declared.SourceFile.{SourceFile}
use Rattle.edl_imports.specs.declared.faults.ImportCause.{ImportCause}
use Rattle.edl_imports.specs.declared.faults.ImportCause.TheVariants.{NotFound, ReadFault, Memory}
use Rattle.edl_imports.specs.declared.faults.Stop.{Stop}
use Rattle.edl_imports.specs.declared.faults.Stop.TheVariants.{Fault, Memory as out_of_memory}
use Rattle.edl_imports.specs.declared.search.Found.{Found}
use Rattle.edl_imports.specs.declared.search.Found.TheVariants.{Known, New}
use Rattle.edl_imports.specs.Apart.{IsSource}
use Rattle.edl_imports.specs.Search.{candidates}

-- one of these names, and where the contents are told no file has one of those before it
abbrev pub IsAskedOf : Option Store → List (List ℕ) → List ℕ → Type 0
IsAskedOf contents [] name = ⊥
IsAskedOf contents (first ∷ names) name =
    (first ≡ name) ⊎ (IfSome contents (λ store. store first ≡ None) × IsAskedOf contents names name)

module _ (contents : Option Store) (paths : List (List ℕ)) (root : List ℕ) where
  -- A name is come to: it is the root's, or a candidate of an import of a file that was come to, behind candidates that
  -- no file has.
  pub data IsComeTo : List ℕ → Type 0 where
    is_root : IsComeTo root
    is_asked : (f : SourceFile) (i : Import) (name : List ℕ) → IsComeTo f.name → IsSource contents f
        → Contains f.tree.imports i → IsAskedOf contents (candidates paths i.text) name → IsComeTo name

  -- the file was come to, and it is what some bytes say, which it has where the contents are told
  pub record IsReached (f : SourceFile) : Type 0 where
    pub come : IsComeTo f.name
    pub source : IsSource contents f

  -- a file is looked for by this text: by the root's name, or by an import of a file that was come to
  pub data IsWanted : List ℕ → Type 0 where
    root_wanted : IsWanted root
    text_wanted : (f : SourceFile) (i : Import) → IsReached f → Contains f.tree.imports i → IsWanted i.text

  -- The name of a fault. A file that is not found is named by the text that it was looked for by; want of memory has no
  -- name; every other fault has that of a file that was come to.
  abbrev pub IsNameOf : ImportCause → List ℕ → Type 0
  IsNameOf NotFound name = IsWanted name
  IsNameOf Memory name = name ≡ []
  IsNameOf _ name = IsComeTo name

  abbrev pub IsStopNamed : Stop → Type 0
  IsStopNamed out_of_memory = Unit {0}
  IsStopNamed (Fault e) = IsNameOf e.cause e.name

  -- where a step went well, the files so far are reached; else its fault has such a name
  abbrev pub Comes : {A : Type 0} → List SourceFile → Result A Stop → Type 0
  Comes files (Ok a) = All IsReached files
  Comes files (Err stop) = IsStopNamed stop

-- ---- one import

-- a new file was asked for by one of these names, and where the contents are told it has these bytes
abbrev pub IsAnswer : Option Store → List (List ℕ) → Found → Type 0
IsAnswer contents names (New f) = IsAskedOf contents names f.name × IfSome contents (λ store. store f.name ≡ Some f.bytes)
IsAnswer contents names (Known n) = Unit {0}

-- what was found by these names, or by which of them a read failed
abbrev pub Asks : Option Store → List (List ℕ) → Result (Option Found) Stop → Type 0
Asks contents names (Ok found) = IfSome found (IsAnswer contents names)
Asks contents names (Err out_of_memory) = Unit {0}
Asks contents names (Err (Fault e)) = IsAskedOf contents names e.name

-- the name of a fault of an import of this text, in the file of this name
abbrev pub IsNameIn : Option Store → List (List ℕ) → List ℕ → List ℕ → ImportCause → List ℕ → Type 0
IsNameIn contents paths file text NotFound name = name ≡ text
IsNameIn contents paths file text ReadFault name = IsAskedOf contents (candidates paths text) name
IsNameIn contents paths file text Memory name = name ≡ []
IsNameIn contents paths file text _ name = name ≡ file

-- what an import of this text, in the file of this name, finds
abbrev pub Finds : Option Store → List (List ℕ) → List ℕ → List ℕ → Result Found Stop → Type 0
Finds contents paths file text (Ok found) = IsAnswer contents (candidates paths text) found
Finds contents paths file text (Err out_of_memory) = Unit {0}
Finds contents paths file text (Err (Fault e)) = IsNameIn contents paths file text e.cause e.name
