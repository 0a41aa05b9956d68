-- What gathering means, in the words of files and imports.
use Rattle.std.specs.Prelude.{ℕ, zero, suc, ◌≡◌, ◌+◌, ◌<◌, ◌⊎◌, false, not, List, [], ◌∷◌, ◌++◌, filter, length, Some, Ok, Err, Contains, slice_get}
use Rattle.std.specs.Str.{IsUtf8}
use Rattle.sgx_base.specs.Stores.{Store}
use Rattle.edl_lexer.specs.Lexing.{lexing}
use Rattle.edl_grammar.specs.declared.Gathered.{Gathered}
use Rattle.edl_grammar.specs.declared.Import.{Import}
use Rattle.edl_grammar.specs.declared.Pick.{Pick}
use Rattle.edl_grammar.specs.declared.SourceFile.{SourceFile}
use Rattle.edl_grammar.specs.Parser.{parsing}
use Rattle.edl_imports.specs.declared.faults.ImportCause.TheVariants as causes
use Rattle.edl_imports.specs.declared.faults.ImportFault.{ImportFault}
use Rattle.edl_imports.specs.declared.search.Found.{Found}
use Rattle.edl_imports.specs.declared.search.Found.TheVariants.{Known, New}
use Rattle.edl_imports.specs.declared.search.NewFile.{NewFile}
use Rattle.edl_imports.specs.Apart.{TypesAreApart}
use Rattle.edl_imports.specs.Search.{candidates, first_file}
use Rattle.edl_imports.specs.Offers.{picks, has_pick, joined}
use Rattle.edl_imports.specs.Gathering.{fail, fault_at, read_source, max_files, gathering}

-- the store has a root file of these tokens and this tree
pub record IsRootFile (store : Store) (root : List ℕ) (source : SourceFile) : Type 0 where
  pub bytes : List ℕ
  pub found : store root ≡ Some bytes
  pub named : source.name ≡ root
  pub lexed : lexing 0 bytes ≡ Ok source.tokens
  pub parsed : parsing 0 bytes source.tokens ≡ Ok source.tree

-- one file with all its functions
abbrev pub alone : SourceFile → Gathered
alone source = record {
  files = source ∷ [];
  trusted = picks 0 (length source.tree.trusted);
  untrusted = picks 0 (length source.tree.untrusted);
}

-- without imports it is the root alone
abbrev pub IsAlone : Type 0
IsAlone = (store : Store) (paths : List (List ℕ)) (root : List ℕ) (source : SourceFile) → IsRootFile store root source
    → source.tree.imports ≡ [] → gathering store paths root ≡ Ok (alone source)

-- a root that imports itself first closes a cycle, whatever else the store has
abbrev pub OwnImportIsCycle : Type 0
OwnImportIsCycle = (store : Store) (paths : List (List ℕ)) (root : List ℕ) (source : SourceFile) (i : Import) (is : List Import)
    → IsRootFile store root source → IsUtf8 root → source.tree.imports ≡ i ∷ is → i.text ≡ root
    → gathering store paths root ≡ fail root (causes.Cycle (fault_at 0 source i.token 8))

-- an import of a file that was read before names one of its candidates so
pub record IsNamed (paths : List (List ℕ)) (files : List SourceFile) (before : ℕ) (name : List ℕ) : Type 0 where
  pub number : ℕ
  pub source : SourceFile
  pub «import» : Import
  pub earlier : number < before
  pub there : slice_get files number ≡ Some source
  pub among : Contains source.tree.imports «import»
  pub candidate : Contains (candidates paths «import».text) name

-- each file but the first has the name of a candidate of an import of a file before it
abbrev pub AreReached : List (List ℕ) → List SourceFile → Type 0
AreReached paths files = (k : ℕ) (f : SourceFile) → slice_get files k ≡ Some f → (k ≡ 0) ⊎ IsNamed paths files k f.name

-- every file that is gathered is reached from the root by imports
abbrev pub EachIsReached : Type 0
EachIsReached = (store : Store) (paths : List (List ℕ)) (root : List ℕ) (g : Gathered)
    → gathering store paths root ≡ Ok g → AreReached paths g.files

-- ---- what is taken

-- no function stands twice in the list
abbrev pub AreDistinct : List Pick → Type 0
AreDistinct [] = Unit {0}
AreDistinct (p ∷ ps) = (has_pick ps p ≡ false) × AreDistinct ps

-- each function is taken once
abbrev pub EachIsTakenOnce : Type 0
EachIsTakenOnce = (store : Store) (paths : List (List ℕ)) (root : List ℕ) (g : Gathered)
    → gathering store paths root ≡ Ok g → AreDistinct g.trusted × AreDistinct g.untrusted

-- What is offered stands behind what was taken before, in the order of the offer. What was taken before keeps its place,
-- and is not taken again.
abbrev pub FirstPlaceStays : Type 0
FirstPlaceStays = (taken offered : List Pick) → AreDistinct offered
    → joined taken offered ≡ taken ++ filter (λ p. not (has_pick taken p)) offered

-- types of one name stand in one file
abbrev pub TypesStandApart : Type 0
TypesStandApart = (store : Store) (paths : List (List ℕ)) (root : List ℕ) (g : Gathered)
    → gathering store paths root ≡ Ok g → TypesAreApart g

-- ---- cycles

-- the file, which is read behind these, has an import, whose first one finds this
pub record ImportsFirst (store : Store) (paths : List (List ℕ)) (files : List SourceFile) (f : NewFile) (found : Found) : Type 0 where
  pub source : SourceFile
  pub «import» : Import
  pub more : List Import
  pub read : read_source (length files) f ≡ Ok source
  pub first : source.tree.imports ≡ «import» ∷ more
  pub finds : first_file store (files ++ source ∷ []) (candidates paths «import».text) ≡ Some found

-- By its first import, and by those of so many more files that are read then, the file leads back to itself or to one of
-- these, of which none is gathered wholly. The fault is at the import that closes the cycle, under the name of its file.
abbrev pub LeadsBack : Store → List (List ℕ) → ℕ → List SourceFile → NewFile → ImportFault → Type 0
LeadsBack store paths zero files f e = (n : ℕ) × (h : ImportsFirst store paths files f (Known n))
    × (e ≡ record { name = h.source.name; cause = causes.Cycle (fault_at (length files) h.source h.«import».token 8) })
LeadsBack store paths (suc more) files f e = (next : NewFile) × (h : ImportsFirst store paths files f (New next))
    × (length files + 1 < max_files) × LeadsBack store paths more (files ++ h.source ∷ []) next e

-- a cycle of imports is refused, whatever its length
abbrev pub CycleIsRefused : Type 0
CycleIsRefused = (store : Store) (paths : List (List ℕ)) (root bytes : List ℕ) (more : ℕ) (e : ImportFault)
    → store root ≡ Some bytes → LeadsBack store paths more [] (record { name = root; bytes = bytes }) e
    → gathering store paths root ≡ Err e

module _ (store : Store) (paths : List (List ℕ)) (files : List SourceFile) where
  -- an import of the file of the first number finds the file of the second
  pub record ImportFinds (k n : ℕ) : Type 0 where
    pub source : SourceFile
    pub «import» : Import
    pub there : slice_get files k ≡ Some source
    pub among : Contains source.tree.imports «import»
    pub finds : first_file store files (candidates paths «import».text) ≡ Some (Known n)

  -- the first file leads to the second by an import, or by those of so many files between
  abbrev pub LeadsTo : ℕ → ℕ → ℕ → Type 0
  LeadsTo zero k n = ImportFinds k n
  LeadsTo (suc between) k n = (m : ℕ) × ImportFinds k m × LeadsTo between m n

-- no gathered file lies on a cycle of imports, of whatever length
abbrev pub NoneLeadsToItself : Type 0
NoneLeadsToItself = (store : Store) (paths : List (List ℕ)) (root : List ℕ) (g : Gathered) → gathering store paths root ≡ Ok g
    → (between k : ℕ) → LeadsTo store paths g.files between k k → ⊥

-- each import of a gathered file finds a gathered file
abbrev pub EachImportIsGathered : Type 0
EachImportIsGathered = (store : Store) (paths : List (List ℕ)) (root : List ℕ) (g : Gathered) → gathering store paths root ≡ Ok g
    → (k : ℕ) (f : SourceFile) (i : Import) → slice_get g.files k ≡ Some f → Contains f.tree.imports i
    → (n : ℕ) × (first_file store g.files (candidates paths i.text) ≡ Some (Known n))
