-- Why a step of the gathering fails.
use Rattle.std.specs.Prelude.{ℕ, ◌≡◌, ◌⊎◌, List, [], Option, None, IfSome, Err}
use Rattle.sgx_base.specs.Stores.{Store, FilesState, ReadFailed, Missed}
use Rattle.edl_imports.specs.declared.faults.ImportFault.{ImportFault}
use Rattle.edl_imports.specs.declared.faults.ImportCause.{ImportCause}
use Rattle.edl_imports.specs.declared.faults.ImportCause.TheVariants.{NotFound, ReadFault, Memory}
use Rattle.edl_imports.specs.declared.faults.Stop.{Stop}
use Rattle.edl_imports.specs.declared.faults.Stop.TheVariants.{Fault, Memory as out_of_memory}
use Rattle.edl_imports.specs.declared.search.Found.{Found}
use Rattle.edl_imports.specs.Search.{candidates}
use Rattle.edl_imports.specs.Gathering.{Outcome}

-- where the contents are told, this fault is what is stated of them
abbrev pub IsStated : {A : Type 0} → FilesState → (Store → Outcome A) → ImportFault → Type 0
IsStated files stated e = IfSome files.contents (λ store. stated store ≡ Err e)

abbrev pub IsBy : List (List ℕ) → FilesState → FilesState → List ℕ → Type 0 → ImportCause → Type 0
IsBy paths before after name IsSo NotFound = (Missed before after ⊎ (candidates paths name ≡ [])) × IsSo
IsBy paths before after name IsSo ReadFault = ReadFailed before after
IsBy paths before after name IsSo Memory = name ≡ []
IsBy paths before after name IsSo _ = IsSo

-- A fault, where the files were so before and are so after. A read that failed, a name that was missed and want of
-- memory are no matter of the contents; the other causes stand where the contents have them, as does a missing file.
abbrev pub IsFault : {A : Type 0} → List (List ℕ) → FilesState → FilesState → (Store → Outcome A) → ImportFault → Type 0
IsFault paths before after stated e = IsBy paths before after e.name (IsStated before stated e) e.cause

-- the same of a step, which may also stop for want of memory
abbrev pub IsStop : {A : Type 0} → List (List ℕ) → FilesState → FilesState → (Store → Outcome A) → Stop → Type 0
IsStop paths before after stated out_of_memory = Unit {0}
IsStop paths before after stated (Fault e) = IsFault paths before after stated e

-- the same of a step that looks at no files
abbrev pub IsStopOf : {A : Type 0} → Outcome A → Stop → Type 0
IsStopOf stated out_of_memory = Unit {0}
IsStopOf stated (Fault e) = stated ≡ Err e

-- where the step says that no file was found, none was, and this text is named
abbrev pub IsMissing : List ℕ → Option Found → Stop → Type 0
IsMissing text found out_of_memory = Unit {0}
IsMissing text found (Fault e) = e.cause ≡ NotFound → (found ≡ None) × (e.name ≡ text)

-- a read failed, or memory ran out
abbrev pub IsReadStop : FilesState → FilesState → Stop → Type 0
IsReadStop before after out_of_memory = Unit {0}
IsReadStop before after (Fault e) = (e.cause ≡ ReadFault) × ReadFailed before after

-- the fault has this name
abbrev pub IsNamed : List ℕ → Stop → Type 0
IsNamed name out_of_memory = Unit {0}
IsNamed name (Fault e) = e.name ≡ name
