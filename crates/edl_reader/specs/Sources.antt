-- The files that an EDL file and its imports are, or why they are none.
use Rattle.std.specs.Prelude.{ℕ, ◌≡◌, ◌⊎◌, List, [], IfSome, Ok, Err, All}
use Rattle.sgx_base.specs.Stores.{Store, FilesState, ReadFailed, Missed}
use Rattle.sgx_base.specs.declared.Fault.{Fault}
use Rattle.edl_grammar.specs.declared.Gathered.{Gathered}
use Rattle.edl_grammar.specs.declared.SourceFile.{SourceFile}
use Rattle.edl_grammar.specs.Files.{types_of}
use Rattle.edl_imports.specs.declared.faults.ImportFault.{ImportFault}
use Rattle.edl_imports.specs.ComeTo.{IsComeTo, IsReached, IsWanted}
use Rattle.edl_imports.specs.Search.{candidates}
use Rattle.edl_imports.specs.Gathering.{gathering, name_at}
use Rattle.attr_rules.specs.ForRun.{AreInOneFile, IsRead}
use Rattle.edl_reader.specs.declared.faults.SourceFault.{SourceFault}
use Rattle.edl_reader.specs.declared.faults.SourceFault.TheVariants.{Edl, NotFound, ReadFault, Memory}
use Rattle.edl_reader.specs.Told.{of_cause}

-- the EDL file of this name, with all that it imports by this search path, is these files
abbrev pub IsRoot : Store → List (List ℕ) → List ℕ → Gathered → Type 0
IsRoot store paths edl g = gathering store paths edl ≡ Ok g

-- the EDL file of this name and its imports are these files: each is reached from it by imports, and where the contents
-- are told they are what is gathered
pub record GivesRoot (files : FilesState) (paths : List (List ℕ)) (edl : List ℕ) (g : Gathered) : Type 0 where
  pub read : All (IsReached files.contents paths edl) g.files
  pub told : IfSome files.contents (λ store. IsRoot store paths edl g)

-- the trees are as the parser gives them, and types of one name stand in one file
pub record AreParsed (g : Gathered) : Type 0 where
  pub trees : All (λ f. IsRead f.tree) g.files
  pub names : AreInOneFile (types_of g)

-- the gathering of the EDL file of this name and its imports ends at a fault, which is told so
pub record IsNoRoot (store : Store) (paths : List (List ℕ)) (edl : List ℕ) (told : SourceFault) : Type 0 where
  pub fault : ImportFault
  pub gathered : gathering store paths edl ≡ Err fault
  pub is_told : told ≡ of_cause fault.name fault.cause

-- where the contents are told, they give this fault in place of files
abbrev pub GivesNoRoot : FilesState → List (List ℕ) → List ℕ → SourceFault → Type 0
GivesNoRoot files paths edl told = IfSome files.contents (λ store. IsNoRoot store paths edl told)

-- Why there are no files, where those of the system were so before and are so after. A fault at a place, and a read
-- that failed, have the name of a file that was come to. A missing file is the EDL file or the text of an import of a
-- file that was come to, and was asked for or has no candidate.
abbrev pub IsUngathered : List (List ℕ) → List ℕ → FilesState → FilesState → SourceFault → Type 0
IsUngathered paths edl before after (Edl name fault) =
    IsComeTo before.contents paths edl name × GivesNoRoot before paths edl (Edl name fault)
IsUngathered paths edl before after (NotFound name) =
    (Missed before after ⊎ (candidates paths name ≡ []))
    × IsWanted before.contents paths edl name
    × GivesNoRoot before paths edl (NotFound name)
IsUngathered paths edl before after (ReadFault name) =
    ReadFailed before after × IsComeTo before.contents paths edl name
IsUngathered paths edl before after Memory = ⊥

-- a fault of these files, under the name of that in which it stands
abbrev pub IsEdlFault : List SourceFile → (Fault → Type 0) → SourceFault → Type 0
IsEdlFault files Is (Edl name f) = (name ≡ name_at files f.file) × Is f
IsEdlFault files Is _ = ⊥
