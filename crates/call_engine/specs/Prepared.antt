-- The machine that files give, or why they give none.
use Rattle.std.specs.Prelude.{ℕ, ◌≡◌, ◌⊎◌, Bool, true, List, [], None, Some, IfSome, Result, Ok, Err}
use Rattle.sgx_base.specs.Stores.{Store, FilesState, Holds, ReadFailed, Missed}
use Rattle.sgx_base.specs.declared.Fault.{Fault}
use Rattle.edl_grammar.specs.declared.Gathered.{Gathered}
use Rattle.edl_layout.specs.declared.ForeignTypes.{ForeignTypes}
use Rattle.edl_imports.specs.ComeTo.{IsComeTo, IsWanted}
use Rattle.edl_imports.specs.Search.{candidates}
use Rattle.edl_imports.specs.Gathering.{name_at}
use Rattle.edl_interface.specs.declared.Interface.{Interface}
use Rattle.edl_reader.specs.Accepted.{IsAccepted, IsRefused}
use Rattle.edl_reader.specs.declared.faults.SourceFault.{SourceFault}
use Rattle.edl_reader.specs.Sources.{IsRoot, IsNoRoot, GivesRoot}
use Rattle.script_reader.specs.Foreign.{foreign_types}
use Rattle.bridge_program.specs.Tables.{bridges_of}
use Rattle.call_machine.specs.declared.Machine.{Machine}
use Rattle.call_engine.specs.declared.faults.PrepareFault.{PrepareFault}
use Rattle.call_engine.specs.declared.faults.PrepareFault.TheVariants.{Edl, Script, NotFound, ReadFault}
use Rattle.call_engine.specs.Plain.{plain_script}
use Rattle.call_engine.specs.Told.{of_source}

-- ---- files and a script's text

-- the interface of files that are accepted for a run, with the foreign types that a script declares
pub record IsInterface (g : Gathered) (text : List ℕ) (i : Interface) : Type 0 where
  pub foreign : ForeignTypes
  pub declared : foreign_types text ≡ Ok foreign
  pub accepted : IsAccepted g foreign true i

-- the fault of files with these foreign types
pub record HasNoInterface (g : Gathered) (text : List ℕ) (f : Fault) : Type 0 where
  pub foreign : ForeignTypes
  pub declared : foreign_types text ≡ Ok foreign
  pub refused : IsRefused g foreign true f

-- the fault of a script at a line: of its foreign types, or, where the files give an interface, of the whole script
pub data HasNoScript (racing : Bool) (g : Gathered) (text : List ℕ) (line code : ℕ) : Type 0 where
  in_types : foreign_types text ≡ Err (record { line = line; code = code }) → HasNoScript racing g text line code
  in_script : (i : Interface) → IsInterface g text i
      → plain_script i racing text ≡ Err (record { line = line; code = code }) → HasNoScript racing g text line code

-- the machine of files that were gathered and of a script's text, for the program with threads or the one without
pub record IsMachineOf (racing : Bool) (g : Gathered) (text : List ℕ) (m : Machine) : Type 0 where
  pub interface : IsInterface g text m.interface
  pub bridges : m.bridges ≡ bridges_of m.interface
  pub script : plain_script m.interface racing text ≡ Ok m.script

-- why they give none
abbrev pub IsMachineFault : Bool → Gathered → List ℕ → PrepareFault → Type 0
IsMachineFault racing g text (Edl name f) = (name ≡ name_at g.files f.file) × HasNoInterface g text f
IsMachineFault racing g text (Script line code) = HasNoScript racing g text line code
IsMachineFault racing g text _ = ⊥

-- ---- a store

-- What a store gives for a search path and the names of an EDL file and a script, in the order in which causes are
-- looked for: the EDL file and its imports as they are read, that the script is there, the script's foreign types,
-- layouts and rules, and the whole script. A fault of layouts or rules is told under the name of the file in which it
-- stands.
pub data Prepares (racing : Bool) (store : Store) (paths : List (List ℕ)) (edl script : List ℕ)
    : Result Machine PrepareFault → Type 0 where
  ungathered : (e : SourceFault) → IsNoRoot store paths edl e
      → Prepares racing store paths edl script (Err (of_source e))
  no_script : (g : Gathered) → IsRoot store paths edl g → store script ≡ None
      → Prepares racing store paths edl script (Err (NotFound script))
  without_interface : (g : Gathered) (text : List ℕ) (f : Fault) → IsRoot store paths edl g → store script ≡ Some text
      → HasNoInterface g text f → Prepares racing store paths edl script (Err (Edl (name_at g.files f.file) f))
  faulty : (g : Gathered) (text : List ℕ) (line code : ℕ) → IsRoot store paths edl g → store script ≡ Some text
      → HasNoScript racing g text line code → Prepares racing store paths edl script (Err (Script line code))
  machine : (g : Gathered) (text : List ℕ) (m : Machine) → IsRoot store paths edl g → store script ≡ Some text
      → IsMachineOf racing g text m → Prepares racing store paths edl script (Ok m)

-- where the contents are told, they give this machine or this fault
abbrev pub FilesGive : Bool → FilesState → List (List ℕ) → List ℕ → List ℕ → Result Machine PrepareFault → Type 0
FilesGive racing files paths edl script answer =
    IfSome files.contents (λ store. Prepares racing store paths edl script answer)

-- the script is come to, where the EDL file and its imports are gathered
abbrev pub IsScript : FilesState → List (List ℕ) → List ℕ → List ℕ → List ℕ → Type 0
IsScript files paths edl script name = (name ≡ script) × (g : Gathered) × GivesRoot files paths edl g

-- layouts or rules refuse the gathered files, with the script's foreign types, and the name is that of the file in which
-- the fault stands
pub record IsRefusedUnder (files : FilesState) (paths : List (List ℕ)) (edl script name : List ℕ) (fault : Fault)
    : Type 0 where
  pub gathered : Gathered
  pub root : GivesRoot files paths edl gathered
  pub text : List ℕ
  pub held : Holds files script (Some text)
  pub refused : HasNoInterface gathered text fault
  pub named : name ≡ name_at gathered.files fault.file

-- a fault at a place has the name of a file that the gathering came to, or it is one of layouts or rules
abbrev pub IsFileOf : FilesState → List (List ℕ) → List ℕ → List ℕ → List ℕ → Fault → Type 0
IsFileOf files paths edl script name fault =
    IsComeTo files.contents paths edl name ⊎ IsRefusedUnder files paths edl script name fault

-- Why there is no machine, where the files were so before and are so after. A missing file is one that was asked for,
-- or the text of an import that has no candidate; it is the EDL file, the script, or the text of an import that was
-- come to. A file that was not read is one that was come to.
abbrev pub IsUnprepared : Bool → List (List ℕ) → List ℕ → List ℕ → FilesState → FilesState → PrepareFault → Type 0
IsUnprepared racing paths edl script before after (Edl name fault) =
    IsFileOf before paths edl script name fault × FilesGive racing before paths edl script (Err (Edl name fault))
IsUnprepared racing paths edl script before after (Script line code) =
    FilesGive racing before paths edl script (Err (Script line code))
IsUnprepared racing paths edl script before after (NotFound name) =
    (Missed before after ⊎ (candidates paths name ≡ []))
    × (IsWanted before.contents paths edl name ⊎ IsScript before paths edl script name)
    × FilesGive racing before paths edl script (Err (NotFound name))
IsUnprepared racing paths edl script before after (ReadFault name) =
    ReadFailed before after
    × (IsComeTo before.contents paths edl name ⊎ IsScript before paths edl script name)
IsUnprepared racing paths edl script before after _ = ⊥

-- why a file of this name is not read
abbrev pub IsUnread : List ℕ → FilesState → FilesState → PrepareFault → Type 0
IsUnread name before after (NotFound other) = (other ≡ name) × Missed before after × Holds before name None
IsUnread name before after (ReadFault other) = (other ≡ name) × ReadFailed before after
IsUnread name before after _ = ⊥
