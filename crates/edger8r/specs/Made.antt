-- What the tool makes of EDL files, one after another: the stub files of each.
use Rattle.std.specs.Prelude.{ℕ, ◌≡◌, true, false, List, [], ◌∷◌, map, Result, Ok, Err}
use Rattle.sgx_base.specs.Outcome.{OrMemory}
use Rattle.sgx_base.specs.Stores.{FilesState, AreOnlyRead, AreBoth, IsWritten, IsOnlyWritten, IsWriteOf}
use Rattle.sgx_base.specs.declared.Fault.{Fault}
use Rattle.sgx_base.specs.declared.files.FileFault.{FileFault}
use Rattle.sgx_base.specs.declared.files.FileFault.TheVariants as write
use Rattle.edl_grammar.specs.declared.Gathered.{Gathered}
use Rattle.edl_imports.specs.Gathering.{name_at}
use Rattle.edl_interface.specs.declared.Interface.{Interface}
use Rattle.edl_layout.specs.declared.ForeignTypes.{ForeignTypes}
use Rattle.edl_reader.specs.declared.faults.SourceFault.{SourceFault}
use Rattle.edl_reader.specs.declared.faults.SourceFault.TheVariants as source
use Rattle.edl_reader.specs.Accepted.{IsAccepted, IsRefused}
use Rattle.edl_reader.specs.Sources.{GivesRoot, IsUngathered}
use Rattle.stub_printer.specs.declared.Options.{Options}
use Rattle.stub_printer.specs.Stubs.{stub_text}
use Rattle.tool_words.specs.declared.Choices.{Choices}
use Rattle.stub_files.specs.declared.StubFile.{StubFile}
use Rattle.stub_files.specs.StubFiles.{stem, stub_files}
use Rattle.edger8r.specs.declared.ending.Ending.{Ending}
use Rattle.edger8r.specs.declared.ending.Ending.TheVariants.{Made, Edl, Unread, Missing, Unwritten, Memory}

-- ---- the texts

-- a type that no file declares is one of C, of unknown size
abbrev pub lenient_types : ForeignTypes
lenient_types = record { types = []; lenient = true }

-- a file's name, and the text that is to stand in it
pub record Stub : Type 0 where
  pub name : List ℕ
  pub text : List ℕ

-- the stub of an interface with these options
abbrev pub stub_of : Gathered → Interface → Options → StubFile → Stub
stub_of g i options file = record { name = file.name; text = stub_text g i options file.which }

abbrev pub options_of : Choices → List ℕ → Options
options_of c file = record { name = stem file; prefix = c.use_prefix }

-- the stubs of the interface of the EDL file of this name, in the order in which they are written
abbrev pub stubs_of : Choices → List ℕ → Gathered → Interface → List Stub
stubs_of c file g i = map (stub_of g i (options_of c file)) (stub_files c file)

-- ---- the writing

-- Stubs are written in order, each whole and at once, until a write is refused or memory runs out. Of the file of a
-- refused write nothing is told.
pub data Writes : List Stub → FilesState → FilesState → Result (Unit {0}) FileFault → Type 0 where
  all_written : (files : FilesState) → Writes [] files files (Ok tt)
  write_next : (stub : Stub) (stubs : List Stub) (before middle after : FilesState) (result : Result (Unit {0}) FileFault)
      → IsOnlyWritten stub.name before middle → AreBoth (IsWritten stub.name stub.text) before middle
      → middle.write_faults ≡ before.write_faults → Writes stubs middle after result → Writes (stub ∷ stubs) before after result
  refused : (stub : Stub) (stubs : List Stub) (before after : FilesState) (fault : FileFault)
      → IsOnlyWritten stub.name before after → IsWriteOf stub.name stub.text (Err fault) before after
      → Writes (stub ∷ stubs) before after (Err fault)
  out_of_memory : (stubs : List Stub) (files : FilesState) → Writes stubs files files (Err write.Memory)

-- how the call ends where no interface is given
abbrev pub of_source : SourceFault → Ending
of_source (source.Edl name fault) = Edl name fault
of_source (source.NotFound name) = Missing name
of_source (source.ReadFault name) = Unread name
of_source source.Memory = Memory

-- how it ends where a stub was not written
abbrev pub of_write : Result (Unit {0}) FileFault → Result (Unit {0}) Ending
of_write (Ok done) = Ok done
of_write (Err write.Failed) = Err Unwritten
of_write (Err write.Memory) = Err Memory

-- ---- an EDL file

-- what is made of files that were gathered: nothing, where they are at fault or memory runs out, or the stubs of their
-- interface
pub data MakesOf (c : Choices) (file : List ℕ) (g : Gathered) (before : FilesState)
    : FilesState → Result (Unit {0}) Ending → Type 0 where
  at_fault : (f : Fault) → IsRefused g lenient_types false f → MakesOf c file g before before (Err (Edl (name_at g.files f.file) f))
  no_memory : MakesOf c file g before before (Err Memory)
  accepted : (i : Interface) (after : FilesState) (result : Result (Unit {0}) FileFault) → IsAccepted g lenient_types false i
      → Writes (stubs_of c file g i) before after result → MakesOf c file g before after (of_write result)

-- what is made of the EDL file of a name: it and all that it imports are read first, by the search path
pub data MakesFile (c : Choices) (file : List ℕ) (before after : FilesState) : Result (Unit {0}) Ending → Type 0 where
  ungathered : (fault : SourceFault) → AreOnlyRead before after
      → OrMemory source.Memory (IsUngathered c.search_path file before after) fault
      → MakesFile c file before after (Err (of_source fault))
  gathered : (g : Gathered) (read : FilesState) (result : Result (Unit {0}) Ending) → AreOnlyRead before read
      → GivesRoot before c.search_path file g → MakesOf c file g read after result → MakesFile c file before after result

-- ---- all of them

-- Of each EDL file in order its stubs are made, from the files as those before it left them. The first that is not
-- made ends the call.
pub data MakesAll (c : Choices) : List (List ℕ) → FilesState → FilesState → Ending → Type 0 where
  all_made : (files : FilesState) → MakesAll c [] files files Made
  make_next : (file : List ℕ) (rest : List (List ℕ)) (before middle after : FilesState) (ending : Ending)
      → MakesFile c file before middle (Ok tt) → MakesAll c rest middle after ending
      → MakesAll c (file ∷ rest) before after ending
  stopped : (file : List ℕ) (rest : List (List ℕ)) (before after : FilesState) (ending : Ending)
      → MakesFile c file before after (Err ending) → MakesAll c (file ∷ rest) before after ending
