-- What the statuses of the tool mean.
use Rattle.std.specs.Prelude.{ℕ, ◌≡◌, ◌⊎◌, false, List, [], ◌∷◌, Some, Contains}
use Rattle.sgx_base.specs.Lines.{edl_line, unread_line, missing_line}
use Rattle.sgx_base.specs.Sinks.{SinkState, SinkFailed, Wrote, WrotePart}
use Rattle.sgx_base.specs.Stores.{Store, FilesState, ReadFailed, WriteFailed, IsWritten, AreBoth}
use Rattle.sgx_base.specs.declared.Fault.{Fault}
use Rattle.edl_grammar.specs.declared.Gathered.{Gathered}
use Rattle.edl_interface.specs.declared.Interface.{Interface}
use Rattle.edl_reader.specs.Accepted.{IsAccepted, IsRefused}
use Rattle.edl_reader.specs.Sources.{IsRoot}
use Rattle.tool_words.specs.declared.Choices.{Choices}
use Rattle.tool_words.specs.declared.Request.TheVariants as request
use Rattle.tool_words.specs.Words.{request_of}
use Rattle.stub_files.specs.declared.StubFile.{StubFile}
use Rattle.stub_files.specs.StubFiles.{stub_files}
use Rattle.edger8r.specs.declared.ending.Ending.{Ending}
use Rattle.edger8r.specs.declared.ending.Ending.TheVariants.{Usage, Help, Made, Edl, Unread, Missing, Unwritten}
use Rattle.edger8r.specs.Made.{Stub, stubs_of, lenient_types}
use Rattle.edger8r.specs.Endings.{Ends, text_of, usage_line}

-- the call came to an ending, with its cause, and of the text of it a part was written
pub record IsBroken (words : List (List ℕ)) (before after : FilesState) (old new : SinkState) : Type 0 where
  pub ending : Ending
  pub cause : Ends words before after ending
  pub part : WrotePart (text_of ending) old new

-- the call came to an ending, with its cause, and nothing was written
pub record IsSilent (words : List (List ℕ)) (before after : FilesState) (old new : SinkState) : Type 0 where
  pub ending : Ending
  pub cause : Ends words before after ending
  pub same : new ≡ old

-- what each status tells of the words, of the files before and after the call, and of the sink before and after it
pub data Answers (words : List (List ℕ)) (before after : FilesState) (old new : SinkState) : ℕ → Type 0 where
  made : Ends words before after Made → new ≡ old → Answers words before after old new 0
  helped : Ends words before after Help → Wrote usage_line old new → Answers words before after old new 0
  usage : Ends words before after Usage → Wrote usage_line old new → Answers words before after old new 1
  edl_fault : (name : List ℕ) (fault : Fault) → Ends words before after (Edl name fault)
      → Wrote (edl_line name fault) old new → Answers words before after old new 2
  unread : (name : List ℕ) → Ends words before after (Unread name) → Wrote (unread_line name) old new
      → Answers words before after old new 4
  unwritten : Ends words before after Unwritten → new ≡ old → Answers words before after old new 5
  sink_refused : IsBroken words before after old new → SinkFailed old new → Answers words before after old new 5
  out_of_memory : IsSilent words before after old new ⊎ IsBroken words before after old new
      → Answers words before after old new 6
  missing : (name : List ℕ) → Ends words before after (Missing name) → Wrote (missing_line name) old new
      → Answers words before after old new 7

-- ---- the files that are written

-- the words choose the file of this name: it is a stub of an EDL file that they name
pub record IsChosen (words : List (List ℕ)) (name : List ℕ) : Type 0 where
  pub choices : Choices
  pub asked : request_of words ≡ Some (request.Stubs choices)
  pub file : List ℕ
  pub of_file : Contains choices.files file
  pub stub : StubFile
  pub of_stub : Contains (stub_files choices file) stub
  pub named : stub.name ≡ name

-- every file that the words do not choose stays
abbrev pub AreOthersAsBefore : List (List ℕ) → FilesState → FilesState → Type 0
AreOthersAsBefore words before after =
    (name : List ℕ) → (IsChosen words name → ⊥) → AreBoth (λ old new. new name ≡ old name) before after

-- ---- where all is well

-- the stubs are written into a store, one after another
abbrev pub AreStored : List Stub → Store → Store → Type 0
AreStored [] before after = after ≡ before
AreStored (stub ∷ stubs) before after =
    (middle : Store) × IsWritten stub.name stub.text before middle × AreStored stubs middle after

-- each EDL file and its imports stand in the store without a fault, as the stubs of those before it leave it
abbrev pub AreFaultless : Choices → List (List ℕ) → Store → Type 0
AreFaultless c [] store = Unit {0}
AreFaultless c (file ∷ files) store =
    (g : Gathered) × IsRoot store c.search_path file g × ((f : Fault) → ¬ IsRefused g lenient_types false f)
    × ((i : Interface) (later : Store) → IsAccepted g lenient_types false i → AreStored (stubs_of c file g i) store later
    → AreFaultless c files later)

-- the words ask for help, or for stubs of files that are told and have no fault
pub data IsMakeable (words : List (List ℕ)) (files : FilesState) : Type 0 where
  asks_help : request_of words ≡ Some request.Help → IsMakeable words files
  asks_stubs : (c : Choices) (store : Store) → request_of words ≡ Some (request.Stubs c) → files.contents ≡ Some store
      → AreFaultless c c.files store → IsMakeable words files

-- no read and no write failed, and the sink took what was written
pub record NothingFailed (before after : FilesState) (old new : SinkState) : Type 0 where
  pub read : ¬ ReadFailed before after
  pub written : ¬ WriteFailed before after
  pub taken : ¬ SinkFailed old new
