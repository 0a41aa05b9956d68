-- How a call of the program ends, why, and what it writes then.
use Rattle.std.specs.Prelude.{ℕ, ◌≡◌, Bool, false, ◌||◌, if◌then◌else◌, List, [], ◌∷◌, codes, nat_eq, nat_le, ◌&&◌}
use Rattle.std.specs.Prelude.{Option, Some, None, Ok}
use Rattle.std.specs.List.{starts_with}
use Rattle.std.specs.Str.{bytes_eq}
use Rattle.sgx_base.specs.Numbers.{spelled_number}
use Rattle.sgx_base.specs.Lines.{edl_line, script_line, unread_line, missing_line}
use Rattle.sgx_base.specs.Stores.{FilesState}
use Rattle.word_port.specs.declared.RunFull.{RunFull}
use Rattle.call_machine.specs.declared.Machine.{Machine}
use Rattle.call_machine.specs.Reported.{IsCutBy}
use Rattle.call_engine.specs.declared.faults.PrepareFault.TheVariants as cause
use Rattle.call_engine.specs.Prepared.{FilesGive, IsUnprepared}
use Rattle.command_line.specs.SearchPath.{directories}
use Rattle.callrun.specs.Samples.{edl_name, script_name, sample_files}
use Rattle.callrun.specs.Told.{Telling, IsTold, report, summary}
use Rattle.callrun.specs.declared.Ending.{Ending}
use Rattle.callrun.specs.declared.Ending.TheVariants.{Usage, Edl, Script, Unread, Missing, Done, Cut}

-- ---- the words

-- what words name: the directories in which imported files are looked for, an EDL file and a script
pub record Names : Type 0 where
  pub paths : List (List ℕ)
  pub edl : List ℕ
  pub script : List ℕ

-- what words ask for: nothing that the program does, the run of the files of these names, a sample of so many calls
pub data Task : Type 0 where
  Nothing : Task
  Run : Names → Task
  Sample : ℕ → Task

-- whether a word is an option
abbrev pub is_option : List ℕ → Bool
is_option word = starts_with nat_eq word (codes "--")

-- a file's name is no option
abbrev pub named : List (List ℕ) → List ℕ → List ℕ → Task
named paths edl script =
    if is_option edl || is_option script then Nothing else Run (record { paths = paths; edl = edl; script = script })

-- a sample has from 1 to 8000 calls
abbrev pub counted : Option ℕ → Task
counted None = Nothing
counted (Some calls) = if nat_le 1 calls && nat_le calls 8000 then Sample calls else Nothing

-- two words: an EDL file and a script, or `--sample` and a number
abbrev pub task_of_two : List ℕ → List ℕ → Task
task_of_two first second =
    if bytes_eq first (codes "--sample") then counted (spelled_number second) else named [] first second

-- what words ask for: two, or a search path before an EDL file and a script
abbrev pub task_of : List (List ℕ) → Task
task_of (first ∷ second ∷ []) = task_of_two first second
task_of (option ∷ path ∷ edl ∷ script ∷ []) =
    if bytes_eq option (codes "--search-path") then named (directories path) edl script else Nothing
task_of words = Nothing

-- ---- the causes

-- the files of these names give a machine, and the text tells of its one run, which is protected
pub record IsDone (telling : Telling) (files : FilesState) (n : Names) (text : List ℕ) : Type 0 where
  pub machine : Machine
  pub gives : FilesGive false files n.paths n.edl n.script (Ok machine)
  pub told : IsTold telling machine text

-- the files of these names give a machine, and the limit cuts its run
pub record IsCut (files : FilesState) (n : Names) (limit : RunFull) : Type 0 where
  pub machine : Machine
  pub gives : FilesGive false files n.paths n.edl n.script (Ok machine)
  pub cut : IsCutBy machine limit

-- why a call with these names ends so, where the files were so before and are so after, and a run that is done is told so
abbrev pub HasCause : Telling → Names → FilesState → FilesState → Ending → Type 0
HasCause telling n before after Usage = ⊥
HasCause telling n before after (Edl name fault) =
    IsUnprepared false n.paths n.edl n.script before after (cause.Edl name fault)
HasCause telling n before after (Script name line code) =
    (name ≡ n.script) × IsUnprepared false n.paths n.edl n.script before after (cause.Script line code)
HasCause telling n before after (Unread name) =
    IsUnprepared false n.paths n.edl n.script before after (cause.ReadFault name)
HasCause telling n before after (Missing name) =
    IsUnprepared false n.paths n.edl n.script before after (cause.NotFound name)
HasCause telling n before after (Done text) = IsDone telling before n text
HasCause telling n before after (Cut limit) = IsCut before n limit

-- the names of a sample's texts
abbrev pub sample_names : Names
sample_names = record { paths = []; edl = edl_name; script = script_name }

-- why a sample of so many calls ends so: as its texts would under their names, of which no read fails, but that the
-- summary is told in place of the report
pub record HasSampleCause (calls : ℕ) (ending : Ending) : Type 0 where
  pub after : FilesState
  pub unfailing : after.read_faults ≡ 0
  pub cause : HasCause summary sample_names (sample_files calls) after ending

-- why a call ends so that is to do this; a sample touches no file
abbrev pub EndsBy : Task → FilesState → FilesState → Ending → Type 0
EndsBy Nothing before after ending = ending ≡ Usage
EndsBy (Run n) before after ending = HasCause report n before after ending
EndsBy (Sample calls) before after ending = (after ≡ before) × HasSampleCause calls ending

-- why a call with these words ends so
abbrev pub Ends : List (List ℕ) → FilesState → FilesState → Ending → Type 0
Ends words before after ending = EndsBy (task_of words) before after ending

-- ---- what is written

-- the status of an ending
abbrev pub status_of : Ending → ℕ
status_of (Done text) = 0
status_of Usage = 1
status_of (Edl name fault) = 2
status_of (Script name line code) = 3
status_of (Unread name) = 4
status_of (Missing name) = 7
status_of (Cut limit) = 8

-- the line of words that ask for nothing
abbrev pub usage_line : List ℕ
usage_line = codes "usage: sgx_callrun [--search-path P] FILE SCRIPT | --sample N\n"

-- the line of a run that a limit cuts
abbrev pub full_line : List ℕ
full_line = codes "full: thread 0\n"

-- what is to be written at an ending: what is told of the run, or a line
abbrev pub text_of : Ending → List ℕ
text_of (Done text) = text
text_of Usage = usage_line
text_of (Edl name fault) = edl_line name fault
text_of (Script name line code) = script_line name line code
text_of (Unread name) = unread_line name
text_of (Missing name) = missing_line name
text_of (Cut limit) = full_line
