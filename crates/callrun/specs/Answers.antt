-- What the statuses of the program mean.
use Rattle.std.specs.Prelude.{ℕ, ◌≡◌, ◌⊎◌, false, List, Some, Ok, Err}
use Rattle.sgx_base.specs.Lines.{edl_line, script_line, unread_line, missing_line}
use Rattle.sgx_base.specs.Sinks.{SinkState, SinkFailed, Wrote, WrotePart}
use Rattle.sgx_base.specs.Stores.{Store, FilesState, ReadFailed}
use Rattle.sgx_base.specs.declared.Fault.{Fault}
use Rattle.word_port.specs.declared.RunFull.{RunFull}
use Rattle.call_machine.specs.declared.Machine.{Machine}
use Rattle.call_machine.specs.Reported.{IsCutBy}
use Rattle.call_engine.specs.declared.faults.PrepareFault.{PrepareFault}
use Rattle.call_engine.specs.Prepared.{Prepares}
use Rattle.sample_script.specs.Sample.{sample}
use Rattle.callrun.specs.declared.Ending.{Ending}
use Rattle.callrun.specs.declared.Ending.TheVariants.{Usage, Edl, Script, Unread, Missing, Done, Cut}
use Rattle.callrun.specs.Samples.{texts}
use Rattle.callrun.specs.Endings.{Names, Run, Sample, task_of, sample_names, Ends, text_of, usage_line, full_line}

-- the call came to an ending, with its cause, and of the text of it a part was written
pub record IsBroken (words : List (List ℕ)) (before after : FilesState) (old new : SinkState) : Type 0 where
  pub ending : Ending
  pub cause : Ends words before after ending
  pub part : WrotePart (text_of ending) old new

-- what each status tells of the words, of the files before and after the call, and of the sink before and after it
pub data Answers (words : List (List ℕ)) (before after : FilesState) (old new : SinkState) : ℕ → Type 0 where
  done : (text : List ℕ) → Ends words before after (Done text) → Wrote text old new
      → Answers words before after old new 0
  usage : Ends words before after Usage → Wrote usage_line old new → Answers words before after old new 1
  edl_fault : (name : List ℕ) (fault : Fault) → Ends words before after (Edl name fault)
      → Wrote (edl_line name fault) old new → Answers words before after old new 2
  script_fault : (name : List ℕ) (line code : ℕ) → Ends words before after (Script name line code)
      → Wrote (script_line name line code) old new → Answers words before after old new 3
  unread : (name : List ℕ) → Ends words before after (Unread name) → Wrote (unread_line name) old new
      → Answers words before after old new 4
  refused : IsBroken words before after old new → SinkFailed old new → Answers words before after old new 5
  out_of_memory : (new ≡ old) ⊎ IsBroken words before after old new → Answers words before after old new 6
  missing : (name : List ℕ) → Ends words before after (Missing name) → Wrote (missing_line name) old new
      → Answers words before after old new 7
  full : (limit : RunFull) → Ends words before after (Cut limit) → Wrote full_line old new
      → Answers words before after old new 8

-- what a store has under these names has no fault, and gives a machine whose run no limit cuts
pub record RunsThrough (store : Store) (n : Names) : Type 0 where
  pub faultless : (fault : PrepareFault) → ¬ Prepares false store n.paths n.edl n.script (Err fault)
  pub uncut : (m : Machine) (limit : RunFull) → Prepares false store n.paths n.edl n.script (Ok m) → ¬ IsCutBy m limit

-- the words ask for the run of files that are told and run through, or for a sample that does
pub data IsRunnable (words : List (List ℕ)) (files : FilesState) : Type 0 where
  by_files : (n : Names) (store : Store) → task_of words ≡ Run n → files.contents ≡ Some store → RunsThrough store n
      → IsRunnable words files
  by_sample : (calls : ℕ) → task_of words ≡ Sample calls → RunsThrough (texts (sample calls)) sample_names
      → IsRunnable words files

-- what a store has under these names has no fault, and gives a machine whose run a limit cuts
pub record IsTooLong (store : Store) (n : Names) : Type 0 where
  pub faultless : (fault : PrepareFault) → ¬ Prepares false store n.paths n.edl n.script (Err fault)
  pub cut : (m : Machine) → Prepares false store n.paths n.edl n.script (Ok m) → (limit : RunFull) × IsCutBy m limit

-- the words ask for the run of files that are told and need more than a limit, or for a sample that does
pub data IsOverLimit (words : List (List ℕ)) (files : FilesState) : Type 0 where
  long_files : (n : Names) (store : Store) → task_of words ≡ Run n → files.contents ≡ Some store → IsTooLong store n
      → IsOverLimit words files
  long_sample : (calls : ℕ) → task_of words ≡ Sample calls → IsTooLong (texts (sample calls)) sample_names
      → IsOverLimit words files

-- no read failed, and the sink took what was written
pub record NothingFailed (before after : FilesState) (old new : SinkState) : Type 0 where
  pub read : ¬ ReadFailed before after
  pub taken : ¬ SinkFailed old new
