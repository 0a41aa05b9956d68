-- How a call ends, what it answers then, and where nothing fails.
use Rattle.std.proofs.Common.{ℕ, ◌≡◌, inl, inr, List, [], ◌∷◌, length, Option, Some, Result, Ok, Err, IfOk, IfSome, OnOk, OnErr, refl, sym, ◌∙◌, ap, subst, get_or, arith, ◌≤◌, ◌<◌, Bool, true, false}
use Rattle.std.specs.Prelude.{if◌then◌else◌, codes}
use Rattle.std.specs.Str.{bytes_eq}
use Rattle.sgx_base.specs.Outcome.{OrMemory}
use Rattle.sgx_base.specs.Sinks.{SinkState, SinkFailed, Wrote, WrotePart}
use Rattle.sgx_base.specs.Stores.{Store, FilesState, ReadFailed}
use Rattle.sgx_base.specs.declared.sink.SinkFault.{SinkFault}
use Rattle.sgx_base.specs.declared.sink.SinkFault.TheVariants.{Failed, Memory}
use Rattle.std.specs.declared.alloc.AllocError.{AllocError}
use Rattle.call_machine.specs.declared.Machine.{Machine}
use Rattle.call_engine.specs.declared.faults.PrepareFault.{PrepareFault}
use Rattle.call_engine.specs.declared.faults.PrepareFault.TheVariants.{Edl as of_edl, Script as of_script, NotFound}
use Rattle.call_engine.specs.Prepared.{FilesGive, Prepares}
use Rattle.run_laws.proofs.WholeOrCut.{whole_or_cut}
use Rattle.callrun.specs.declared.Ending.{Ending}
use Rattle.callrun.specs.declared.Ending.TheVariants.{Usage, Edl, Script, Unread, Missing, Done, Cut}
use Rattle.command_line.specs.SearchPath.{directories}
use Rattle.callrun.specs.Endings.{Names, Task, Nothing, named, task_of, sample_names, HasCause, HasSampleCause, EndsBy, Ends, status_of, text_of}
use Rattle.callrun.specs.Samples.{texts, sample_files}
use Rattle.callrun.specs.Told.{Telling, report, summary}
use Rattle.sample_script.specs.Sample.{sample}
use Rattle.callrun.specs.Answers.{Answers, done, usage, edl_fault, script_fault, unread, refused, out_of_memory, missing, full, RunsThrough, IsRunnable, by_files, by_sample, IsTooLong, IsOverLimit, long_files, long_sample, NothingFailed}

-- ---- the answer where an ending's text was written, or a part of it

written : (words : List (List ℕ)) (before after : FilesState) (old new : SinkState) (ending : Ending) → Ends words before after ending → Wrote (text_of ending) old new
    → Answers words before after old new (status_of ending)
written words before after old new (Done text) e w = done text e w
written words before after old new Usage e w = usage e w
written words before after old new (Edl name fault) e w = edl_fault name fault e w
written words before after old new (Script name line code) e w = script_fault name line code e w
written words before after old new (Unread name) e w = unread name e w
written words before after old new (Missing name) e w = missing name e w
written words before after old new (Cut limit) e w = full limit e w

pub answered : (words : List (List ℕ)) (before after : FilesState) (old new : SinkState) (ending : Ending) (text : List ℕ) (taken : Result (Unit {0}) SinkFault) (status result : ℕ)
    → Ends words before after ending → text ≡ text_of ending → status ≡ status_of ending
    → OnOk taken (Wrote text old new) → OnErr taken (WrotePart text old new) → (taken ≡ Err Failed → SinkFailed old new)
    → OnOk taken (result ≡ status) → (taken ≡ Err Failed → result ≡ 5) → (taken ≡ Err Memory → result ≡ 6)
    → Answers words before after old new result
answered words before after old new ending text (Ok u) status result e t s whole part failed is refusal memory =
    subst (Answers words before after old new) (sym (is ∙ s)) (written words before after old new ending e (subst (λ (x : List ℕ). Wrote x old new) t whole))
answered words before after old new ending text (Err Failed) status result e t s whole part failed is refusal memory =
    subst (Answers words before after old new) (sym (refusal refl))
    (refused (record { ending = ending; cause = e; part = subst (λ (x : List ℕ). WrotePart x old new) t part }) (failed refl))
answered words before after old new ending text (Err Memory) status result e t s whole part failed is refusal memory =
    subst (Answers words before after old new) (sym (memory refl))
    (out_of_memory (inr (record { ending = ending; cause = e; part = subst (λ (x : List ℕ). WrotePart x old new) t part })))

-- ---- where nothing fails

module _ (store : Store) (n : Names) (r : RunsThrough store n) (before after : FilesState) (told : before.contents ≡ Some store) where
  decided : (answer : Result Machine PrepareFault) → FilesGive false before n.paths n.edl n.script answer → Prepares false store n.paths n.edl n.script answer
  decided answer gives = subst (λ (contents : Option Store). IfSome contents (λ s. Prepares false s n.paths n.edl n.script answer)) told gives

  -- the files have no such fault
  no_fault : (fault : PrepareFault) → FilesGive false before n.paths n.edl n.script (Err fault) → ⊥
  no_fault fault gives = r.faultless fault (decided (Err fault) gives)

  done_by_files : (telling : Telling) (ending : Ending) → ¬ ReadFailed before after → HasCause telling n before after ending → status_of ending ≡ 0
  done_by_files telling Usage read h = absurd h
  done_by_files telling (Edl name fault) read h = absurd (no_fault (of_edl name fault) h.1)
  done_by_files telling (Script name line code) read h = absurd (no_fault (of_script line code) h.1)
  done_by_files telling (Unread name) read h = absurd (read h.0)
  done_by_files telling (Missing name) read h = absurd (no_fault (NotFound name) h.2)
  done_by_files telling (Done text) read h = refl
  done_by_files telling (Cut limit) read h = absurd (r.uncut h.machine limit (decided (Ok h.machine) h.gives) h.cut)

-- no read of a sample's texts fails
unfailing : (calls : ℕ) (after : FilesState) → after.read_faults ≡ 0 → ReadFailed (sample_files calls) after → ⊥
unfailing calls after none (inl more) = omega (arith, none, more)
unfailing calls after none (inr most) = omega (arith, none, most)

sample_done : (calls : ℕ) (ending : Ending) → RunsThrough (texts (sample calls)) sample_names → HasSampleCause calls ending → status_of ending ≡ 0
sample_done calls ending r h =
    done_by_files (texts (sample calls)) sample_names r (sample_files calls) h.after refl summary ending (unfailing calls h.after h.unfailing) h.cause

-- by the words
all_done : (words : List (List ℕ)) (before after : FilesState) (old new : SinkState) (ending : Ending) → IsRunnable words before → NothingFailed before after old new → Ends words before after ending
    → status_of ending ≡ 0
all_done words before after old new ending (by_files n store task told r) nothing e =
    done_by_files store n r before after told report ending nothing.read (subst (λ (t : Task). EndsBy t before after ending) task e)
all_done words before after old new ending (by_sample calls task r) nothing e =
    let same : (after ≡ before) × HasSampleCause calls ending = subst (λ (t : Task). EndsBy t before after ending) task e in
    sample_done calls ending r same.1

-- the answer is what is told of the run then, unless memory ran out
pub complete : (words : List (List ℕ)) (before after : FilesState) (old new : SinkState) (status : ℕ) → Answers words before after old new status → IsRunnable words before → NothingFailed before after old new
    → OrMemory 6 (λ s. s ≡ 0) status
complete words before after old new status (done text e w) r n = inr refl
complete words before after old new status (usage e w) r n = inr (all_done words before after old new Usage r n e)
complete words before after old new status (edl_fault name fault e w) r n = inr (all_done words before after old new (Edl name fault) r n e)
complete words before after old new status (script_fault name line code e w) r n = inr (all_done words before after old new (Script name line code) r n e)
complete words before after old new status (unread name e w) r n = inr (all_done words before after old new (Unread name) r n e)
complete words before after old new status (refused part failed) r n = absurd (n.taken failed)
complete words before after old new status (out_of_memory part) r n = inl refl
complete words before after old new status (missing name e w) r n = inr (all_done words before after old new (Missing name) r n e)
complete words before after old new status (full limit e w) r n = inr (all_done words before after old new (Cut limit) r n e)

-- ---- where a limit cuts the run

module _ (store : Store) (n : Names) (r : IsTooLong store n) (before after : FilesState) (told : before.contents ≡ Some store) where
  given : (answer : Result Machine PrepareFault) → FilesGive false before n.paths n.edl n.script answer → Prepares false store n.paths n.edl n.script answer
  given answer gives = subst (λ (contents : Option Store). IfSome contents (λ s. Prepares false s n.paths n.edl n.script answer)) told gives

  never : (fault : PrepareFault) → FilesGive false before n.paths n.edl n.script (Err fault) → ⊥
  never fault gives = r.faultless fault (given (Err fault) gives)

  cut_by_files : (telling : Telling) (ending : Ending) → ¬ ReadFailed before after → HasCause telling n before after ending → status_of ending ≡ 8
  cut_by_files telling Usage read h = absurd h
  cut_by_files telling (Edl name fault) read h = absurd (never (of_edl name fault) h.1)
  cut_by_files telling (Script name line code) read h = absurd (never (of_script line code) h.1)
  cut_by_files telling (Unread name) read h = absurd (read h.0)
  cut_by_files telling (Missing name) read h = absurd (never (NotFound name) h.2)
  cut_by_files telling (Done text) read h =
      let cut = r.cut h.machine (given (Ok h.machine) h.gives) in
      absurd (whole_or_cut h.machine h.told.reported cut.0 h.told.run cut.1)
  cut_by_files telling (Cut limit) read h = refl

sample_cut : (calls : ℕ) (ending : Ending) → IsTooLong (texts (sample calls)) sample_names → HasSampleCause calls ending → status_of ending ≡ 8
sample_cut calls ending r h =
    cut_by_files (texts (sample calls)) sample_names r (sample_files calls) h.after refl summary ending (unfailing calls h.after h.unfailing) h.cause

all_cut : (words : List (List ℕ)) (before after : FilesState) (old new : SinkState) (ending : Ending) → IsOverLimit words before → NothingFailed before after old new → Ends words before after ending
    → status_of ending ≡ 8
all_cut words before after old new ending (long_files n store task told r) nothing e =
    cut_by_files store n r before after told report ending nothing.read (subst (λ (t : Task). EndsBy t before after ending) task e)
all_cut words before after old new ending (long_sample calls task r) nothing e =
    let same : (after ≡ before) × HasSampleCause calls ending = subst (λ (t : Task). EndsBy t before after ending) task e in
    sample_cut calls ending r same.1

-- the answer is that a limit cuts the run, unless memory ran out
pub over_limit : (words : List (List ℕ)) (before after : FilesState) (old new : SinkState) (status : ℕ) → Answers words before after old new status → IsOverLimit words before → NothingFailed before after old new
    → OrMemory 6 (λ s. s ≡ 8) status
over_limit words before after old new status (done text e w) r n = inr (all_cut words before after old new (Done text) r n e)
over_limit words before after old new status (usage e w) r n = inr (all_cut words before after old new Usage r n e)
over_limit words before after old new status (edl_fault name fault e w) r n = inr (all_cut words before after old new (Edl name fault) r n e)
over_limit words before after old new status (script_fault name line code e w) r n = inr (all_cut words before after old new (Script name line code) r n e)
over_limit words before after old new status (unread name e w) r n = inr (all_cut words before after old new (Unread name) r n e)
over_limit words before after old new status (refused part failed) r n = absurd (n.taken failed)
over_limit words before after old new status (out_of_memory part) r n = inl refl
over_limit words before after old new status (missing name e w) r n = inr (all_cut words before after old new (Missing name) r n e)
over_limit words before after old new status (full limit e w) r n = inr refl

-- ---- words at their places

pub two_words : (words : List (List ℕ)) (a b : List ℕ) → a ≡ get_or words 0 a → b ≡ get_or words 1 b → 2 ≤ length words → length words < 3 → words ≡ a ∷ b ∷ []
two_words [] a b p q least most = absurd (omega arith)
two_words (x ∷ []) a b p q least most = absurd (omega arith)
two_words (x ∷ y ∷ []) a b p q least most =
    let one : a ≡ x = p in let two : b ≡ y = q in ap (λ (t : List ℕ). t ∷ y ∷ []) (sym one) ∙ ap (λ (t : List ℕ). a ∷ t ∷ []) (sym two)
two_words (x ∷ y ∷ z ∷ rest) a b p q least most = absurd (omega arith)

pub four_words : (words : List (List ℕ)) (a b c d : List ℕ) → a ≡ get_or words 0 a → b ≡ get_or words 1 b → c ≡ get_or words 2 c → d ≡ get_or words 3 d
    → 4 ≤ length words → length words < 5 → words ≡ a ∷ b ∷ c ∷ d ∷ []
four_words [] a b c d p q r s least most = absurd (omega arith)
four_words (w ∷ []) a b c d p q r s least most = absurd (omega arith)
four_words (w ∷ x ∷ []) a b c d p q r s least most = absurd (omega arith)
four_words (w ∷ x ∷ y ∷ []) a b c d p q r s least most = absurd (omega arith)
four_words (w ∷ x ∷ y ∷ z ∷ []) a b c d p q r s least most =
    let one : a ≡ w = p in let two : b ≡ x = q in let three : c ≡ y = r in let four : d ≡ z = s in
    ap (λ (t : List ℕ). t ∷ x ∷ y ∷ z ∷ []) (sym one) ∙ ap (λ (t : List ℕ). a ∷ t ∷ y ∷ z ∷ []) (sym two)
    ∙ ap (λ (t : List ℕ). a ∷ b ∷ t ∷ z ∷ []) (sym three) ∙ ap (λ (t : List ℕ). a ∷ b ∷ c ∷ t ∷ []) (sym four)
four_words (w ∷ x ∷ y ∷ z ∷ v ∷ rest) a b c d p q r s least most = absurd (omega arith)

-- words of another count ask for nothing
pub no_task : (words : List (List ℕ)) → (length words ≡ 2 → ⊥) → (length words ≡ 4 → ⊥) → task_of words ≡ Nothing
no_task [] two four = refl
no_task (w ∷ []) two four = refl
no_task (w ∷ x ∷ []) two four = absurd (two refl)
no_task (w ∷ x ∷ y ∷ []) two four = refl
no_task (w ∷ x ∷ y ∷ z ∷ []) two four = absurd (four refl)
no_task (w ∷ x ∷ y ∷ z ∷ v ∷ rest) two four = refl

-- a call that ends by what it is to do ends so by words that ask for it
pub ends_by : (words : List (List ℕ)) (task : Task) (before after : FilesState) (result : Result Ending AllocError) → task_of words ≡ task
    → IfOk result (EndsBy task before after) → IfOk result (Ends words before after)
ends_by words task before after result same h = subst (λ (t : Task). IfOk result (EndsBy t before after)) (sym same) h

-- a search path stands before the names
pub task_by_path : (words : List (List ℕ)) (option path edl script : List ℕ) → words ≡ option ∷ path ∷ edl ∷ script ∷ [] → bytes_eq option (codes "--search-path") ≡ true
    → task_of words ≡ named (directories path) edl script
task_by_path words option path edl script four is = ap task_of four ∙ ap (λ (b : Bool). if b then named (directories path) edl script else Nothing) is

-- another option before them
pub task_by_other : (words : List (List ℕ)) (option path edl script : List ℕ) → words ≡ option ∷ path ∷ edl ∷ script ∷ [] → bytes_eq option (codes "--search-path") ≡ false
    → task_of words ≡ Nothing
task_by_other words option path edl script four is = ap task_of four ∙ ap (λ (b : Bool). if b then named (directories path) edl script else Nothing) is
