-- How a sample ends.
use Rattle.std.proofs.Common.{ℕ, ◌≡◌, ◌<◌, ◌≤◌, ◌⊎◌, inl, inr, Bool, true, false, Some, Result, Ok, Err, IfOk, refl, sym, subst, ap, ◌∙◌, arith}
use Rattle.std.proofs.lemmas.Bool.{le-leb, lt-leb}
use Rattle.std.specs.Prelude.{◌&&◌, if◌then◌else◌, nat_le}
use Rattle.std.specs.declared.alloc.AllocError.{AllocError}
use Rattle.sgx_base.specs.Stores.{FilesState}
use Rattle.callrun.specs.declared.Ending.{Ending}
use Rattle.callrun.specs.Samples.{sample_files}
use Rattle.callrun.specs.Told.{summary}
use Rattle.callrun.specs.Endings.{Task, Nothing, Sample, counted, sample_names, HasCause, HasSampleCause, EndsBy}

module _ (calls : ℕ) (start after : FilesState) (begun : start ≡ sample_files calls) (unfailing : after.read_faults ≡ 0) where
  pub sample_ends : (result : Result Ending AllocError) → IfOk result (HasCause summary sample_names start after) → IfOk result (HasSampleCause calls)
  sample_ends (Ok ending) h =
      record { after = after; unfailing = unfailing; cause = subst (λ (f : FilesState). HasCause summary sample_names f after ending) begun h }
  sample_ends (Err e) h = tt

-- ---- how many calls

abbrev task_if : ℕ → Bool → Bool → Task
task_if calls some few = if some && few then Sample calls else Nothing

counted_as : (calls : ℕ) → 1 ≤ calls → calls ≤ 8000 → counted (Some calls) ≡ Sample calls
counted_as calls some few = ap (λ (b : Bool). task_if calls b (nat_le calls 8000)) (le-leb 1 calls some) ∙ ap (λ (b : Bool). task_if calls true b) (le-leb calls 8000 few)

not_counted : (calls : ℕ) → (calls ≡ 0) ⊎ (8000 < calls) → counted (Some calls) ≡ Nothing
not_counted calls (inl none) = ap (λ (b : Bool). task_if calls b (nat_le calls 8000)) (lt-leb 1 calls (omega (arith, none)))
not_counted calls (inr many) = go (nat_le 1 calls)
  where
    go : (b : Bool) → task_if calls b (nat_le calls 8000) ≡ Nothing
    go true = ap (λ (b : Bool). task_if calls true b) (lt-leb calls 8000 many)
    go false = refl

pub sample_by_count : (calls : ℕ) (result : Result Ending AllocError) → 1 ≤ calls → calls ≤ 8000 → IfOk result (HasSampleCause calls)
    → (files : FilesState) → IfOk result (EndsBy (counted (Some calls)) files files)
sample_by_count calls result some few h files =
    subst (λ (t : Task). IfOk result (EndsBy t files files)) (sym (counted_as calls some few)) (go result h)
  where
    go : (r : Result Ending AllocError) → IfOk r (HasSampleCause calls) → IfOk r (EndsBy (Sample calls) files files)
    go (Ok ending) h = (refl, h)
    go (Err e) h = tt

pub usage_by_count : (calls : ℕ) (ending : Ending) → (calls ≡ 0) ⊎ (8000 < calls) → EndsBy Nothing (sample_files 0) (sample_files 0) ending
    → (files : FilesState) → EndsBy (counted (Some calls)) files files ending
usage_by_count calls ending out h files = subst (λ (t : Task). EndsBy t files files ending) (sym (not_counted calls out)) h
