-- What a call answers, by how it ended and what was written.
use Rattle.std.proofs.Common.{ℕ, ◌≡◌, ◌⊎◌, inl, inr, List, Option, Some, None, Result, Ok, Err, OnOk, OnErr, refl, sym, ap, ◌∙◌, subst}
use Rattle.sgx_base.specs.Outcome.{OrMemory}
use Rattle.sgx_base.specs.Sinks.{SinkState, SinkFailed, Wrote, WrotePart}
use Rattle.sgx_base.specs.Stores.{FilesState, ReadFailed, WriteFailed}
use Rattle.sgx_base.specs.declared.sink.SinkFault.{SinkFault}
use Rattle.sgx_base.specs.declared.sink.SinkFault.TheVariants.{Failed, Memory as sink_memory}
use Rattle.tool_words.specs.declared.Choices.{Choices}
use Rattle.tool_words.specs.declared.Request.{Request}
use Rattle.tool_words.specs.declared.Request.TheVariants as request
use Rattle.tool_words.specs.Words.{request_of}
use Rattle.edger8r.specs.declared.ending.Ending.{Ending}
use Rattle.edger8r.specs.declared.ending.Ending.TheVariants.{Usage, Help, Made, Edl, Unread, Missing, Unwritten, Memory}
use Rattle.edger8r.specs.Endings.{Ends, status_of, text_of}
use Rattle.edger8r.specs.Endings as endings
use Rattle.edger8r.specs.Made.{MakesAll}
use Rattle.edger8r.specs.Answers.{Answers, IsMakeable, NothingFailed}
use Rattle.edger8r.specs.Answers as answers
use Rattle.edger8r.proofs.CompleteLaws.{all_well}

-- ---- the answer where an ending's text was written, or a part of it

module _ (words : List (List ℕ)) (before after : FilesState) (old new : SinkState) where
  written : (ending : Ending) → Ends words before after ending → Wrote (text_of ending) old new → Answers words before after old new (status_of ending)
  written Made e w = answers.made e (w.by_none refl)
  written Help e w = answers.helped e w
  written Usage e w = answers.usage e w
  written (Edl name fault) e w = answers.edl_fault name fault e w
  written (Unread name) e w = answers.unread name e w
  written Unwritten e w = answers.unwritten e (w.by_none refl)
  written Memory e w = answers.out_of_memory (inl (record { ending = Memory; cause = e; same = w.by_none refl }))
  written (Missing name) e w = answers.missing name e w

  pub answered : (ending : Ending) (text : List ℕ) (taken : Result (Unit {0}) SinkFault) (status result : ℕ)
      → Ends words before after ending → text ≡ text_of ending → status ≡ status_of ending
      → OnOk taken (Wrote text old new) → OnErr taken (WrotePart text old new) → (taken ≡ Err Failed → SinkFailed old new)
      → OnOk taken (result ≡ status) → (taken ≡ Err Failed → result ≡ 5) → (taken ≡ Err sink_memory → result ≡ 6)
      → Answers words before after old new result
  answered ending text (Ok u) status result e t s whole part failed is refusal memory =
      subst (Answers words before after old new) (sym (is ∙ s)) (written ending e (subst (λ (x : List ℕ). Wrote x old new) t whole))
  answered ending text (Err Failed) status result e t s whole part failed is refusal memory =
      subst (Answers words before after old new) (sym (refusal refl))
      (answers.sink_refused (record { ending = ending; cause = e; part = subst (λ (x : List ℕ). WrotePart x old new) t part }) (failed refl))
  answered ending text (Err sink_memory) status result e t s whole part failed is refusal memory =
      subst (Answers words before after old new) (sym (memory refl))
      (answers.out_of_memory (inr (record { ending = ending; cause = e; part = subst (λ (x : List ℕ). WrotePart x old new) t part })))

  -- memory ran out before the text was made
  pub untold : (ending : Ending) → new ≡ old → Ends words before after ending → Answers words before after old new 6
  untold ending same e = answers.out_of_memory (inl (record { ending = ending; cause = e; same = same }))

-- ---- where nothing fails

-- an ending without a fault
abbrev IsWell : Ending → Type 0
IsWell e = (status_of e ≡ 0) ⊎ (status_of e ≡ 6)

-- what the words ask for, of what they were read as
abbrev choices_of : Choices → Option Request → Choices
choices_of d (Some (request.Stubs c)) = c
choices_of d _ = d

by_stubs : (words : List (List ℕ)) (before after : FilesState) (c : Choices) (ending : Ending) → ¬ ReadFailed before after → ¬ WriteFailed before after → request_of words ≡ Some (request.Stubs c)
    → MakesAll c c.files before after ending → IsMakeable words before → IsWell ending
by_stubs words before after c ending no_read no_write asked m (answers.asks_help h) = let clash : Some (request.Stubs c) ≡ Some request.Help = sym asked ∙ h in absurd cc
by_stubs words before after c ending no_read no_write asked m (answers.asks_stubs d store h told clean) =
    let same : c ≡ d = ap (choices_of c) (sym asked ∙ h) in
    by (all_well d d.files before after ending store (subst (λ (x : Choices). MakesAll x x.files before after ending) same m) told clean no_read no_write)
  where
    by : (ending ≡ Made) ⊎ (ending ≡ Memory) → IsWell ending
    by (inl e) = inl (ap status_of e)
    by (inr e) = inr (ap status_of e)

no_request : (words : List (List ℕ)) (before : FilesState) → IsMakeable words before → request_of words ≡ None → ⊥
no_request words before (answers.asks_help h) none = let clash : Some request.Help ≡ None = sym h ∙ none in absurd cc
no_request words before (answers.asks_stubs c store h told clean) none = let clash : Some (request.Stubs c) ≡ None = sym h ∙ none in absurd cc

well : (words : List (List ℕ)) (before after : FilesState) (ending : Ending) → ¬ ReadFailed before after → ¬ WriteFailed before after → Ends words before after ending → IsMakeable words before → IsWell ending
well words before after ending no_read no_write (endings.faulty_words none) m = absurd (no_request words before m none)
well words before after ending no_read no_write (endings.helped h) m = inl refl
well words before after ending no_read no_write endings.no_memory m = inr refl
well words before after ending no_read no_write (endings.making c last e asked makes) m = by_stubs words before last c e no_read no_write asked makes m

done : (ending : Ending) (status : ℕ) → status ≡ status_of ending → IsWell ending → OrMemory 6 (λ s. s ≡ 0) status
done ending status is (inl h) = inr (is ∙ h)
done ending status is (inr h) = inl (is ∙ h)

module _ (words : List (List ℕ)) (before after : FilesState) (old new : SinkState) (n : NothingFailed before after old new) where
  fine : (ending : Ending) → Ends words before after ending → IsMakeable words before → OrMemory 6 (λ s. s ≡ 0) (status_of ending)
  fine ending e m = done ending (status_of ending) refl (well words before after ending n.read n.written e m)

  -- the stubs or the usage line are written then, unless memory ran out
  pub complete : (status : ℕ) → Answers words before after old new status → IsMakeable words before → OrMemory 6 (λ s. s ≡ 0) status
  complete status (answers.made e same) m = inr refl
  complete status (answers.helped e w) m = inr refl
  complete status (answers.usage e w) m = fine Usage e m
  complete status (answers.edl_fault name fault e w) m = fine (Edl name fault) e m
  complete status (answers.unread name e w) m = fine (Unread name) e m
  complete status (answers.unwritten e same) m = fine Unwritten e m
  complete status (answers.sink_refused part failed) m = absurd (n.taken failed)
  complete status (answers.out_of_memory part) m = inl refl
  complete status (answers.missing name e w) m = fine (Missing name) e m
