-- One slot through a history.
use Rattle.std.proofs.Common.{ℕ, ◌+◌, ◌≡◌, ◌≢◌, ◌==◌, ◌⊎◌, inl, inr, Bool, true, false, ◌&&◌, if◌then◌else◌, List, [], ◌∷◌, ◌++◌, get_or, Some, slice_get, slice_set, refl, ap, sym, ◌∙◌, subst, arith, get_or-set_same, get_or-set_other}
use Rattle.std.proofs.lemmas.Bool.{eq-eqb, ne_eqb}
use Rattle.std.proofs.lemmas.Bool.Decides.{eqb_tells}
use Rattle.std.proofs.lemmas.Option.{slice_get_within, get_or_from_slice_get}
use Rattle.word_port.specs.declared.Step.{Step}
use Rattle.word_port.specs.History.{IsLegal, history_of, words_after, word_after, words_in_the_end, IsShuffleOf}
use Rattle.switchless.specs.Slots.{is_done}
use Rattle.switchless.specs.Counts.{is_swap_by_pool}
use Rattle.switchless_laws.specs.Phases.{Phase, IsMove, elsewhere, there, IsMoveAt, PhaseLeads, IsSettled}
use Rattle.switchless_laws.specs.Tallies.{one_if, is_finish, is_collect, served_at, taken_at, done_in}
use Rattle.switchless_laws.proofs.Words.{get-set_same, get-set_other, some-injective}
use Rattle.switchless_laws.proofs.OneStep.{step_there, step_elsewhere}

-- the phases with one changed
abbrev pub with_phase : (ℕ → Phase) → ℕ → Phase → ℕ → Phase
with_phase phases i m k = if k == i then m else phases k

changed_there : (phases : ℕ → Phase) (i : ℕ) (m : Phase) → with_phase phases i m i ≡ m
changed_there phases i m = ap (λ b. if b then m else phases i) (eq-eqb i i refl)

changed_only : (phases : ℕ → Phase) (i : ℕ) (m : Phase) (k : ℕ) → k ≢ i → with_phase phases i m k ≡ phases k
changed_only phases i m k h = ap (λ b. if b then m else phases k) (ne_eqb k i h)

module _ (test : ℕ → Bool) (slot : ℕ) where
  false_and : (a b : Bool) → b ≡ false → (c : Bool) → one_if (a && (b && c)) ≡ 0
  false_and true b e c = ap (λ x. one_if (x && c)) e
  false_and false b e c = refl

  -- after one step, with the participant's next phase
  pub record AfterStep (words : List ℕ) (v : ℕ) (later : ℕ → Phase) (s : Step) : Type 0 where
    pub word : ℕ
    pub found : slice_get (words_after words s) slot ≡ Some word
    pub settled : IsSettled word later
    pub tally : one_if (is_finish test slot s) + done_in test v ≡ one_if (is_collect test slot s) + done_in test word

  pub one_move : (words : List ℕ) (v : ℕ) (phases : ℕ → Phase) (i : ℕ) (m : Phase) (s : Step)
      → slice_get words s.index ≡ Some s.answer → slice_get words slot ≡ Some v → IsSettled v phases → IsMove slot (phases i) s m
      → AfterStep words v (with_phase phases i m) s
  one_move words v phases i m s legal has h (elsewhere far same) =
      let a : one_if (is_finish test slot s) ≡ 0 = false_and (is_swap_by_pool s.side s.kind) (s.index == slot) (ne_eqb s.index slot far) (is_done s.first && test s.first) in
      let b : one_if (is_collect test slot s) ≡ 0 = false_and (is_swap_by_pool s.side s.kind) (s.index == slot) (ne_eqb s.index slot far) ((s.first == 0) && test s.answer) in
      record {
        word = v;
        found = get-set_other words s.index slot (word_after s.kind s.first s.second s.answer) (λ e. far (sym e)) ∙ has;
        settled = step_elsewhere phases (with_phase phases i m) i (changed_only phases i m) (changed_there phases i m ∙ same) v h;
        tally = omega (arith, a, b);
      }
  one_move words v phases i m s legal has h (there at move) =
      let is_v : s.answer ≡ v = some-injective s.answer v (sym legal ∙ ap (λ n. slice_get words n) at ∙ has) in
      let kept : IsSettled (word_after s.kind s.first s.second s.answer) (with_phase phases i m)
      × (one_if (is_finish test slot s) + done_in test s.answer ≡ one_if (is_collect test slot s) + done_in test (word_after s.kind s.first s.second s.answer)) =
      step_there test slot phases (with_phase phases i m) i (changed_only phases i m) s (subst (λ n. IsMoveAt slot (phases i) s n) (sym (changed_there phases i m)) move)
      (subst (λ n. IsSettled n phases) (sym is_v) h) in
      record {
        word = word_after s.kind s.first s.second s.answer;
        found = subst (λ n. slice_get (words_after words s) n ≡ Some (word_after s.kind s.first s.second s.answer)) at
            (get-set_same words s.index s.answer (word_after s.kind s.first s.second s.answer) legal);
        settled = kept.0;
        tally = subst (λ n. one_if (is_finish test slot s) + done_in test n ≡ one_if (is_collect test slot s) + done_in test (word_after s.kind s.first s.second s.answer)) is_v kept.1;
      }

  -- each participant's rest of its log leads from its phase to its last one
  abbrev pub AllLead : List (List Step) → (ℕ → Phase) → (ℕ → Phase) → Type 0
  AllLead parts phases lasts = (k : ℕ) → PhaseLeads slot (phases k) (get_or parts k []) (lasts k)

  pub lead_on : (parts : List (List Step)) (phases lasts : ℕ → Phase) (i : ℕ) (s : Step) (rest : List Step) (m : Phase)
      → slice_get parts i ≡ Some (s ∷ rest) → AllLead parts phases lasts → PhaseLeads slot m rest (lasts i) → AllLead (slice_set parts i rest) (with_phase phases i m) lasts
  lead_on parts phases lasts i s rest m found all leads k = by_place (eqb_tells k i)
    where
      by_place : ((k == i) ≡ true) × (k ≡ i) ⊎ ((k == i) ≡ false) × (k ≢ i) → PhaseLeads slot (with_phase phases i m k) (get_or (slice_set parts i rest) k []) (lasts k)
      by_place (inl h) =
          let part : get_or (slice_set parts i rest) i [] ≡ rest = get_or-set_same parts i rest [] (slice_get_within parts i (s ∷ rest) found) in
          subst (λ n. PhaseLeads slot (with_phase phases i m n) (get_or (slice_set parts i rest) n []) (lasts n)) (sym h.1)
          (subst (λ p. PhaseLeads slot p (get_or (slice_set parts i rest) i []) (lasts i)) (sym (changed_there phases i m))
          (subst (λ l. PhaseLeads slot m l (lasts i)) (sym part) leads))
      by_place (inr h) =
          let part : get_or (slice_set parts i rest) k [] ≡ get_or parts k [] = get_or-set_other parts i k rest [] h.1 in
          subst (λ p. PhaseLeads slot p (get_or (slice_set parts i rest) k []) (lasts k)) (sym (changed_only phases i m k h.1))
          (subst (λ l. PhaseLeads slot (phases k) l (lasts k)) (sym part) (all k))

  -- one more step of one participant
  abbrev with_step : ℕ → Step → (ℕ → List Step) → ℕ → List Step
  with_step i s past k = if k == i then s ∷ past k else past k

  parted_on : (parts : List (List Step)) (i : ℕ) (s : Step) (rest : List Step) → slice_get parts i ≡ Some (s ∷ rest) → (past : ℕ → List Step) (left : List (List Step))
      → ((k : ℕ) → get_or (slice_set parts i rest) k [] ≡ past k ++ get_or left k []) → (k : ℕ) → get_or parts k [] ≡ with_step i s past k ++ get_or left k []
  parted_on parts i s rest found past left h k = by_place (eqb_tells k i)
    where
      by_place : ((k == i) ≡ true) × (k ≡ i) ⊎ ((k == i) ≡ false) × (k ≢ i) → get_or parts k [] ≡ with_step i s past k ++ get_or left k []
      by_place (inl e) =
          ap (λ n. get_or parts n []) e.1 ∙ get_or_from_slice_get parts i (s ∷ rest) [] found
          ∙ ap (λ l. s ∷ l) (sym (get_or-set_same parts i rest [] (slice_get_within parts i (s ∷ rest) found)) ∙ ap (λ n. get_or (slice_set parts i rest) n []) (sym e.1) ∙ h k)
          ∙ ap (λ b. (if b then s ∷ past k else past k) ++ get_or left k []) (sym e.0)
      by_place (inr e) = sym (get_or-set_other parts i k rest [] e.1) ∙ h k ∙ ap (λ b. (if b then s ∷ past k else past k) ++ get_or left k []) (sym e.0)

  led_on : (phases : ℕ → Phase) (i : ℕ) (s : Step) (m : Phase) → IsMove slot (phases i) s m → (past : ℕ → List Step) (later : ℕ → Phase)
      → ((k : ℕ) → PhaseLeads slot (with_phase phases i m k) (past k) (later k)) → (k : ℕ) → PhaseLeads slot (phases k) (with_step i s past k) (later k)
  led_on phases i s m move past later h k = by_place (eqb_tells k i)
    where
      by_place : ((k == i) ≡ true) × (k ≡ i) ⊎ ((k == i) ≡ false) × (k ≢ i) → PhaseLeads slot (phases k) (with_step i s past k) (later k)
      by_place (inl e) =
          let first : IsMove slot (phases k) s m = subst (λ n. IsMove slot (phases n) s m) (sym e.1) move in
          let on : PhaseLeads slot m (past k) (later k) = subst (λ p. PhaseLeads slot p (past k) (later k)) (ap (λ b. if b then m else phases k) e.0) (h k) in
          subst (λ b. PhaseLeads slot (phases k) (if b then s ∷ past k else past k) (later k)) (sym e.0) (m, first, on)
      by_place (inr e) =
          let on : PhaseLeads slot (phases k) (past k) (later k) = subst (λ p. PhaseLeads slot p (past k) (later k)) (ap (λ b. if b then m else phases k) e.0) (h k) in
          subst (λ b. PhaseLeads slot (phases k) (if b then s ∷ past k else past k) (later k)) (sym e.0) on

  -- a moment of a history: what comes before it, and after
  pub record Moment (words : List ℕ) (v : ℕ) (firsts lasts : ℕ → Phase) (all : List (List Step)) (before after : List Step) : Type 0 where
    pub word : ℕ
    pub found : slice_get (words_in_the_end words (history_of before)) slot ≡ Some word
    pub phases : ℕ → Phase
    pub settled : IsSettled word phases
    pub parts : List (List Step)
    pub shuffled : IsShuffleOf parts after
    pub lead : AllLead parts phases lasts
    pub past : ℕ → List Step
    pub parted : (k : ℕ) → get_or all k [] ≡ past k ++ get_or parts k []
    pub led : (k : ℕ) → PhaseLeads slot (firsts k) (past k) (phases k)
    pub tally : served_at test slot before + done_in test v ≡ taken_at test slot before + done_in test word

  pub each_moment : (before after : List Step) (words : List ℕ) (v : ℕ) (phases lasts : ℕ → Phase) (parts : List (List Step))
      → IsShuffleOf parts (before ++ after) → IsLegal words (history_of (before ++ after)) → slice_get words slot ≡ Some v
      → AllLead parts phases lasts → IsSettled v phases → Moment words v phases lasts parts before after
  each_moment [] after words v phases lasts parts shuffled legal has lead h = record {
    word = v;
    found = has;
    phases = phases;
    settled = h;
    parts = parts;
    shuffled = shuffled;
    lead = lead;
    past = λ k. [];
    parted = λ k. refl;
    led = λ k. refl;
    tally = refl;
  }
  each_moment (s ∷ before) after words v phases lasts parts (i, rest, found, shuffled) legal has lead h =
      let own : PhaseLeads slot (phases i) (s ∷ rest) (lasts i) = subst (λ l. PhaseLeads slot (phases i) l (lasts i)) (get_or_from_slice_get parts i (s ∷ rest) [] found) (lead i) in
      let now : AfterStep words v (with_phase phases i own.0) s = one_move words v phases i own.0 s legal.0 has h own.1 in
      let on : Moment (words_after words s) now.word (with_phase phases i own.0) lasts (slice_set parts i rest) before after =
      each_moment before after (words_after words s) now.word (with_phase phases i own.0) lasts (slice_set parts i rest) shuffled legal.1 now.found
      (lead_on parts phases lasts i s rest own.0 found lead own.2) now.settled in
      let x : one_if (is_finish test slot s) + done_in test v ≡ one_if (is_collect test slot s) + done_in test now.word = now.tally in
      let y : served_at test slot before + done_in test now.word ≡ taken_at test slot before + done_in test on.word = on.tally in
      record {
        word = on.word;
        found = on.found;
        phases = on.phases;
        settled = on.settled;
        parts = on.parts;
        shuffled = on.shuffled;
        lead = on.lead;
        past = with_step i s on.past;
        parted = parted_on parts i s rest found on.past on.parts on.parted;
        led = led_on phases i s own.0 own.1 on.past on.phases on.led;
        tally = omega (arith, x, y);
      }
