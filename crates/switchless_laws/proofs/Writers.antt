-- Who wrote the word that stands in a slot.
use Rattle.std.proofs.Common.{ℕ, ◌+◌, ◌≡◌, ◌≢◌, ◌==◌, ◌⊎◌, inl, inr, IsTrue, Bool, true, false, if◌then◌else◌, List, [], ◌∷◌, ◌++◌, Some, slice_get, slice_set, refl, ap, sym, ◌∙◌, subst}
use Rattle.std.specs.List.{Contains}
use Rattle.std.proofs.lemmas.Bool.{eqb-true}
use Rattle.std.proofs.lemmas.Bool.Decides.{eqb_tells}
use Rattle.std.proofs.lemmas.List.Elements.{Contains-append_left, Contains-append_right, Contains-push}
use Rattle.std.proofs.lemmas.Option.{get_or_from_slice_get}
use Rattle.word_port.specs.declared.Step.{Step}
use Rattle.word_port.specs.declared.Side.TheVariants.{Pool}
use Rattle.word_port.specs.Requests.{step_of, cas_of}
use Rattle.word_port.specs.History.{IsLegal, history_of, words_after, word_after, words_in_the_end, IsShuffleOf}
use Rattle.switchless.specs.Slots.{is_offered, done_word}
use Rattle.switchless_laws.specs.Phases.{Phase, idle, holds, seen, serves, FromIdle, FromHolding, IsMove, elsewhere, there, IsMoveAt, PhaseLeads, IsSettled, free, offered, accepted, held, noticed}
use Rattle.switchless_laws.specs.Servings.{offering, leaving}
use Rattle.switchless_laws.proofs.Words.{get-set_same, get-set_other, some-injective}
use Rattle.switchless_laws.proofs.OneSlot.{AfterStep, one_move, AllLead, lead_on, with_phase}

-- one of the steps wrote this word in the slot
pub data Written (slot word : ℕ) (steps : List Step) : Type 0 where
  by_offer : IsTrue (is_offered word) → Contains steps (offering slot word) → Written slot word steps
  by_acceptance : (w : ℕ) → IsTrue (is_offered w) → word ≡ w + 1 → Written slot word steps
  by_finish : (w status found : ℕ) → IsTrue (is_offered w) → word ≡ done_word w status → Contains steps (leaving slot word found) → Written slot word steps

later : (slot word : ℕ) (s : Step) (steps : List Step) → Written slot word steps → Written slot word (s ∷ steps)
later slot word s steps (by_offer o c) = by_offer o (Contains-append_right (s ∷ []) steps (offering slot word) c)
later slot word s steps (by_acceptance w o e) = by_acceptance w o e
later slot word s steps (by_finish w status found o e c) = by_finish w status found o e (Contains-append_right (s ∷ []) steps (leaving slot word found) c)

first_step : (s t : Step) (steps : List Step) → s ≡ t → Contains (s ∷ steps) t
first_step s t steps e = Contains-append_left (s ∷ []) steps t (subst (λ u. Contains (u ∷ []) t) (sym e) (Contains-push [] t))

-- the word that is served was offered
serving_offered : (v i w : ℕ) (phases : ℕ → Phase) → IsSettled v phases → phases i ≡ serves w → IsTrue (is_offered w)
serving_offered v i w phases (free z f) h = let a : phases i ≡ idle = f i in cc
serving_offered v i w phases (offered u c o z hc f) h = by_place (eqb_tells i c)
  where
    by_place : ((i == c) ≡ true) × (i ≡ c) ⊎ ((i == c) ≡ false) × (i ≢ c) → IsTrue (is_offered w)
    by_place (inl e) = let a : phases i ≡ holds u = ap phases e.1 ∙ hc in cc
    by_place (inr e) = let a : phases i ≡ idle = f i e.1 in cc
serving_offered v i w phases (accepted u c d o z hc hd f) h = by_place (eqb_tells i c) (eqb_tells i d)
  where
    by_place : ((i == c) ≡ true) × (i ≡ c) ⊎ ((i == c) ≡ false) × (i ≢ c) → ((i == d) ≡ true) × (i ≡ d) ⊎ ((i == d) ≡ false) × (i ≢ d) → IsTrue (is_offered w)
    by_place (inl e) b = let a : phases i ≡ holds u = ap phases e.1 ∙ hc in cc
    by_place (inr e) (inl g) = let a : serves w ≡ serves u = sym h ∙ ap phases g.1 ∙ hd in let same : w ≡ u = cc in subst (λ n. IsTrue (is_offered n)) (sym same) o
    by_place (inr e) (inr g) = let a : phases i ≡ idle = f i e.1 g.1 in cc
serving_offered v i w phases (held u status c o z hc f) h = by_place (eqb_tells i c)
  where
    by_place : ((i == c) ≡ true) × (i ≡ c) ⊎ ((i == c) ≡ false) × (i ≢ c) → IsTrue (is_offered w)
    by_place (inl e) = let a : phases i ≡ holds u = ap phases e.1 ∙ hc in cc
    by_place (inr e) = let a : phases i ≡ idle = f i e.1 in cc
serving_offered v i w phases (noticed u status c o z hc f) h = by_place (eqb_tells i c)
  where
    by_place : ((i == c) ≡ true) × (i ≡ c) ⊎ ((i == c) ≡ false) × (i ≢ c) → IsTrue (is_offered w)
    by_place (inl e) = let a : phases i ≡ seen u = ap phases e.1 ∙ hc in cc
    by_place (inr e) = let a : phases i ≡ idle = f i e.1 in cc

module _ (slot target : ℕ) (some : target ≢ 0) where
  abbrev Before : ℕ → List Step → Type 0
  Before v steps = (v ≡ target) ⊎ Written slot target steps

  try_offer : (w : ℕ) (s : Step) (steps : List Step) → IsTrue (is_offered w) → s ≡ step_of (cas_of Pool slot 0 w) s.answer
      → (b : Bool) → (s.answer == 0) ≡ b → (if b then w else s.answer) ≡ target → Before s.answer (s ∷ steps)
  try_offer w s steps o e true h t =
      let zero_found : s.answer ≡ 0 = eqb-true s.answer 0 h in
      let same : s ≡ offering slot target = e ∙ ap (λ n. step_of (cas_of Pool slot 0 w) n) zero_found ∙ ap (offering slot) t in
      inr (by_offer (subst (λ n. IsTrue (is_offered n)) t o) (first_step s (offering slot target) steps same))
  try_offer w s steps o e false h t = inl t

  try_accept : (w a : ℕ) (steps : List Step) → IsTrue (is_offered w) → (b : Bool) → (if b then w + 1 else a) ≡ target → Before a steps
  try_accept w a steps o true t = inr (by_acceptance w o (sym t))
  try_accept w a steps o false t = inl t

  try_withdraw : (a : ℕ) (steps : List Step) → (b : Bool) → (if b then 0 else a) ≡ target → Before a steps
  try_withdraw a steps true t = absurd (some (sym t))
  try_withdraw a steps false t = inl t

  -- a step on the slot leaves the word that it found, or writes one
  move_there : (phases : ℕ → Phase) (i : ℕ) (p : Phase) (s : Step) (m : Phase) (steps : List Step) → IsSettled s.answer phases → phases i ≡ p → IsMoveAt slot p s m
      → word_after s.kind s.first s.second s.answer ≡ target → Before s.answer (s ∷ steps)
  move_there phases i idle s m steps h q (FromIdle.looked e n) t = inl (ap (λ u. word_after u.kind u.first u.second s.answer) (sym e) ∙ t)
  move_there phases i idle s m steps h q (FromIdle.offered w o e n) t =
      try_offer w s steps o e (s.answer == 0) refl (ap (λ u. word_after u.kind u.first u.second s.answer) (sym e) ∙ t)
  move_there phases i idle s m steps h q (FromIdle.accepted w o e n) t =
      try_accept w s.answer (s ∷ steps) o (s.answer == w) (ap (λ u. word_after u.kind u.first u.second s.answer) (sym e) ∙ t)
  move_there phases i (holds w) s m steps h q (FromHolding.looked e n) t = inl (ap (λ u. word_after u.kind u.first u.second s.answer) (sym e) ∙ t)
  move_there phases i (holds w) s m steps h q (FromHolding.withdrew e n) t =
      try_withdraw s.answer (s ∷ steps) (s.answer == w) (ap (λ u. word_after u.kind u.first u.second s.answer) (sym e) ∙ t)
  move_there phases i (seen w) s m steps h q move t = absurd (some (sym (ap (λ u. word_after u.kind u.first u.second s.answer) (sym move.collected) ∙ t)))
  move_there phases i (serves w) s m steps h q move t =
      let e : done_word w move.status ≡ target = ap (λ u. word_after u.kind u.first u.second s.answer) (sym move.finished) ∙ t in
      inr (by_finish w move.status s.answer (serving_offered s.answer i w phases h q) (sym e)
      (first_step s (leaving slot target s.answer) steps (move.finished ∙ ap (λ n. leaving slot n s.answer) e)))

  one_write : (words : List ℕ) (v : ℕ) (phases : ℕ → Phase) (i : ℕ) (m : Phase) (s : Step) (steps : List Step) (after : ℕ)
      → slice_get words s.index ≡ Some s.answer → slice_get words slot ≡ Some v → IsSettled v phases → IsMove slot (phases i) s m
      → slice_get (words_after words s) slot ≡ Some after → after ≡ target → Before v (s ∷ steps)
  one_write words v phases i m s steps after legal has h (elsewhere far same) found t =
      let kept : Some v ≡ Some after = sym has ∙ sym (get-set_other words s.index slot (word_after s.kind s.first s.second s.answer) (λ e. far (sym e))) ∙ found in
      inl (some-injective v after kept ∙ t)
  one_write words v phases i m s steps after legal has h (there at move) found t =
      let is_v : s.answer ≡ v = some-injective s.answer v (sym legal ∙ ap (λ n. slice_get words n) at ∙ has) in
      let there_now : slice_get (words_after words s) slot ≡ Some (word_after s.kind s.first s.second s.answer) =
      subst (λ n. slice_get (words_after words s) n ≡ Some (word_after s.kind s.first s.second s.answer)) at
      (get-set_same words s.index s.answer (word_after s.kind s.first s.second s.answer) legal) in
      let is_target : word_after s.kind s.first s.second s.answer ≡ target = some-injective (word_after s.kind s.first s.second s.answer) after (sym there_now ∙ found) ∙ t in
      subst (λ n. Before n (s ∷ steps)) is_v (move_there phases i (phases i) s m steps (subst (λ n. IsSettled n phases) (sym is_v) h) refl move is_target)

  -- the word that stands there after steps stood there before, or was written by one of them
  pub written : (steps after : List Step) (words : List ℕ) (v : ℕ) (phases lasts : ℕ → Phase) (parts : List (List Step))
      → IsShuffleOf parts (steps ++ after) → IsLegal words (history_of (steps ++ after)) → slice_get words slot ≡ Some v
      → AllLead (λ n. true) slot parts phases lasts → IsSettled v phases → slice_get (words_in_the_end words (history_of steps)) slot ≡ Some target → Before v steps
  written [] after words v phases lasts parts shuffled legal has lead h found = inl (some-injective v target (sym has ∙ found))
  written (s ∷ steps) after words v phases lasts parts (i, rest, part, shuffled) legal has lead h found =
      let own : PhaseLeads slot (phases i) (s ∷ rest) (lasts i) = subst (λ l. PhaseLeads slot (phases i) l (lasts i)) (get_or_from_slice_get parts i (s ∷ rest) [] part) (lead i) in
      let now : AfterStep (λ n. true) slot words v (with_phase phases i own.0) s = one_move (λ n. true) slot words v phases i own.0 s legal.0 has h own.1 in
      on own now (written steps after (words_after words s) now.word (with_phase phases i own.0) lasts (slice_set parts i rest) shuffled legal.1 now.found
      (lead_on (λ n. true) slot parts phases lasts i s rest own.0 part lead own.2) now.settled found)
    where
      on : (own : PhaseLeads slot (phases i) (s ∷ rest) (lasts i)) → (now : AfterStep (λ n. true) slot words v (with_phase phases i own.0) s) → Before now.word steps → Before v (s ∷ steps)
      on own now (inl e) = one_write words v phases i own.0 s steps now.word legal.0 has h own.1 now.found e
      on own now (inr w) = inr (later slot target s steps w)

-- a history is legal from each of its moments on
pub legal_from : (words : List ℕ) (xs ys : List Step) → IsLegal words (history_of (xs ++ ys)) → IsLegal (words_in_the_end words (history_of xs)) (history_of ys)
legal_from words [] ys h = h
legal_from words (s ∷ xs) ys h = legal_from (words_after words s) xs ys h.1

pub words_then : (words : List ℕ) (xs : List Step) (s : Step) → words_in_the_end words (history_of (xs ++ s ∷ [])) ≡ words_after (words_in_the_end words (history_of xs)) s
words_then words [] s = refl
words_then words (x ∷ xs) s = words_then (words_after words x) xs s

pub words_on : (words : List ℕ) (xs ys : List Step) → words_in_the_end words (history_of (xs ++ ys)) ≡ words_in_the_end (words_in_the_end words (history_of xs)) (history_of ys)
words_on words [] ys = refl
words_on words (x ∷ xs) ys = words_on (words_after words x) xs ys
