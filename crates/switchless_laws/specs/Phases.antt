-- What one participant may do at one slot, in which phase.
use Rattle.std.specs.Prelude.{ℕ, ◌≡◌, ◌≢◌, ◌+◌, ◌==◌, IsTrue, if◌then◌else◌, List, [], ◌∷◌}
use Rattle.word_port.specs.declared.Step.{Step}
use Rattle.word_port.specs.declared.Side.TheVariants.{Pool}
use Rattle.word_port.specs.Requests.{Request, step_of, load_of, swap_of, cas_of}
use Rattle.switchless.specs.Slots.{is_offered, is_done, done_word}

-- at a slot a participant has nothing to do with its word; or its offered word stands there; or it has also seen that this was served;
-- or it serves the word that stood there
pub data Phase : Type 0 where
  idle : Phase
  holds : ℕ → Phase
  seen : ℕ → Phase
  serves : ℕ → Phase

-- the step is this request, with its answer
abbrev pub IsAnswerTo : Request → Step → Type 0
IsAnswerTo q s = s ≡ step_of q s.answer

-- looks, offers a word where the slot is free, or accepts an offered word where it still stands there
pub data FromIdle (slot : ℕ) (s : Step) (next : Phase) : Type 0 where
  looked : IsAnswerTo (load_of Pool slot) s → next ≡ idle → FromIdle slot s next
  offered : (w : ℕ) → IsTrue (is_offered w) → IsAnswerTo (cas_of Pool slot 0 w) s → next ≡ (if s.answer == 0 then holds w else idle) → FromIdle slot s next
  accepted : (w : ℕ) → IsTrue (is_offered w) → IsAnswerTo (cas_of Pool slot w (w + 1)) s → next ≡ (if s.answer == w then serves w else idle) → FromIdle slot s next

-- looks whether the word was served, or takes its offer back where no one accepted it
pub data FromHolding (slot w : ℕ) (s : Step) (next : Phase) : Type 0 where
  looked : IsAnswerTo (load_of Pool slot) s → next ≡ (if is_done s.answer then seen w else holds w) → FromHolding slot w s next
  withdrew : IsAnswerTo (cas_of Pool slot w 0) s → next ≡ (if s.answer == w then idle else holds w) → FromHolding slot w s next

-- empties the slot
pub record FromSeen (slot : ℕ) (s : Step) (next : Phase) : Type 0 where
  pub collected : IsAnswerTo (swap_of Pool slot 0) s
  pub is_idle : next ≡ idle

-- leaves the slot done, with a status
pub record FromServing (slot w : ℕ) (s : Step) (next : Phase) : Type 0 where
  pub status : ℕ
  pub finished : IsAnswerTo (swap_of Pool slot (done_word w status)) s
  pub is_idle : next ≡ idle

-- a step on the slot, in each phase, and the phase after it
abbrev pub IsMoveAt : ℕ → Phase → Step → Phase → Type 0
IsMoveAt slot idle s next = FromIdle slot s next
IsMoveAt slot (holds w) s next = FromHolding slot w s next
IsMoveAt slot (seen w) s next = FromSeen slot s next
IsMoveAt slot (serves w) s next = FromServing slot w s next

-- any step: one on another word leaves the phase as it was
pub data IsMove (slot : ℕ) (phase : Phase) (s : Step) (next : Phase) : Type 0 where
  elsewhere : s.index ≢ slot → next ≡ phase → IsMove slot phase s next
  there : s.index ≡ slot → IsMoveAt slot phase s next → IsMove slot phase s next

-- the steps of a participant lead from one phase at the slot to another
abbrev pub PhaseLeads : ℕ → Phase → List Step → Phase → Type 0
PhaseLeads slot phase [] last = phase ≡ last
PhaseLeads slot phase (s ∷ log) last = (next : Phase) × IsMove slot phase s next × PhaseLeads slot next log last

-- the participant keeps to the slot's rules from the beginning, and ends in this phase
abbrev pub KeepsSlot : ℕ → List Step → Phase → Type 0
KeepsSlot slot log last = PhaseLeads slot idle log last

-- one slot's word and the participants' phases: the slot is free, and nobody has to do with it; a word is offered, and one holds it;
-- it is accepted, and another serves it; or it is done, and the one that holds it may have seen that
pub data IsSettled (word : ℕ) (phases : ℕ → Phase) : Type 0 where
  free : word ≡ 0 → ((k : ℕ) → phases k ≡ idle) → IsSettled word phases
  offered : (w caller : ℕ) → IsTrue (is_offered w) → word ≡ w → phases caller ≡ holds w → ((k : ℕ) → k ≢ caller → phases k ≡ idle) → IsSettled word phases
  accepted : (w caller worker : ℕ) → IsTrue (is_offered w) → word ≡ w + 1 → phases caller ≡ holds w → phases worker ≡ serves w
      → ((k : ℕ) → k ≢ caller → k ≢ worker → phases k ≡ idle) → IsSettled word phases
  held : (w status caller : ℕ) → IsTrue (is_offered w) → word ≡ done_word w status → phases caller ≡ holds w → ((k : ℕ) → k ≢ caller → phases k ≡ idle) → IsSettled word phases
  noticed : (w status caller : ℕ) → IsTrue (is_offered w) → word ≡ done_word w status → phases caller ≡ seen w → ((k : ℕ) → k ≢ caller → phases k ≡ idle) → IsSettled word phases
