-- A call is served by one worker, whose status the caller collects.
use Rattle.std.proofs.Common.{ℕ, ◌+◌, ◌%◌, ◌≡◌, ◌≢◌, ◌==◌, ◌⊎◌, inl, inr, IsTrue, Bool, true, false, if◌then◌else◌, List, [], ◌∷◌, ◌++◌, Some, slice_get, refl, ap, sym, ◌∙◌, subst, arith, append_assoc, append-nil}
use Rattle.std.specs.List.{All, Contains}
use Rattle.std.proofs.lemmas.Bool.{eqb-true, eq-eqb}
use Rattle.std.proofs.lemmas.Bool.Decides.{eqb_tells}
use Rattle.std.proofs.lemmas.List.Elements.{All-nil, All-push}
use Rattle.std.proofs.lemmas.Option.{get_or_from_slice_get}
use Rattle.word_port.specs.declared.Step.{Step}
use Rattle.word_port.specs.declared.Side.TheVariants.{Pool}
use Rattle.word_port.specs.Requests.{step_of, cas_of}
use Rattle.word_port.specs.History.{IsLegal, history_of, words_after, words_in_the_end, IsShuffleOf}
use Rattle.switchless.specs.declared.Pool.{Pool as Slots}
use Rattle.switchless.specs.Slots.{is_offered, is_done, done_word}
use Rattle.switchless.specs.Counts.{is_swap_by_pool}
use Rattle.switchless_laws.specs.Phases.{Phase, idle, holds, seen, serves, FromIdle, FromHolding, IsAnswerTo, IsMove, elsewhere, there, IsMoveAt, PhaseLeads, KeepsSlot, IsSettled, free, offered, accepted, held, noticed}
use Rattle.switchless_laws.specs.Moments.{IsSlotOf, AreFree, KeepsSlots}
use Rattle.switchless_laws.specs.Servings.{offering, acceptance, leaving, collecting, HasAccepted, IsServedWord, WasLeft}
use Rattle.switchless_laws.proofs.Words.{offered_tag, accepted_tag, done_tag, is_done-tag, get-set_same, some-injective}
use Rattle.switchless_laws.proofs.OneSlot.{Moment}
use Rattle.switchless_laws.proofs.Theorem.{each_keeps, moment}
use Rattle.switchless_laws.proofs.Writers.{Written, by_offer, by_acceptance, by_finish, written, legal_from, words_then}

not_zero : (n t : ℕ) → n % 4 ≡ t → t ≢ 0 → n ≢ 0
not_zero n t e h z = h (sym e ∙ ap (λ k. k % 4) z)

-- a moment of one slot, whatever each participant's last phase is
module _ (pool : Slots) (words : List ℕ) (participants : List (List Step)) (before after : List Step)
    (are_free : AreFree pool words) (shuffled : IsShuffleOf participants (before ++ after)) (legal : IsLegal words (history_of (before ++ after)))
    (keep : All (KeepsSlots pool) participants) (slot : ℕ) (at : IsSlotOf pool slot) where
  abbrev last_phase : ℕ → Phase
  last_phase k = (each_keeps pool words participants before after are_free shuffled legal keep k slot at).0

  now : Moment (λ n. true) slot words 0 (λ k. idle) last_phase participants before after
  now = moment pool words participants before after are_free shuffled legal (λ n. true) slot at last_phase
      (λ k. (each_keeps pool words participants before after are_free shuffled legal keep k slot at).1)

  -- a word that stands in the slot was written since the word 0 at first
  written_before : (target : ℕ) → target ≢ 0 → slice_get (words_in_the_end words (history_of before)) slot ≡ Some target → Written slot target before
  written_before target some found =
      from_start (written slot target some before after words 0 (λ k. idle) last_phase participants shuffled legal (are_free slot at)
      (λ k. (each_keeps pool words participants before after are_free shuffled legal keep k slot at).1) (free refl (λ k. refl)) found)
    where
      from_start : (0 ≡ target) ⊎ Written slot target before → Written slot target before
      from_start (inl e) = absurd (some (sym e))
      from_start (inr w) = w

  -- from the moment on, a word is the one that stands there now or is written
  written_since : (steps rest : List Step) (v target : ℕ) → after ≡ steps ++ rest → target ≢ 0 → slice_get (words_in_the_end words (history_of before)) slot ≡ Some v
      → slice_get (words_in_the_end (words_in_the_end words (history_of before)) (history_of steps)) slot ≡ Some target → (v ≡ target) ⊎ Written slot target steps
  written_since steps rest v target e some has found =
      written slot target some steps rest (words_in_the_end words (history_of before)) v now.phases last_phase now.parts
      (subst (λ l. IsShuffleOf now.parts l) e now.shuffled) (subst (λ l. IsLegal (words_in_the_end words (history_of before)) (history_of l)) e (legal_from words before after legal))
      has now.lead (subst (λ n. IsSettled n now.phases) (some-injective now.word v (sym now.found ∙ has)) now.settled) found

-- what is offered is written by an offer
only_offer : (slot word : ℕ) (steps : List Step) → IsTrue (is_offered word) → Written slot word steps → Contains steps (offering slot word)
only_offer slot word steps o (by_offer p c) = c
only_offer slot word steps o (by_acceptance w p e) =
    let a : word % 4 ≡ 1 = offered_tag word o in let b : (w + 1) % 4 ≡ 2 = accepted_tag w (offered_tag w p) in absurd (omega (arith, a, b, e))
only_offer slot word steps o (by_finish w status found p e c) =
    let a : word % 4 ≡ 1 = offered_tag word o in let b : done_word w status % 4 ≡ 3 = done_tag w status (offered_tag w p) in
    let d : word % 4 ≡ done_word w status % 4 = ap (λ n. n % 4) e in absurd (omega (arith, a, b, d))

-- what is done is written by one who leaves it
only_finish : (slot word : ℕ) (steps : List Step) → word % 4 ≡ 3 → Written slot word steps → WasLeft slot word steps
only_finish slot word steps t (by_offer p c) = let a : word % 4 ≡ 1 = offered_tag word p in absurd (omega (arith, a, t))
only_finish slot word steps t (by_acceptance w p e) = let b : (w + 1) % 4 ≡ 2 = accepted_tag w (offered_tag w p) in absurd (omega (arith, t, b, e))
only_finish slot word steps t (by_finish w status found p e c) = record { found = found; left = c }

pub one_server : (pool : Slots) (words : List ℕ) (participants : List (List Step)) (before between after : List Step) (slot first second : ℕ)
    → AreFree pool words → All (KeepsSlots pool) participants
    → IsShuffleOf participants (before ++ acceptance slot first ∷ (between ++ acceptance slot second ∷ after))
    → IsLegal words (history_of (before ++ acceptance slot first ∷ (between ++ acceptance slot second ∷ after)))
    → IsSlotOf pool slot → IsTrue (is_offered first) → IsTrue (is_offered second) → Contains between (offering slot second)
one_server pool words participants before between after slot first second are_free keep shuffled legal at o p =
    only_offer slot second between p (since (written_since pool words participants (before ++ acceptance slot first ∷ []) (between ++ acceptance slot second ∷ after) are_free
    (subst (λ l. IsShuffleOf participants l) parted shuffled) (subst (λ l. IsLegal words (history_of l)) parted legal) keep slot at
    between (acceptance slot second ∷ after) (first + 1) second refl (not_zero second 1 (offered_tag second p) (λ q. omega arith)) accepted_now found_then))
  where
    parted : before ++ acceptance slot first ∷ (between ++ acceptance slot second ∷ after) ≡ (before ++ acceptance slot first ∷ []) ++ (between ++ acceptance slot second ∷ after)
    parted = sym (append_assoc before (acceptance slot first ∷ []) (between ++ acceptance slot second ∷ after))

    rest_legal : IsLegal (words_in_the_end words (history_of before)) (history_of (acceptance slot first ∷ (between ++ acceptance slot second ∷ after)))
    rest_legal = legal_from words before (acceptance slot first ∷ (between ++ acceptance slot second ∷ after)) legal

    accepted_now : slice_get (words_in_the_end words (history_of (before ++ acceptance slot first ∷ []))) slot ≡ Some (first + 1)
    accepted_now = ap (λ l. slice_get l slot) (words_then words before (acceptance slot first))
        ∙ get-set_same (words_in_the_end words (history_of before)) slot first (if first == first then first + 1 else first) rest_legal.0
        ∙ ap (λ b. Some (if b then first + 1 else first)) (eq-eqb first first refl)

    found_then : slice_get (words_in_the_end (words_in_the_end words (history_of (before ++ acceptance slot first ∷ []))) (history_of between)) slot ≡ Some second
    found_then = ap (λ l. slice_get (words_in_the_end l (history_of between)) slot) (words_then words before (acceptance slot first))
        ∙ (legal_from (words_after (words_in_the_end words (history_of before)) (acceptance slot first)) between (acceptance slot second ∷ after) rest_legal.1).0

    since : (first + 1 ≡ second) ⊎ Written slot second between → Written slot second between
    since (inl e) = let a : (first + 1) % 4 ≡ 2 = accepted_tag first (offered_tag first o) in let b : second % 4 ≡ 1 = offered_tag second p in absurd (omega (arith, a, b, e))
    since (inr w) = w

-- whether a step is a swap of a role
abbrev is_swap : Step → Bool
is_swap s = is_swap_by_pool s.side s.kind

-- who empties a slot has seen its word served
emptied : (phases : ℕ → Phase) (i slot word : ℕ) (p next : Phase) → IsSettled word phases → phases i ≡ p → IsMoveAt slot p (collecting slot word) next → (w : ℕ) × (p ≡ seen w)
emptied phases i slot word idle next h q (FromIdle.looked e n) = let a : true ≡ false = ap is_swap e in cc
emptied phases i slot word idle next h q (FromIdle.offered w o e n) = let a : true ≡ false = ap is_swap e in cc
emptied phases i slot word idle next h q (FromIdle.accepted w o e n) = let a : true ≡ false = ap is_swap e in cc
emptied phases i slot word (holds w) next h q (FromHolding.looked e n) = let a : true ≡ false = ap is_swap e in cc
emptied phases i slot word (holds w) next h q (FromHolding.withdrew e n) = let a : true ≡ false = ap is_swap e in cc
emptied phases i slot word (seen w) next h q move = (w, refl)
emptied phases i slot word (serves w) next h q move = let a : 0 ≡ done_word w move.status = ap (λ s. s.first) move.finished in absurd (omega (arith, a))

pub collected_left : (pool : Slots) (words : List ℕ) (participants : List (List Step)) (before after : List Step) (slot word : ℕ)
    → AreFree pool words → All (KeepsSlots pool) participants → IsShuffleOf participants (before ++ collecting slot word ∷ after)
    → IsLegal words (history_of (before ++ collecting slot word ∷ after)) → IsSlotOf pool slot → IsTrue (is_done word) × WasLeft slot word before
collected_left pool words participants before after slot word are_free keep shuffled legal at = (
  eq-eqb (word % 4) 3 is_tag,
  only_finish slot word before is_tag
      (written_before pool words participants before (collecting slot word ∷ after) are_free shuffled legal keep slot at word (not_zero word 3 is_tag (λ q. omega arith)) found),
)
  where
    found : slice_get (words_in_the_end words (history_of before)) slot ≡ Some word
    found = (legal_from words before (collecting slot word ∷ after) legal).0

    m : Moment (λ n. true) slot words 0 (λ k. idle) (last_phase pool words participants before (collecting slot word ∷ after) are_free shuffled legal keep slot at) participants before (collecting slot word ∷ after)
    m = now pool words participants before (collecting slot word ∷ after) are_free shuffled legal keep slot at

    settled : IsSettled word m.phases
    settled = subst (λ n. IsSettled n m.phases) (some-injective m.word word (sym m.found ∙ found)) m.settled

    i : ℕ
    i = m.shuffled.0

    own : PhaseLeads slot (m.phases i) (collecting slot word ∷ m.shuffled.1) (last_phase pool words participants before (collecting slot word ∷ after) are_free shuffled legal keep slot at i)
    own = subst (λ l. PhaseLeads slot (m.phases i) l (last_phase pool words participants before (collecting slot word ∷ after) are_free shuffled legal keep slot at i))
        (get_or_from_slice_get m.parts i (collecting slot word ∷ m.shuffled.1) [] m.shuffled.2) (m.lead i)

    has_seen : IsMove slot (m.phases i) (collecting slot word) own.0 → (w : ℕ) × (m.phases i ≡ seen w)
    has_seen (elsewhere far same) = absurd (far refl)
    has_seen (there here move) = emptied m.phases i slot word (m.phases i) own.0 settled refl move

    tag_of : IsSettled word m.phases → (w : ℕ) → m.phases i ≡ seen w → word % 4 ≡ 3
    tag_of (free z f) w h = let a : m.phases i ≡ idle = f i in cc
    tag_of (offered u c o z hc f) w h = by_place (eqb_tells i c)
      where
        by_place : ((i == c) ≡ true) × (i ≡ c) ⊎ ((i == c) ≡ false) × (i ≢ c) → word % 4 ≡ 3
        by_place (inl e) = let a : m.phases i ≡ holds u = ap m.phases e.1 ∙ hc in cc
        by_place (inr e) = let a : m.phases i ≡ idle = f i e.1 in cc
    tag_of (accepted u c d o z hc hd f) w h = by_place (eqb_tells i c) (eqb_tells i d)
      where
        by_place : ((i == c) ≡ true) × (i ≡ c) ⊎ ((i == c) ≡ false) × (i ≢ c) → ((i == d) ≡ true) × (i ≡ d) ⊎ ((i == d) ≡ false) × (i ≢ d) → word % 4 ≡ 3
        by_place (inl e) b = let a : m.phases i ≡ holds u = ap m.phases e.1 ∙ hc in cc
        by_place (inr e) (inl g) = let a : m.phases i ≡ serves u = ap m.phases g.1 ∙ hd in cc
        by_place (inr e) (inr g) = let a : m.phases i ≡ idle = f i e.1 g.1 in cc
    tag_of (held u status c o z hc f) w h = ap (λ n. n % 4) z ∙ done_tag u status (offered_tag u o)
    tag_of (noticed u status c o z hc f) w h = ap (λ n. n % 4) z ∙ done_tag u status (offered_tag u o)

    is_tag : word % 4 ≡ 3
    is_tag = tag_of settled (has_seen own.1).0 (has_seen own.1).1

-- what is known of a phase, by the steps so far
Known : ℕ → Phase → List Step → Type 0
Known slot idle past = Unit {0}
Known slot (holds w) past = Unit {0}
Known slot (seen w) past = Unit {0}
Known slot (serves w) past = HasAccepted slot w past

known_elsewhere : (slot : ℕ) (p : Phase) (past : List Step) (s : Step) → s.index ≢ slot → Known slot p past → Known slot p (past ++ s ∷ [])
unfolding Known
known_elsewhere slot idle past s far h = tt
known_elsewhere slot (holds w) past s far h = tt
known_elsewhere slot (seen w) past s far h = tt
known_elsewhere slot (serves w) past s far h = record {
  offered = h.offered;
  before = h.before;
  since = h.since ++ s ∷ [];
  parted = ap (λ l. l ++ s ∷ []) h.parted ∙ append_assoc h.before (acceptance slot w ∷ h.since) (s ∷ []);
  elsewhere = All-push (λ (u : Step). u.index ≢ slot) h.since s h.elsewhere far;
}

known_offer : (slot w : ℕ) (b : Bool) (past : List Step) → Known slot (if b then holds w else idle) past
unfolding Known
known_offer slot w true past = tt
known_offer slot w false past = tt

known_accept : (slot w : ℕ) (s : Step) (b : Bool) (past : List Step) → IsTrue (is_offered w) → (s.answer == w) ≡ b → IsAnswerTo (cas_of Pool slot w (w + 1)) s → Known slot (if b then serves w else idle) (past ++ s ∷ [])
unfolding Known
known_accept slot w s true past o h e =
    let same : s ≡ acceptance slot w = e ∙ ap (λ n. step_of (cas_of Pool slot w (w + 1)) n) (eqb-true s.answer w h) in
    record { offered = o; before = past; since = []; parted = ap (λ u. past ++ u ∷ []) same; elsewhere = All-nil (λ (u : Step). u.index ≢ slot) }
known_accept slot w s false past o h e = tt

known_look : (slot w : ℕ) (b : Bool) (past : List Step) → Known slot (if b then seen w else holds w) past
unfolding Known
known_look slot w true past = tt
known_look slot w false past = tt

known_withdraw : (slot w : ℕ) (b : Bool) (past : List Step) → Known slot (if b then idle else holds w) past
unfolding Known
known_withdraw slot w true past = tt
known_withdraw slot w false past = tt

known_idle : (slot : ℕ) (past : List Step) → Known slot idle past
unfolding Known
known_idle slot past = tt

known_there : (slot : ℕ) (p next : Phase) (past : List Step) (s : Step) → IsMoveAt slot p s next → Known slot next (past ++ s ∷ [])
known_there slot idle next past s (FromIdle.looked e n) = subst (λ q. Known slot q (past ++ s ∷ [])) (sym n) (known_idle slot (past ++ s ∷ []))
known_there slot idle next past s (FromIdle.offered w o e n) = subst (λ q. Known slot q (past ++ s ∷ [])) (sym n) (known_offer slot w (s.answer == 0) (past ++ s ∷ []))
known_there slot idle next past s (FromIdle.accepted w o e n) = subst (λ q. Known slot q (past ++ s ∷ [])) (sym n) (known_accept slot w s (s.answer == w) past o refl e)
known_there slot (holds w) next past s (FromHolding.looked e n) = subst (λ q. Known slot q (past ++ s ∷ [])) (sym n) (known_look slot w (is_done s.answer) (past ++ s ∷ []))
known_there slot (holds w) next past s (FromHolding.withdrew e n) = subst (λ q. Known slot q (past ++ s ∷ [])) (sym n) (known_withdraw slot w (s.answer == w) (past ++ s ∷ []))
known_there slot (seen w) next past s move = subst (λ q. Known slot q (past ++ s ∷ [])) (sym move.is_idle) (known_idle slot (past ++ s ∷ []))
known_there slot (serves w) next past s move = subst (λ q. Known slot q (past ++ s ∷ [])) (sym move.is_idle) (known_idle slot (past ++ s ∷ []))

known_after : (slot : ℕ) (p next : Phase) (past : List Step) (s : Step) → IsMove slot p s next → Known slot p past → Known slot next (past ++ s ∷ [])
known_after slot p next past s (elsewhere far same) h = subst (λ q. Known slot q (past ++ s ∷ [])) (sym same) (known_elsewhere slot p past s far h)
known_after slot p next past s (there here move) h = known_there slot p next past s move

-- who leaves a done word has accepted its call
left_there : (slot word found : ℕ) (p next : Phase) (past : List Step) → IsTrue (is_done word) → IsMoveAt slot p (leaving slot word found) next → Known slot p past → IsServedWord slot word past
unfolding Known
left_there slot word found idle next past d (FromIdle.looked e n) h = let a : true ≡ false = ap is_swap e in cc
left_there slot word found idle next past d (FromIdle.offered w o e n) h = let a : true ≡ false = ap is_swap e in cc
left_there slot word found idle next past d (FromIdle.accepted w o e n) h = let a : true ≡ false = ap is_swap e in cc
left_there slot word found (holds w) next past d (FromHolding.looked e n) h = let a : true ≡ false = ap is_swap e in cc
left_there slot word found (holds w) next past d (FromHolding.withdrew e n) h = let a : true ≡ false = ap is_swap e in cc
left_there slot word found (seen w) next past d move h =
    let a : word ≡ 0 = ap (λ s. s.first) move.collected in let b : word % 4 ≡ 3 = is_done-tag word d in absurd (omega (arith, a, b))
left_there slot word found (serves w) next past d move h = record { accepted = w; status = move.status; is_done = ap (λ s. s.first) move.finished; has_accepted = h }

left_word : (slot word found : ℕ) (p next : Phase) (past : List Step) → IsTrue (is_done word) → IsMove slot p (leaving slot word found) next → Known slot p past → IsServedWord slot word past
left_word slot word found p next past d (elsewhere far same) h = absurd (far refl)
left_word slot word found p next past d (there here move) h = left_there slot word found p next past d move h

served_from : (slot word found : ℕ) (p last : Phase) (past before rest : List Step) → PhaseLeads slot p (before ++ leaving slot word found ∷ rest) last → Known slot p past
    → IsTrue (is_done word) → IsServedWord slot word (past ++ before)
served_from slot word found p last past [] rest leads h d =
    subst (IsServedWord slot word) (sym (append-nil past)) (left_word slot word found p leads.0 past d leads.1 h)
served_from slot word found p last past (s ∷ before) rest leads h d =
    subst (IsServedWord slot word) (append_assoc past (s ∷ []) before)
    (served_from slot word found leads.0 last (past ++ s ∷ []) before rest leads.2 (known_after slot p leads.0 past s leads.1 h) d)

pub served_word : (slot word found : ℕ) (log past rest : List Step) (last : Phase) → KeepsSlot slot log last → log ≡ past ++ leaving slot word found ∷ rest → IsTrue (is_done word) → IsServedWord slot word past
served_word slot word found log past rest last keep e d =
    served_from slot word found idle last [] past rest (subst (λ l. PhaseLeads slot idle l last) e keep) (known_idle slot []) d
