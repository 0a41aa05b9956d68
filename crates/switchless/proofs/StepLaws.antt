-- Single steps of callers and workers.
use Rattle.std.proofs.Common.{ℕ, ◌+◌, ◌≡◌, ◌==◌, Bool, true, false, if◌then◌else◌, List, [], ◌∷◌, ◌++◌, map, Option, Some, None, refl, ap, sym, ◌∙◌, subst, arith, append-nil}
use Rattle.std.specs.List.{Contains}
use Rattle.std.proofs.lemmas.List.Elements.{Contains-push}
use Rattle.word_port.specs.declared.Step.{Step}
use Rattle.word_port.specs.declared.RunFull.TheVariants.{Steps}
use Rattle.word_port.specs.declared.Side.TheVariants.{Pool}
use Rattle.word_port.specs.Requests.{step_of, load_of}
use Rattle.word_port.specs.Port.{PortState, with_steps}
use Rattle.word_port.specs.Events.{made}
use Rattle.word_port.specs.Interaction.{Interaction, ret, map_value, IsAfter}
use Rattle.word_port.specs.Limits.{WantsNext}
use Rattle.word_port.specs.Accesses.{load, swap, cas}
use Rattle.word_port.specs.Runs.{Leads, Makes, StopsFull}
use Rattle.word_port.proofs.Laws.{makes_then, makes_ret, full_first}
use Rattle.switchless.specs.Slots.{slot_word, place_of_frame, offered_word, status_in, is_done, is_offered, done_word}
use Rattle.switchless.specs.Tasks.{IsPastHost, HasSeenDone}
use Rattle.switchless.specs.Caller.{look, withdraw, collect}
use Rattle.switchless.specs.Worker.{scan, accept, finish}

value_made : {A B : Type 0} (f : A → B) (t : Interaction A) (old new : PortState) (x : A) (y : B) → y ≡ f x → Makes t old new x → Makes (map_value f t) old new y
value_made f t old new x y e h = subst (λ v. Makes (map_value f t) old new v) (sym e) (makes_then t (λ v. ret (f v)) old new new x (f x) h (makes_ret (f x) new))

value_full : {A B : Type 0} (f : A → B) (t : Interaction A) (old new : PortState) → StopsFull t old new → StopsFull (map_value f t) old new
value_full f t old new h = full_first t (λ v. ret (f v)) old new h

pub look_made : (slot word : ℕ) (done : Bool) (old new : PortState) → done ≡ is_done word → Makes (load Pool slot) old new word → Makes (look slot) old new done
unfolding look
look_made slot word done old new e h = value_made is_done (load Pool slot) old new word done e h

pub look_full : (slot : ℕ) (old new : PortState) → StopsFull (load Pool slot) old new → StopsFull (look slot) old new
unfolding look
look_full slot old new h = value_full is_done (load Pool slot) old new h

pub withdraw_made : (slot word offered found : ℕ) (old new : PortState) → offered ≡ word → Makes (cas Pool slot offered 0) old new found → Makes (withdraw slot word) old new (found == offered)
unfolding withdraw
withdraw_made slot word offered found old new e h =
    subst (λ w. Makes (map_value (λ n. n == w) (cas Pool slot w 0)) old new (found == offered)) e
    (value_made (λ n. n == offered) (cas Pool slot offered 0) old new found (found == offered) refl h)

pub withdraw_full : (slot word offered : ℕ) (old new : PortState) → offered ≡ word → StopsFull (cas Pool slot offered 0) old new → StopsFull (withdraw slot word) old new
unfolding withdraw
withdraw_full slot word offered old new e h = subst (λ w. StopsFull (map_value (λ n. n == w) (cas Pool slot w 0)) old new) e (value_full (λ n. n == offered) (cas Pool slot offered 0) old new h)

pub collect_made : (slot word status : ℕ) (old new : PortState) → status ≡ status_in word → Makes (swap Pool slot 0) old new word → Makes (collect slot) old new status
unfolding collect
collect_made slot word status old new e h = value_made status_in (swap Pool slot 0) old new word status e h

pub collect_full : (slot : ℕ) (old new : PortState) → StopsFull (swap Pool slot 0) old new → StopsFull (collect slot) old new
unfolding collect
collect_full slot old new h = value_full status_in (swap Pool slot 0) old new h

abbrev seen_in : ℕ → Option ℕ
seen_in word = if is_offered word then Some word else None

pub scan_none : (slot word : ℕ) (old new : PortState) → is_offered word ≡ false → Makes (load Pool slot) old new word → Makes (scan slot) old new None
unfolding scan
scan_none slot word old new e h = value_made seen_in (load Pool slot) old new word None (sym (ap (λ b. if b then Some word else None) e)) h

pub scan_some : (slot word told : ℕ) (old new : PortState) → is_offered word ≡ true → told ≡ word → Makes (load Pool slot) old new word → Makes (scan slot) old new (Some told)
unfolding scan
scan_some slot word told old new e q h = value_made seen_in (load Pool slot) old new word (Some told) (ap (λ n. Some n) q ∙ sym (ap (λ b. if b then Some word else None) e)) h

pub scan_full : (slot : ℕ) (old new : PortState) → StopsFull (load Pool slot) old new → StopsFull (scan slot) old new
unfolding scan
scan_full slot old new h = value_full seen_in (load Pool slot) old new h

-- the word of an accepted call, and of one that is done
accepted_is : (ordinal place : ℕ) → slot_word 2 ordinal place 0 ≡ slot_word 1 ordinal place 0 + 1
accepted_is ordinal place = omega arith

done_is : (ordinal place status : ℕ) → slot_word 3 ordinal place status ≡ done_word (slot_word 1 ordinal place 0) status
done_is ordinal place status = omega arith

pub accept_made : (slot ordinal frame offered accepted found : ℕ) (old new : PortState) → offered ≡ offered_word ordinal frame → accepted ≡ slot_word 2 ordinal (place_of_frame frame) 0
    → Makes (cas Pool slot offered accepted) old new found → Makes (accept slot (offered_word ordinal frame)) old new (found == offered)
unfolding accept
accept_made slot ordinal frame offered accepted found old new e q h =
    let next : accepted ≡ offered + 1 = q ∙ accepted_is ordinal (place_of_frame frame) ∙ ap (λ n. n + 1) (sym e) in
    subst (λ w. Makes (map_value (λ n. n == w) (cas Pool slot w (w + 1))) old new (found == offered)) e
    (subst (λ a. Makes (map_value (λ n. n == offered) (cas Pool slot offered a)) old new (found == offered)) next
    (value_made (λ n. n == offered) (cas Pool slot offered accepted) old new found (found == offered) refl h))

pub accept_full : (slot ordinal frame offered accepted : ℕ) (old new : PortState) → offered ≡ offered_word ordinal frame → accepted ≡ slot_word 2 ordinal (place_of_frame frame) 0
    → StopsFull (cas Pool slot offered accepted) old new → StopsFull (accept slot (offered_word ordinal frame)) old new
unfolding accept
accept_full slot ordinal frame offered accepted old new e q h =
    let next : accepted ≡ offered + 1 = q ∙ accepted_is ordinal (place_of_frame frame) ∙ ap (λ n. n + 1) (sym e) in
    subst (λ w. StopsFull (map_value (λ n. n == w) (cas Pool slot w (w + 1))) old new) e
    (subst (λ a. StopsFull (map_value (λ n. n == offered) (cas Pool slot offered a)) old new) next
    (value_full (λ n. n == offered) (cas Pool slot offered accepted) old new h))

pub finish_made : (slot ordinal frame status done found : ℕ) (old new : PortState) → done ≡ slot_word 3 ordinal (place_of_frame frame) status
    → Makes (swap Pool slot done) old new found → Makes (finish slot (offered_word ordinal frame) status) old new tt
unfolding finish
finish_made slot ordinal frame status done found old new e h =
    subst (λ w. Makes (map_value (λ n. tt) (swap Pool slot w)) old new tt) (e ∙ done_is ordinal (place_of_frame frame) status)
    (value_made (λ n. tt) (swap Pool slot done) old new found tt refl h)

pub finish_full : (slot ordinal frame status done : ℕ) (old new : PortState) → done ≡ slot_word 3 ordinal (place_of_frame frame) status
    → StopsFull (swap Pool slot done) old new → StopsFull (finish slot (offered_word ordinal frame) status) old new
unfolding finish
finish_full slot ordinal frame status done old new e h =
    subst (λ w. StopsFull (map_value (λ n. tt) (swap Pool slot w)) old new) (e ∙ done_is ordinal (place_of_frame frame) status)
    (value_full (λ n. tt) (swap Pool slot done) old new h)

one_load : (slot word : ℕ) (steps : List Step) (old new : PortState) → new ≡ with_steps old steps → IsAfter (load Pool slot) (map made steps) (ret word) → Contains new.log (step_of (load_of Pool slot) word)
one_load slot word [] old new e h = cc
one_load slot word (s ∷ []) old new e h =
    let answer : s.answer ≡ word = cc in
    let same : s ≡ step_of (load_of Pool slot) word = h.0 ∙ ap (step_of (load_of Pool slot)) answer in
    subst (λ l. Contains l (step_of (load_of Pool slot) word)) (sym (ap (λ p. p.log) e ∙ ap (λ u. old.log ++ u ∷ []) same)) (Contains-push old.log (step_of (load_of Pool slot) word))
one_load slot word (s ∷ t ∷ steps) old new e h = absurd h.1

-- a look that found the word done stands in the log
pub look_seen : (slot word : ℕ) (old new : PortState) → Makes (load Pool slot) old new word → is_done word ≡ true → HasSeenDone slot new.log
look_seen slot word old new h e = (word, e, one_load slot word h.steps old new h.grown h.after)

-- the slot stays a word past the host bytes
pub past_host_on : {A : Type 0} (t rest : Interaction A) (slot : ℕ) (old new : PortState) → Leads t old new rest → IsPastHost old slot → IsPastHost new slot
past_host_on t rest slot old new h p = subst (λ s. IsPastHost s slot) (sym h.grown) p

no_look_made : (slot : ℕ) (steps : List Step) (rest : Interaction Bool) → IsAfter (look slot) (map made steps) rest → WantsNext Steps rest → steps ≡ []
unfolding look
no_look_made slot [] rest h w = refl
no_look_made slot (s ∷ []) rest h w = absurd (subst (λ t. WantsNext Steps t) (sym h.1) w)
no_look_made slot (s ∷ t ∷ steps) rest h w = absurd h.1

-- a look that finds the log full makes no step
pub look_unmoved : (slot : ℕ) (old new : PortState) → StopsFull (look slot) old new → new ≡ old
look_unmoved slot old new h =
    h.grown ∙ ap (λ l. with_steps old l) (no_look_made slot h.steps h.rest h.after h.wants) ∙ ap (λ l. record old { log = l }) (append-nil old.log)
