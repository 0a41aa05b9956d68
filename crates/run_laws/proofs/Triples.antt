-- What holds of every run of a behaviour from a given log on, by the behaviour's parts.
use Rattle.std.proofs.Common.{ℕ, suc, ◌+◌, ◌≡◌, List, [], ◌∷◌, ◌++◌, length, ap, sym, ◌∙◌, subst, arith, add-zero, append-nil, length-append}
use Rattle.word_port.specs.declared.Step.{Step}
use Rattle.word_port.specs.Events.{Event, made, ticked, placed, steps_of, HasPlaces, Tick}
use Rattle.word_port.specs.Interaction.{Interaction, ret, here, tick, and_then, map_value, IsRun, AllRequests}
use Rattle.word_port.specs.Requests.{Request}
use Rattle.word_port.proofs.Laws.{steps_of-append}
use Rattle.word_port.proofs.OneRun.{not_ended}
use Rattle.word_port.proofs.RequestLaws.{AllSteps, steps_of_run}
use Rattle.call_laws.proofs.RunParts.{IsTwoRuns, two_runs, ret_run}

-- every run of the behaviour from this log on has steps and a value of which this holds
abbrev pub Ensures : {A : Type 0} → List Step → (List Step → A → Type 0) → Interaction A → Type 0
Ensures {A} before Q t = (events : List Event) (x : A) → IsRun t events x → HasPlaces (length before) events → Q (steps_of events) x

-- the places of two parts
pub places_split : (n : ℕ) (xs ys : List Event) → HasPlaces n (xs ++ ys) → HasPlaces n xs × HasPlaces (n + length (steps_of xs)) ys
places_split n [] ys h = (tt, subst (λ k. HasPlaces k ys) (sym (add-zero n)) h)
places_split n (made s ∷ xs) ys h =
    let next : (n + 1) + length (steps_of xs) ≡ n + suc (length (steps_of xs)) = omega arith in
    let r : HasPlaces (n + 1) xs × HasPlaces ((n + 1) + length (steps_of xs)) ys = places_split (n + 1) xs ys h in
    (r.0, subst (λ k. HasPlaces k ys) next r.1)
places_split n (ticked k ∷ xs) ys h = places_split n xs ys h
places_split n (placed k ∷ xs) ys h =
    let r : HasPlaces n xs × HasPlaces (n + length (steps_of xs)) ys = places_split n xs ys h.1 in
    ((h.0, r.0), r.1)

-- it has ended
pub ensures_ret : {A : Type 0} (before : List Step) (Q : List Step → A → Type 0) (x : A) → Q [] x → Ensures before Q (ret x)
ensures_ret {A} before Q x q events y h places =
    let end : (events ≡ []) × (x ≡ y) = ret_run x events y h in
    let steps_are : [] ≡ steps_of events = sym (ap (λ es. steps_of es) end.0) in
    subst (λ (z : A). Q (steps_of events) z) end.1 (subst (λ (steps : List Step). Q steps x) steps_are q)

-- one after another
pub ensures_then : {A B : Type 0} (before : List Step) (P : List Step → A → Type 0) (Q : List Step → B → Type 0) (t : Interaction A) (f : A → Interaction B)
    → Ensures before P t → ((steps : List Step) (x : A) → P steps x → Ensures (before ++ steps) (λ more y. Q (steps ++ more) y) (f x)) → Ensures before Q (and_then t f)
ensures_then {A} {B} before P Q t f p q events y h places =
    let r : IsTwoRuns t f events y = two_runs t f events y h in
    let all : HasPlaces (length before) (r.first ++ r.rest) = subst (λ es. HasPlaces (length before) es) r.events_are places in
    let both : HasPlaces (length before) r.first × HasPlaces (length before + length (steps_of r.first)) r.rest = places_split (length before) r.first r.rest all in
    let later : HasPlaces (length (before ++ steps_of r.first)) r.rest = subst (λ k. HasPlaces k r.rest) (sym (length-append before (steps_of r.first))) both.1 in
    let steps_are : steps_of r.first ++ steps_of r.rest ≡ steps_of events = sym (ap (λ es. steps_of es) r.events_are ∙ steps_of-append r.first r.rest) in
    subst (λ (steps : List Step). Q steps y) steps_are
    (q (steps_of r.first) r.middle (p r.first r.middle r.first_run both.0) r.rest y r.rest_run later)

-- with its value changed
pub ensures_map : {A B : Type 0} (before : List Step) (P : List Step → A → Type 0) (Q : List Step → B → Type 0) (f : A → B) (t : Interaction A)
    → Ensures before P t → ((steps : List Step) (x : A) → P steps x → Q steps (f x)) → Ensures before Q (map_value f t)
ensures_map before P Q f t p q =
    ensures_then before P Q t (λ x. ret (f x)) p (λ steps x r.
    ensures_ret (before ++ steps) (λ more y. Q (steps ++ more) y) (f x) (subst (λ l. Q l (f x)) (sym (append-nil steps)) (q steps x r)))

-- the place is read
pub ensures_here : {A : Type 0} (before : List Step) (Q : List Step → A → Type 0) (next : ℕ → Interaction A) → Ensures before Q (next (length before)) → Ensures before Q (here next)
ensures_here before Q next p [] y h places = absurd (not_ended (here next) y h)
ensures_here before Q next p (made s ∷ es) y h places = absurd h
ensures_here before Q next p (ticked k ∷ es) y h places = absurd h
ensures_here before Q next p (placed n ∷ es) y h places = p es y (subst (λ k. IsRun (next k) es y) places.0 h) places.1

-- a tick
pub ensures_tick : {A : Type 0} (before : List Step) (Q : List Step → A → Type 0) (k : Tick) (rest : Interaction A) → Ensures before Q rest → Ensures before Q (tick k rest)
ensures_tick before Q k rest p [] y h places = absurd (not_ended (tick k rest) y h)
ensures_tick before Q k rest p (made s ∷ es) y h places = absurd h
ensures_tick before Q k rest p (ticked j ∷ es) y h places = p es y h.1 places
ensures_tick before Q k rest p (placed n ∷ es) y h places = absurd h

-- what holds of each request holds of each step
pub ensures_requests : {A : Type 0} (before : List Step) (P : Request → Type 0) (t : Interaction A) → AllRequests P t → Ensures before (λ steps x. AllSteps P steps) t
ensures_requests before P t p events x h places = steps_of_run P t (ret x) events p h

-- a weaker fact
pub ensures_weaker : {A : Type 0} (before : List Step) (P Q : List Step → A → Type 0) (t : Interaction A)
    → ((steps : List Step) (x : A) → P steps x → Q steps x) → Ensures before P t → Ensures before Q t
ensures_weaker before P Q t f p events x h places = f (steps_of events) x (p events x h places)
