-- The parts of a run, in order.
use Rattle.std.proofs.Common.{ℕ, ◌≡◌, ◌⊎◌, inl, inr, Bool, true, false, if◌then◌else◌, List, [], ◌∷◌, ◌++◌, Option, Some, None, Result, Err, refl, ap, sym, ◌∙◌, subst, append-nil}
use Rattle.sgx_base.specs.Rows.{unless_refused}
use Rattle.sgx_base.specs.declared.Status.{Status}
use Rattle.word_port.specs.Events.{Event, made, ticked, placed}
use Rattle.word_port.specs.Interaction.{Interaction, ret, ask, here, tick, and_then, map_value, IsRun}
use Rattle.word_port.proofs.OneRun.{ret-injective, not_ended}
use Rattle.call_machine.specs.Result.{go_on_if_ok}

-- a run of one behaviour and then of another
pub record IsTwoRuns {A B : Type 0} (t : Interaction A) (f : A → Interaction B) (events : List Event) (y : B) : Type 0 where
  pub middle : A
  pub first : List Event
  pub rest : List Event
  pub events_are : events ≡ first ++ rest
  pub first_run : IsRun t first middle
  pub rest_run : IsRun (f middle) rest y

pub two_runs : {A B : Type 0} (t : Interaction A) (f : A → Interaction B) (events : List Event) (y : B) → IsRun (and_then t f) events y → IsTwoRuns t f events y
two_runs (ret x) f events y h = record { middle = x; first = []; rest = events; events_are = refl; first_run = refl; rest_run = h }
two_runs (ask q next) f [] y h = absurd (not_ended (ask q (λ n. and_then (next n) f)) y h)
two_runs (ask q next) f (made s ∷ es) y h =
    let r = two_runs (next s.answer) f es y h.1 in
    record {
      middle = r.middle;
      first = made s ∷ r.first;
      rest = r.rest;
      events_are = ap (λ l. made s ∷ l) r.events_are;
      first_run = (h.0, r.first_run);
      rest_run = r.rest_run;
    }
two_runs (ask q next) f (ticked k ∷ es) y h = absurd h
two_runs (ask q next) f (placed n ∷ es) y h = absurd h
two_runs (here next) f [] y h = absurd (not_ended (here (λ n. and_then (next n) f)) y h)
two_runs (here next) f (made s ∷ es) y h = absurd h
two_runs (here next) f (ticked k ∷ es) y h = absurd h
two_runs (here next) f (placed n ∷ es) y h =
    let r = two_runs (next n) f es y h in
    record {
      middle = r.middle;
      first = placed n ∷ r.first;
      rest = r.rest;
      events_are = ap (λ l. placed n ∷ l) r.events_are;
      first_run = r.first_run;
      rest_run = r.rest_run;
    }
two_runs (tick k next) f [] y h = absurd (not_ended (tick k (and_then next f)) y h)
two_runs (tick k next) f (made s ∷ es) y h = absurd h
two_runs (tick k next) f (ticked j ∷ es) y h =
    let r = two_runs next f es y h.1 in
    record {
      middle = r.middle;
      first = ticked j ∷ r.first;
      rest = r.rest;
      events_are = ap (λ l. ticked j ∷ l) r.events_are;
      first_run = (h.0, r.first_run);
      rest_run = r.rest_run;
    }
two_runs (tick k next) f (placed n ∷ es) y h = absurd h

-- a behaviour that has ended
pub ret_run : {A : Type 0} (x : A) (events : List Event) (y : A) → IsRun (ret x) events y → (events ≡ []) × (x ≡ y)
ret_run x [] y h = (refl, ret-injective x y h)
ret_run x (e ∷ es) y h = absurd h

-- a run whose value is changed
pub record IsMappedRun {A B : Type 0} (f : A → B) (t : Interaction A) (events : List Event) (y : B) : Type 0 where
  pub value : A
  pub run : IsRun t events value
  pub value_is : f value ≡ y

pub mapped_run : {A B : Type 0} (f : A → B) (t : Interaction A) (events : List Event) (y : B) → IsRun (map_value f t) events y → IsMappedRun f t events y
mapped_run {A} {B} f t events y h =
    let r : IsTwoRuns t (λ x. ret (f x)) events y = two_runs t (λ x. ret (f x)) events y h in
    let end : (r.rest ≡ []) × (f r.middle ≡ y) = ret_run (f r.middle) r.rest y r.rest_run in
    let all : events ≡ r.first = r.events_are ∙ ap (λ l. r.first ++ l) end.0 ∙ append-nil r.first in
    record { value = r.middle; run = subst (λ es. IsRun t es r.middle) (sym all) r.first_run; value_is = end.1 }

-- the number of steps is read first
pub record IsPlacedRun {A : Type 0} (next : ℕ → Interaction A) (events : List Event) (y : A) : Type 0 where
  pub place : ℕ
  pub rest : List Event
  pub run : IsRun (next place) rest y
  pub events_are : events ≡ placed place ∷ rest

pub placed_run : {A : Type 0} (next : ℕ → Interaction A) (events : List Event) (y : A) → IsRun (here next) events y → IsPlacedRun next events y
placed_run next [] y h = absurd (not_ended (here next) y h)
placed_run next (made s ∷ es) y h = absurd h
placed_run next (ticked k ∷ es) y h = absurd h
placed_run next (placed n ∷ es) y h = record { place = n; rest = es; run = h; events_are = refl }

-- rows that refuse it, or allow it
abbrev pub IsAllowedRun : {B : Type 0} → Option Status → (Unit {0} → Interaction (Result B Status)) → List Event → Result B Status → Type 0
IsAllowedRun o next events y = ((o ≡ None) × IsRun (next tt) events y) ⊎ ((status : Status) × (o ≡ Some status) × (events ≡ []) × (Err status ≡ y))

pub allowed_run : {B : Type 0} (o : Option Status) (next : Unit {0} → Interaction (Result B Status)) (events : List Event) (y : Result B Status)
    → IsRun (go_on_if_ok next (unless_refused o)) events y → IsAllowedRun o next events y
allowed_run None next events y h = inl (refl, h)
allowed_run {B} (Some status) next events y h =
    let end : (events ≡ []) × (Err status ≡ y) = ret_run (Err status) events y h in
    inr (status, refl, end.0, end.1)

-- a row in front of rows of which none holds does not hold
pub row_fails : (b : Bool) (x : Status) (o : Option Status) → (if b then Some x else o) ≡ None → b ≡ false
row_fails true x o e = cc
row_fails false x o e = refl
