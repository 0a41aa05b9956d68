-- The loads and stores of an ECALL outside its body are on host memory.
use Rattle.std.proofs.Common.{ℕ, zero, suc, ◌+◌, ◌-◌, ◌≡◌, ◌<◌, ◌≤◌, ◌&&◌, ◌||◌, ◌==◌, not, ◌⊎◌, inl, inr, Bool, true, false, if◌then◌else◌, List, [], ◌∷◌, ◌++◌, length, Option, Some, None, slice_get, refl, sym, subst, arith}
use Rattle.std.specs.Prelude.{IsTrue}
use Rattle.std.specs.List.{AllByRecursion, list_any}
use Rattle.sgx_base.specs.Bytes.{rounded_size}
use Rattle.sgx_base.specs.Ranges.{IsMapped, is_outside, is_mapped, is_host_range}
use Rattle.sgx_base.proofs.RangesAgree.{mapped_agrees}
use Rattle.sgx_base.specs.Rows.{Row, first_row}
use Rattle.sgx_base.specs.declared.Status.{Status}
use Rattle.edl_interface.specs.declared.Function.{Function}
use Rattle.edl_interface.specs.declared.Param.{Param}
use Rattle.edl_interface.specs.Parameters.{marshalled, has_frame, is_in, address_in, return_size}
use Rattle.edl_interface.specs.Lengths.{length_in, copied_length}
use Rattle.edl_interface.specs.Runnable.{IsRunnableFunction}
use Rattle.word_port.specs.declared.Step.{Step}
use Rattle.word_port.specs.Events.{Event, steps_of}
use Rattle.word_port.proofs.Laws.{steps_of-append}
use Rattle.call_machine.specs.declared.Machine.{Machine}
use Rattle.call_machine.specs.Context.{Context}
use Rattle.call_machine.specs.Refusal.{frame_rows, field_rows}
use Rattle.call_laws.specs.Transfers.{loads_of, AreFirstBytes}
use Rattle.call_laws.specs.Copying.{room_after, AreCopiedIn}
use Rattle.call_laws.specs.Refusing.{IsRefusedParam, IsRefusedCopying, IsRefusedLoaded, IsRefusedAfterFrame, IsRefusedRun}
use Rattle.call_laws.specs.Within.{IsWordIn, IsInAnswer}
use Rattle.run_laws.proofs.Stored.{all_append}

-- the step is on a byte of a host memory of this size
abbrev pub InHost : ℕ → Step → Type 0
InHost host s = s.index < host

abbrev AreInHost : ℕ → List Event → Type 0
AreInHost host events = AllByRecursion (InHost host) (steps_of events)

no_events : (host : ℕ) (events : List Event) → events ≡ [] → AreInHost host events
no_events host events e = subst (λ es. AreInHost host es) (sym e) tt

more_events : (host : ℕ) (xs ys : List Event) → AreInHost host xs → AreInHost host ys → AreInHost host (xs ++ ys)
more_events host xs ys p q = subst (λ l. AllByRecursion (InHost host) l) (sym (steps_of-append xs ys)) (all_append (InHost host) (steps_of xs) (steps_of ys) p q)

-- where no row holds, none of them does
one_fails : (b : Bool) (x : Status) (o : Option Status) → (if b then Some x else o) ≡ None → (b ≡ false) × (o ≡ None)
one_fails true x o e = cc
one_fails false x o e = (refl, e)

pub rows_fail : (rows : List Row) → first_row rows ≡ None → AllByRecursion (λ r. r.holds ≡ false) rows
rows_fail [] e = tt
rows_fail (r ∷ rows) e = let both : (r.holds ≡ false) × (first_row rows ≡ None) = one_fails r.holds r.status (first_row rows) e in (both.0, rows_fail rows both.1)

or_false : (a b : Bool) → (a || b) ≡ false → (a ≡ false) × (b ≡ false)
or_false true b e = cc
or_false false b e = (refl, e)

none_passes : (test : Param → Bool) (params : List Param) → list_any test params ≡ false → AllByRecursion (λ p. test p ≡ false) params
none_passes test [] e = tt
none_passes test (p ∷ params) e = let both : (test p ≡ false) × (list_any test params ≡ false) = or_false (test p) (list_any test params) e in (both.0, none_passes test params both.1)

-- a word of a range of host memory
word_in : (host a n index : ℕ) → IsMapped host a n → IsWordIn a n index → index < host
word_in host a n index mapped (x, inside, e) =
    let at : (0x10000 ≤ x) × (x < 0x10000 + host) = mapped x inside in
    let low : 0x10000 ≤ x = at.0 in
    let high : x < 0x10000 + host = at.1 in
    let same : index ≡ x - 0x10000 = e in
    omega (arith, low, high, same)

fewer : (host a n k : ℕ) → k ≤ n → IsMapped host a n → IsMapped host a k
fewer host a n k le mapped x inside =
    let low : a ≤ x = inside.0 in
    let high : x < a + k = inside.1 in
    mapped x (low, omega (arith, high, le))

loads_in : (host address : ℕ) (bytes : List ℕ) → IsMapped host address (length bytes) → AreInHost host (loads_of address bytes)
loads_in host address [] mapped = tt
loads_in host address (b ∷ bytes) mapped = (
  word_in host address (suc (length bytes)) (address - 0x10000) mapped (address, (omega arith, omega arith), refl),
  loads_in host (address + 1) bytes (λ x inside.
      let low : address + 1 ≤ x = inside.0 in
      let high : x < (address + 1) + length bytes = inside.1 in
      mapped x (omega (arith, low), omega (arith, high))),
)

first_in : (inward : Bool) (host address : ℕ) (bytes : List ℕ) (events : List Event) → AreFirstBytes inward address bytes events → IsMapped host address (length bytes) → AreInHost host events
first_in true host address bytes events h mapped = subst (λ es. AreInHost host es) (sym h) (loads_in host address bytes mapped)
first_in false host address bytes events h mapped = no_events host events h.1

-- the range of a parameter that has a block is host memory
abbrev pub Placed : ℕ → Function → List ℕ → Param → Type 0
Placed host f frame p = ¬ (copied_length f frame p ≡ 0) → IsMapped host (address_in frame p) (length_in f frame p)

not_null : (b : Bool) (n : ℕ) → ¬ ((if b then 0 else n) ≡ 0) → b ≡ false
not_null true n h = absurd (h refl)
not_null false n h = refl

mapped_there : (null outside mapped : Bool) → (not null && not (outside && mapped)) ≡ false → null ≡ false → IsTrue mapped
mapped_there true outside mapped e n = cc
mapped_there false true true e n = refl
mapped_there false true false e n = cc
mapped_there false false mapped e n = cc

placed_params : (host : ℕ) (f : Function) (frame : List ℕ) (params : List Param)
    → AllByRecursion (λ p. (not (address_in frame p == 0) && not (is_host_range host (address_in frame p) (length_in f frame p))) ≡ false) params → AllByRecursion (Placed host f frame) params
placed_params host f frame [] h = tt
placed_params host f frame (p ∷ params) h = (
  λ some. (mapped_agrees host (address_in frame p) (length_in f frame p)).0
      (mapped_there (address_in frame p == 0) (is_outside (address_in frame p) (length_in f frame p)) (is_mapped host (address_in frame p) (length_in f frame p)) h.0
      (not_null (address_in frame p == 0) (length_in f frame p) some)),
  placed_params host f frame params h.1,
)

pub all_placed : (host : ℕ) (f : Function) (frame : List ℕ) → first_row (field_rows host f frame) ≡ None → AllByRecursion (Placed host f frame) (marshalled f)
all_placed host f frame e =
    placed_params host f frame (marshalled f)
    (none_passes (λ p. not (address_in frame p == 0) && not (is_host_range host (address_in frame p) (length_in f frame p))) (marshalled f) (rows_fail (field_rows host f frame) e).1.0)

copying_in : (host : ℕ) (f : Function) (frame : List ℕ) (room : ℕ) (params : List Param) (events : List Event) (blocks : List (Option (List ℕ))) → AllByRecursion (Placed host f frame) params
    → AreCopiedIn f frame room params events blocks → AreInHost host events
copying_in host f frame room [] events [] placed h = no_events host events h
copying_in host f frame room [] events (b ∷ blocks) placed h = absurd h
copying_in host f frame room (p ∷ params) events [] placed h = absurd h
copying_in host f frame room (p ∷ params) events (None ∷ blocks) placed h = copying_in host f frame room params events blocks placed.1 h.1
copying_in host f frame room (p ∷ params) events (Some block ∷ blocks) placed h =
    let (first, rest, events_are, copied, others) = h in
    subst (λ es. AreInHost host es) (sym events_are)
    (more_events host first rest
    (first_in (is_in p.class) host (address_in frame p) copied.bytes first copied.first (subst (λ n. IsMapped host (address_in frame p) n) (sym copied.whole) (placed.0 copied.has_block)))
    (copying_in host f frame (room - rounded_size (length block)) params rest blocks placed.1 others))

all_parts : (P : Param → Type 0) (xs ys : List Param) → AllByRecursion P (xs ++ ys) → AllByRecursion P xs × AllByRecursion P ys
all_parts P [] ys h = (tt, h)
all_parts P (x ∷ xs) ys h = let both : AllByRecursion P xs × AllByRecursion P ys = all_parts P xs ys h.1 in ((h.0, both.0), both.1)

param_in : (host : ℕ) (f : Function) (frame : List ℕ) (room : ℕ) (p : Param) (events : List Event) (status : Status) → IsMapped host (address_in frame p) (length_in f frame p)
    → IsRefusedParam f frame room p events status → AreInHost host events
param_in host f frame room p events status mapped (inl h) = no_events host events h.1
param_in host f frame room p events status mapped (inr h) =
    first_in (is_in p.class) host (address_in frame p) h.bytes events h.first (subst (λ n. IsMapped host (address_in frame p) n) (sym h.whole) mapped)

refused_copying_in : (host : ℕ) (f : Function) (frame : List ℕ) (room : ℕ) (params : List Param) (events : List Event) (status : Status) → AllByRecursion (Placed host f frame) params
    → IsRefusedCopying f frame room params events status → AreInHost host events
refused_copying_in host f frame room params events status placed h =
    let all : AllByRecursion (Placed host f frame) (h.before ++ h.next ∷ h.later) = subst (λ ps. AllByRecursion (Placed host f frame) ps) h.params_are placed in
    let both : AllByRecursion (Placed host f frame) h.before × AllByRecursion (Placed host f frame) (h.next ∷ h.later) = all_parts (Placed host f frame) h.before (h.next ∷ h.later) all in
    subst (λ es. AreInHost host es) (sym h.events_are)
    (more_events host h.copying h.ending (copying_in host f frame room h.before h.copying h.blocks both.0 h.copied)
    (param_in host f frame (room_after room h.blocks) h.next h.ending status (both.1.0 h.has_block) h.refused))

loaded_in : (host : ℕ) (f : Function) (frame : List ℕ) (room : ℕ) (events : List Event) (status : Status) → IsRefusedLoaded host f frame room events status → AreInHost host events
loaded_in host f frame room events status (inl h) = no_events host events h.1
loaded_in host f frame room events status (inr h) = refused_copying_in host f frame room (marshalled f) events status (all_placed host f frame h.0) h.1

framed : (null outside mapped : Bool) → (null || not (outside && mapped)) ≡ false → IsTrue mapped
framed true outside mapped e = cc
framed false true true e = refl
framed false true false e = cc
framed false false mapped e = cc

-- the frame of an entry that its address allows is host memory
pub frame_in : (host : ℕ) (f : Function) (address : ℕ) → IsRunnableFunction true f → first_row (frame_rows host f address) ≡ None → IsMapped host address f.frame_size
frame_in host f address runnable e = by_frame (has_frame f) refl (rows_fail (frame_rows host f address) e).1.0
  where
    by_frame : (b : Bool) → has_frame f ≡ b → (b && (address == 0 || not (is_host_range host address f.frame_size))) ≡ false → IsMapped host address f.frame_size
    by_frame true is h = (mapped_agrees host address f.frame_size).0 (framed (address == 0) (is_outside address f.frame_size) (is_mapped host address f.frame_size) h)
    by_frame false is h = λ x inside.
        let none : f.frame_size ≡ 0 = runnable.no_frame is in
        let low : address ≤ x = inside.0 in
        let high : x < address + f.frame_size = inside.1 in
        absurd (omega (arith, none, low, high))

-- the loads before a body
pub arguments_in : (host : ℕ) (f : Function) (address : ℕ) (frame : List ℕ) (room : ℕ) (copying : List Event) (blocks : List (Option (List ℕ))) → IsRunnableFunction true f
    → first_row (frame_rows host f address) ≡ None → length frame ≡ f.frame_size → first_row (field_rows host f frame) ≡ None → AreCopiedIn f frame room (marshalled f) copying blocks
    → AllByRecursion (InHost host) (steps_of (loads_of address frame ++ copying))
arguments_in host f address frame room copying blocks runnable allowed whole fields copied =
    more_events host (loads_of address frame) copying (loads_in host address frame (subst (λ n. IsMapped host address n) (sym whole) (frame_in host f address runnable allowed)))
    (copying_in host f frame room (marshalled f) copying blocks (all_placed host f frame fields) copied)

-- the loads of a refused entry
pub refused_in : (m : Machine) (cx : Context) (ordinal address : ℕ) (events : List Event) (status : Status) → ((f : Function) → slice_get m.interface.ecalls ordinal ≡ Some f → IsRunnableFunction true f)
    → IsRefusedRun m cx ordinal address events status → AllByRecursion (InHost m.script.settings.host) (steps_of events)
refused_in m cx ordinal address events status runnable (inl h) = no_events m.script.settings.host events h.1
refused_in m cx ordinal address events status runnable (inr h) = by_frame h.refused
  where
    by_frame : ((first_row (frame_rows m.script.settings.host h.function address) ≡ Some status) × (events ≡ [])) ⊎ IsRefusedAfterFrame m cx address h.function events status
        → AreInHost m.script.settings.host events
    by_frame (inl e) = no_events m.script.settings.host events e.1
    by_frame (inr g) =
        subst (λ es. AreInHost m.script.settings.host es) (sym g.events_are)
        (more_events m.script.settings.host (loads_of address g.frame) g.copying
        (loads_in m.script.settings.host address g.frame
        (subst (λ n. IsMapped m.script.settings.host address n) (sym g.whole_frame) (frame_in m.script.settings.host h.function address (runnable h.function h.found) g.frame_allowed)))
        (loaded_in m.script.settings.host h.function g.frame cx.room g.copying status g.refused))

at_place : (P : Param → Type 0) (params : List Param) → AllByRecursion P params → (k : ℕ) (p : Param) → slice_get params k ≡ Some p → P p
at_place P [] h k p e = cc
at_place P (q ∷ params) h zero p e = let same : q ≡ p = cc in subst P same h.0
at_place P (q ∷ params) h (suc k) p e = at_place P params h.1 k p e

copied_at : (f : Function) (frame : List ℕ) (room : ℕ) (params : List Param) (events : List Event) (blocks : List (Option (List ℕ))) → AreCopiedIn f frame room params events blocks
    → (k : ℕ) (p : Param) (b : List ℕ) → slice_get params k ≡ Some p → slice_get blocks k ≡ Some (Some b) → ¬ (copied_length f frame p ≡ 0)
copied_at f frame room [] events blocks h k p b e g = cc
copied_at f frame room (q ∷ params) events [] h k p b e g = cc
copied_at f frame room (q ∷ params) events (None ∷ blocks) h zero p b e g = cc
copied_at f frame room (q ∷ params) events (None ∷ blocks) h (suc k) p b e g = copied_at f frame room params events blocks h.1 k p b e g
copied_at f frame room (q ∷ params) events (Some block ∷ blocks) h zero p b e g =
    let (first, rest, events_are, copied, others) = h in
    let same : q ≡ p = cc in
    subst (λ r. ¬ (copied_length f frame r ≡ 0)) same copied.has_block
copied_at f frame room (q ∷ params) events (Some block ∷ blocks) h (suc k) p b e g =
    let (first, rest, events_are, copied, others) = h in
    copied_at f frame (room - rounded_size (length block)) params rest blocks others k p b e g

-- a store of an answer
pub answer_in : (host : ℕ) (f : Function) (address : ℕ) (frame : List ℕ) (room : ℕ) (copying : List Event) (blocks : List (Option (List ℕ))) → IsRunnableFunction true f
    → first_row (frame_rows host f address) ≡ None → first_row (field_rows host f frame) ≡ None → AreCopiedIn f frame room (marshalled f) copying blocks
    → (s : Step) → IsInAnswer f frame address blocks s → InHost host s
answer_in host f address frame room copying blocks runnable allowed fields copied s (inl w) =
    word_in host address (return_size f) s.index (fewer host address f.frame_size (return_size f) runnable.return_fits (frame_in host f address runnable allowed)) w
answer_in host f address frame room copying blocks runnable allowed fields copied s (inr q) =
    word_in host (address_in frame q.param) (length_in f frame q.param) s.index
    (at_place (Placed host f frame) (marshalled f) (all_placed host f frame fields) q.place q.param q.found
    (copied_at f frame room (marshalled f) copying blocks copied q.place q.param q.block q.found q.has_block)) q.within
