-- The events up to a body are loads by the enclave.
use Rattle.std.proofs.Common.{ℕ, ◌+◌, ◌-◌, ◌≡◌, inl, inr, Bool, true, false, List, [], ◌∷◌, ◌++◌, length, Option, Some, None, refl, sym, subst}
use Rattle.std.specs.List.{All}
use Rattle.std.proofs.lemmas.List.Elements.{All-nil, All-cons, All-append}
use Rattle.sgx_base.specs.Bytes.{rounded_size}
use Rattle.sgx_base.specs.declared.Status.{Status}
use Rattle.edl_interface.specs.declared.Function.{Function}
use Rattle.edl_interface.specs.declared.Param.{Param}
use Rattle.edl_interface.specs.Parameters.{is_in, address_in}
use Rattle.word_port.specs.declared.Side.TheVariants.{Enclave}
use Rattle.word_port.specs.Requests.{step_of, load_of}
use Rattle.word_port.specs.Events.{Event, steps_of}
use Rattle.word_port.specs.Accesses.{word_at}
use Rattle.word_port.proofs.Laws.{steps_of-append}
use Rattle.call_machine.specs.declared.Machine.{Machine}
use Rattle.call_machine.specs.Context.{Context}
use Rattle.call_laws.specs.Transfers.{loads_of, AreFirstBytes}
use Rattle.call_laws.specs.Copying.{AreCopiedIn}
use Rattle.call_machine.specs.Entry.{IsEnclaveLoad}
use Rattle.call_laws.specs.Refusing.{IsRefusedParam, IsRefusedCopying, IsRefusedLoaded, IsRefusedAfterFrame, IsRefusedFunction, IsRefusedRun}

-- each step is a load by the enclave
abbrev pub AreLoads : List Event → Type 0
AreLoads events = All IsEnclaveLoad (steps_of events)

pub no_events : (events : List Event) → events ≡ [] → AreLoads events
no_events events e = subst AreLoads (sym e) (All-nil IsEnclaveLoad)

pub loads_append : (xs ys : List Event) → AreLoads xs → AreLoads ys → AreLoads (xs ++ ys)
loads_append xs ys p q = subst (λ l. All IsEnclaveLoad l) (sym (steps_of-append xs ys)) (All-append IsEnclaveLoad (steps_of xs) (steps_of ys) p q)

pub loads_of_alone : (address : ℕ) (bytes : List ℕ) → AreLoads (loads_of address bytes)
loads_of_alone address [] = All-nil IsEnclaveLoad
loads_of_alone address (b ∷ bytes) =
    All-cons IsEnclaveLoad (step_of (load_of Enclave (word_at address)) b) (steps_of (loads_of (address + 1) bytes)) (refl, refl) (loads_of_alone (address + 1) bytes)

pub first_alone : (inward : Bool) (address : ℕ) (bytes : List ℕ) (events : List Event) → AreFirstBytes inward address bytes events → AreLoads events
first_alone true address bytes events h = subst AreLoads (sym h) (loads_of_alone address bytes)
first_alone false address bytes events h = no_events events h.1

pub copying_alone : (f : Function) (frame : List ℕ) (room : ℕ) (params : List Param) (events : List Event) (blocks : List (Option (List ℕ))) → AreCopiedIn f frame room params events blocks → AreLoads events
copying_alone f frame room [] events [] h = no_events events h
copying_alone f frame room [] events (b ∷ blocks) h = absurd h
copying_alone f frame room (p ∷ params) events [] h = absurd h
copying_alone f frame room (p ∷ params) events (None ∷ blocks) h = copying_alone f frame room params events blocks h.1
copying_alone f frame room (p ∷ params) events (Some block ∷ blocks) h =
    let (first, rest, events_are, copied, others) = h in
    subst AreLoads (sym events_are)
    (loads_append first rest (first_alone (is_in p.class) (address_in frame p) copied.bytes first copied.first)
    (copying_alone f frame (room - rounded_size (length block)) params rest blocks others))

param_alone : (f : Function) (frame : List ℕ) (room : ℕ) (p : Param) (events : List Event) (status : Status) → IsRefusedParam f frame room p events status → AreLoads events
param_alone f frame room p events status (inl h) = no_events events h.1
param_alone f frame room p events status (inr h) = first_alone (is_in p.class) (address_in frame p) h.bytes events h.first

refused_copying : (f : Function) (frame : List ℕ) (room : ℕ) (params : List Param) (events : List Event) (status : Status) → IsRefusedCopying f frame room params events status → AreLoads events
refused_copying f frame room params events status h =
    subst AreLoads (sym h.events_are)
    (loads_append h.copying h.ending (copying_alone f frame room h.before h.copying h.blocks h.copied) (param_alone f frame _ h.next h.ending status h.refused))

refused_loaded : (host : ℕ) (f : Function) (frame : List ℕ) (room : ℕ) (events : List Event) (status : Status) → IsRefusedLoaded host f frame room events status → AreLoads events
refused_loaded host f frame room events status (inl h) = no_events events h.1
refused_loaded host f frame room events status (inr h) = refused_copying f frame room _ events status h.1

refused_after : (m : Machine) (cx : Context) (address : ℕ) (f : Function) (events : List Event) (status : Status) → IsRefusedAfterFrame m cx address f events status → AreLoads events
refused_after m cx address f events status h =
    subst AreLoads (sym h.events_are)
    (loads_append (loads_of address h.frame) h.copying (loads_of_alone address h.frame) (refused_loaded m.script.settings.host f h.frame cx.room h.copying status h.refused))

refused_function : (m : Machine) (cx : Context) (ordinal address : ℕ) (events : List Event) (status : Status) → IsRefusedFunction m cx ordinal address events status → AreLoads events
refused_function m cx ordinal address events status h = elim h.refused [ inl e ↦ no_events events e.1 | inr g ↦ refused_after m cx address h.function events status g ]

pub refused_alone : (m : Machine) (cx : Context) (ordinal address : ℕ) (events : List Event) (status : Status) → IsRefusedRun m cx ordinal address events status → AreLoads events
refused_alone m cx ordinal address events status (inl h) = no_events events h.1
refused_alone m cx ordinal address events status (inr h) = refused_function m cx ordinal address events status h
