-- Stores of an answer or a frame are swaps, and what a reply's run is.
use Rattle.std.proofs.Common.{ℕ, ◌+◌, ◌≡◌, Bool, true, false, if◌then◌else◌, List, [], ◌∷◌, ◌++◌, length, Option, Some, None, refl, ap, sym, ◌∙◌, subst}
use Rattle.std.specs.List.{AllByRecursion}
use Rattle.edl_interface.specs.declared.Function.{Function}
use Rattle.edl_interface.specs.declared.Param.{Param}
use Rattle.edl_interface.specs.Parameters.{is_out, address_in, return_size}
use Rattle.word_port.specs.declared.Step.{Step}
use Rattle.word_port.specs.declared.Side.TheVariants.{Enclave}
use Rattle.word_port.specs.declared.Kind.TheVariants.{Swap}
use Rattle.word_port.specs.Events.{Event, made, ticked, placed, steps_of}
use Rattle.word_port.specs.Interaction.{Interaction, and_then, map_value, IsRun}
use Rattle.word_port.specs.Accesses.{loads}
use Rattle.word_port.proofs.Laws.{steps_of-append}
use Rattle.enclave_memory.specs.Arguments.{Argument}
use Rattle.ocall_frames.specs.Frames.{Buffer, buffers_of, buffer_loads, Reply, return_value, read_reply}
use Rattle.call_copy.specs.Copies.{bytes_back}
use Rattle.call_machine.specs.Ecall.{shape_of}
use Rattle.call_laws.specs.Transfers.{loads_of, AreStores}
use Rattle.call_laws.specs.Answering.{AreStoredIf, ArePutBack}
use Rattle.call_laws.proofs.RunParts.{IsTwoRuns, two_runs, ret_run, IsMappedRun, mapped_run}
use Rattle.call_laws.proofs.TransferLaws.{loads_run}
use Rattle.run_laws.specs.Ocalls.{is_copied_back, AreLoadedBack, IsLoadedReply}

-- a store
abbrev pub IsSwap : Step → Type 0
IsSwap s = s.kind ≡ Swap

pub all_append : (P : Step → Type 0) (xs ys : List Step) → AllByRecursion P xs → AllByRecursion P ys → AllByRecursion P (xs ++ ys)
all_append P [] ys p q = q
all_append P (x ∷ xs) ys p q = (p.0, all_append P xs ys p.1 q)

pub all_both : (P Q : Step → Type 0) (xs : List Step) → AllByRecursion P xs → AllByRecursion Q xs → AllByRecursion (λ s. P s × Q s) xs
all_both P Q [] p q = tt
all_both P Q (x ∷ xs) p q = ((p.0, q.0), all_both P Q xs p.1 q.1)

pub stores_swap : (address : ℕ) (bytes : List ℕ) (events : List Event) → AreStores address bytes events → AllByRecursion IsSwap (steps_of events)
stores_swap address [] [] h = tt
stores_swap address [] (e ∷ es) h = absurd h
stores_swap address (b ∷ bytes) [] h = absurd h
stores_swap address (b ∷ bytes) (made s ∷ es) h = (ap (λ (v : Step). v.kind) h.0, stores_swap (address + 1) bytes es h.1)
stores_swap address (b ∷ bytes) (ticked k ∷ es) h = absurd h
stores_swap address (b ∷ bytes) (placed k ∷ es) h = absurd h

stored_swap : (out : Bool) (address : ℕ) (bytes : List ℕ) (events : List Event) → AreStoredIf out address bytes events → AllByRecursion IsSwap (steps_of events)
stored_swap true address bytes events h = stores_swap address bytes events h
stored_swap false address bytes events h = subst (λ es. AllByRecursion IsSwap (steps_of es)) (sym h) tt

put_swap : (frame : List ℕ) (blocks : List (Param × Option (List ℕ))) (events : List Event) → ArePutBack frame blocks events → AllByRecursion IsSwap (steps_of events)
put_swap frame [] events h = subst (λ es. AllByRecursion IsSwap (steps_of es)) (sym h) tt
put_swap frame ((p, None) ∷ rest) events h = put_swap frame rest events h
put_swap frame ((p, Some block) ∷ rest) events h =
    let (first, more, events_are, stored, others) = h in
    subst (λ es. AllByRecursion IsSwap (steps_of es)) (sym events_are)
    (subst (λ l. AllByRecursion IsSwap l) (sym (steps_of-append first more))
    (all_append IsSwap (steps_of first) (steps_of more) (stored_swap (is_out p.class) (address_in frame p) (bytes_back (shape_of p.class) block) first stored) (put_swap frame rest more others)))

-- the stores of an answer
pub answer_swap : (address : ℕ) (bytes frame : List ℕ) (blocks : List (Param × Option (List ℕ))) (returning putting : List Event) → AreStores address bytes returning → ArePutBack frame blocks putting
    → AllByRecursion IsSwap (steps_of (returning ++ putting))
answer_swap address bytes frame blocks returning putting p q =
    subst (λ l. AllByRecursion IsSwap l) (sym (steps_of-append returning putting))
    (all_append IsSwap (steps_of returning) (steps_of putting) (stores_swap address bytes returning p) (put_swap frame blocks putting q))

one_back : (b : Buffer) (more : List Buffer) (c : Bool) → is_copied_back b ≡ c → (events : List Event) (loaded : List (Option (List ℕ)))
    → ((es : List Event) (l : List (Option (List ℕ))) → IsRun (buffer_loads more) es l → AreLoadedBack more l es)
    → IsRun (if c then and_then (loads Enclave b.address (length b.content)) (λ these. map_value (λ rest. Some these ∷ rest) (buffer_loads more))
    else map_value (λ rest. None ∷ rest) (buffer_loads more)) events loaded
    → AreLoadedBack (b ∷ more) loaded events
one_back b more true e events loaded others h =
    let goes_on : List ℕ → Interaction (List (Option (List ℕ))) = λ these. map_value (λ rest. Some these ∷ rest) (buffer_loads more) in
    let r : IsTwoRuns (loads Enclave b.address (length b.content)) goes_on events loaded = two_runs (loads Enclave b.address (length b.content)) goes_on events loaded h in
    let g : IsMappedRun (λ rest. Some r.middle ∷ rest) (buffer_loads more) r.rest loaded = mapped_run (λ rest. Some r.middle ∷ rest) (buffer_loads more) r.rest loaded r.rest_run in
    let whole : (length r.middle ≡ length b.content) × (r.first ≡ loads_of b.address r.middle) = loads_run b.address (length b.content) r.first r.middle r.first_run in
    subst (λ l. AreLoadedBack (b ∷ more) l events) g.value_is (r.first, r.rest, r.events_are, e, whole.0, whole.1, others r.rest g.value g.run)
one_back b more false e events loaded others h =
    let g : IsMappedRun (λ rest. None ∷ rest) (buffer_loads more) events loaded = mapped_run (λ rest. None ∷ rest) (buffer_loads more) events loaded h in
    subst (λ l. AreLoadedBack (b ∷ more) l events) g.value_is (e, others events g.value g.run)

all_back : (buffers : List Buffer) (events : List Event) (loaded : List (Option (List ℕ))) → IsRun (buffer_loads buffers) events loaded → AreLoadedBack buffers loaded events
all_back [] events loaded h =
    let end : (events ≡ []) × ([] ≡ loaded) = ret_run [] events loaded h in
    subst (λ l. AreLoadedBack [] l events) end.1 end.0
all_back (b ∷ more) events loaded h = one_back b more (is_copied_back b) refl events loaded (λ es l g. all_back more es l g) h

-- the run of a reply
pub reply_run : (f : Function) (arguments : List Argument) (frame : ℕ) (events : List Event) (reply : Reply) → IsRun (read_reply f arguments frame) events reply → IsLoadedReply f arguments frame events reply
unfolding read_reply
reply_run f arguments frame events reply h =
    let value : List ℕ → List (Option (List ℕ)) → Reply = λ returned loaded. record { value = return_value f returned; loaded = loaded } in
    let goes_on : List ℕ → Interaction Reply = λ returned. map_value (value returned) (buffer_loads (buffers_of f arguments frame)) in
    let r : IsTwoRuns (loads Enclave frame (return_size f)) goes_on events reply = two_runs (loads Enclave frame (return_size f)) goes_on events reply h in
    let g : IsMappedRun (value r.middle) (buffer_loads (buffers_of f arguments frame)) r.rest reply = mapped_run (value r.middle) (buffer_loads (buffers_of f arguments frame)) r.rest reply r.rest_run in
    let whole : (length r.middle ≡ return_size f) × (r.first ≡ loads_of frame r.middle) = loads_run frame (return_size f) r.first r.middle r.first_run in
    record {
      returned = r.middle;
      whole = whole.0;
      value_is = sym (ap (λ (v : Reply). v.value) g.value_is);
      loading = r.rest;
      loaded = subst (λ l. AreLoadedBack (buffers_of f arguments frame) l r.rest) (ap (λ (v : Reply). v.loaded) g.value_is) (all_back (buffers_of f arguments frame) r.rest g.value g.run);
      events_are = r.events_are ∙ ap (λ l. l ++ r.rest) whole.1;
    }
