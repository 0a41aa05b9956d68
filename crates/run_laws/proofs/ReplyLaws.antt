-- The reply of an OCALL is loaded from within its frame.
use Rattle.std.proofs.Common.{ℕ, suc, ◌+◌, ◌≡◌, ◌≤◌, ◌&&◌, ◌==◌, not, inl, inr, Bool, true, false, if◌then◌else◌, List, [], ◌∷◌, ◌++◌, length, zip, Option, Some, None, refl, sym, subst, arith}
use Rattle.std.specs.List.{AllByRecursion}
use Rattle.std.proofs.lemmas.List.Sums.{sum_by-cons}
use Rattle.sgx_base.specs.declared.Status.{Status}
use Rattle.edl_interface.specs.declared.Param.{Param}
use Rattle.edl_interface.specs.declared.Function.{Function}
use Rattle.edl_interface.specs.Parameters.{is_marshalled, is_out, return_size}
use Rattle.edl_interface.specs.Runnable.{IsRunnableFunction}
use Rattle.word_port.specs.declared.Step.{Step}
use Rattle.word_port.specs.Events.{Event, steps_of}
use Rattle.word_port.proofs.Laws.{steps_of-append}
use Rattle.enclave_memory.specs.Arguments.{Argument, number, bytes}
use Rattle.ocall_frames.specs.Frames.{Buffer, numbers_structure, argument_length, buffer_bytes, buffers_from, buffers_of, ocall_size, Reply}
use Rattle.call_laws.specs.Transfers.{loads_of}
use Rattle.call_laws.specs.Within.{IsWordIn}
use Rattle.run_laws.specs.Ocalls.{is_copied_back, AreLoadedBack, IsLoadedReply, IsReply}
use Rattle.run_laws.proofs.Stored.{all_append}
use Rattle.run_laws.proofs.FrameLaws.{total, same_total}
use Rattle.run_laws.proofs.FitLaws.{FitBlocks}

-- the steps are on the words of a range
abbrev AreWordsIn : ℕ → ℕ → List Event → Type 0
AreWordsIn low size events = AllByRecursion (λ s. IsWordIn low size s.index) (steps_of events)

words_append : (low size : ℕ) (xs ys events : List Event) → events ≡ xs ++ ys → AreWordsIn low size xs → AreWordsIn low size ys → AreWordsIn low size events
words_append low size xs ys events e p q =
    subst (λ es. AreWordsIn low size es) (sym e)
    (subst (λ l. AllByRecursion (λ (s : Step). IsWordIn low size s.index) l) (sym (steps_of-append xs ys)) (all_append (λ s. IsWordIn low size s.index) (steps_of xs) (steps_of ys) p q))

loads_inside : (low size address : ℕ) (these : List ℕ) → low ≤ address → address + length these ≤ low + size → AreWordsIn low size (loads_of address these)
loads_inside low size address [] from upto = tt
loads_inside low size address (b ∷ these) from upto =
    let end : address + suc (length these) ≤ low + size = upto in
    ((address, (from, omega (arith, end)), refl), loads_inside low size (address + 1) these (omega (arith, from)) (omega (arith, end)))

-- where a buffer is copied back, it lies between two addresses
abbrev LiesIn : ℕ → ℕ → Buffer → Type 0
LiesIn low high b = is_copied_back b ≡ true → (low ≤ b.address) × (b.address + length b.content ≤ high)

address_of_some : (out none : Bool) (next : ℕ) → (out && not none) ≡ true → (if none then 0 else next) ≡ next
address_of_some true true next e = cc
address_of_some true false next e = refl
address_of_some false none next e = cc

one_lies : (low high next : ℕ) (p : Param) (content : List ℕ) (more : List Buffer) (b : Bool) → (b ≡ false → length content ≡ 0) → low ≤ next
    → next + total (if b then record { param = p; address = if length content == 0 then 0 else next; content = content } ∷ more else more) ≤ high
    → ((next + length content) + total more ≤ high → AllByRecursion (LiesIn low high) more)
    → AllByRecursion (LiesIn low high) (if b then record { param = p; address = if length content == 0 then 0 else next; content = content } ∷ more else more)
one_lies low high next p content more true none from upto others =
    let buffer : Buffer = record { param = p; address = if length content == 0 then 0 else next; content = content } in
    let sum : total (buffer ∷ more) ≡ length content + total more = sum_by-cons (λ (b : Buffer). length b.content) buffer more in
    let end : next + total (buffer ∷ more) ≤ high = upto in (
      λ back.
          let at : buffer.address ≡ next = address_of_some (is_out p.class) (length content == 0) next back in
          (omega (arith, at, from), omega (arith, at, sum, end)),
      others (omega (arith, sum, end)),
    )
one_lies low high next p content more false none from upto others =
    let empty : length content ≡ 0 = none refl in
    let end : next + total more ≤ high = upto in
    others (omega (arith, empty, end))

-- what is no block has no bytes in the frame
no_content : (f : Function) (structure : List ℕ) (p : Param) (params : List Param) (a : Argument) (arguments : List Argument) → FitBlocks (p ∷ params) (a ∷ arguments)
    → is_marshalled p.class ≡ false → length (buffer_bytes (argument_length f structure p a) a) ≡ 0
no_content f structure p params (number n) arguments fit e = refl
no_content f structure p params (bytes block) arguments fit e = let one : is_marshalled p.class ≡ true = fit.0 in cc

fit_rest : (p : Param) (params : List Param) (a : Argument) (arguments : List Argument) → FitBlocks (p ∷ params) (a ∷ arguments) → FitBlocks params arguments
fit_rest p params (number n) arguments fit = fit
fit_rest p params (bytes block) arguments fit = fit.1

buffers_lie : (f : Function) (structure : List ℕ) (low high next : ℕ) (params : List Param) (arguments : List Argument) → FitBlocks params arguments → low ≤ next
    → next + total (buffers_from f structure next (zip params arguments)) ≤ high → AllByRecursion (LiesIn low high) (buffers_from f structure next (zip params arguments))
buffers_lie f structure low high next [] arguments fit from upto = tt
buffers_lie f structure low high next (p ∷ params) [] fit from upto = tt
buffers_lie f structure low high next (p ∷ params) (a ∷ arguments) fit from upto =
    let content : List ℕ = buffer_bytes (argument_length f structure p a) a in
    one_lies low high next p content (buffers_from f structure (next + length content) (zip params arguments)) (is_marshalled p.class) (no_content f structure p params a arguments fit) from upto
    (λ rest. buffers_lie f structure low high (next + length content) params arguments (fit_rest p params a arguments fit) (omega (arith, from)) rest)

back_inside : (low size : ℕ) (buffers : List Buffer) (loaded : List (Option (List ℕ))) (events : List Event) → AllByRecursion (LiesIn low (low + size)) buffers → AreLoadedBack buffers loaded events
    → AreWordsIn low size events
back_inside low size [] [] events lie h = subst (λ es. AreWordsIn low size es) (sym h) tt
back_inside low size [] (x ∷ loaded) events lie h = absurd h
back_inside low size (b ∷ buffers) [] events lie h = absurd h
back_inside low size (b ∷ buffers) (None ∷ loaded) events lie h = back_inside low size buffers loaded events lie.1 h.1
back_inside low size (b ∷ buffers) (Some these ∷ loaded) events lie h =
    let (first, more, events_are, back, whole, first_is, others) = h in
    let place : (low ≤ b.address) × (b.address + length b.content ≤ low + size) = lie.0 back in
    let end : b.address + length b.content ≤ low + size = place.1 in
    words_append low size first more events events_are
    (subst (λ es. AreWordsIn low size es) (sym first_is) (loads_inside low size b.address these place.0 (omega (arith, whole, end))))
    (back_inside low size buffers loaded more lie.1 others)

-- the loads of a reply
pub reply_inside : (f : Function) (arguments : List Argument) (frame : ℕ) (status : Status) (events : List Event) (reply : Reply) → IsRunnableFunction false f → FitBlocks f.params arguments
    → IsReply f arguments frame status events reply → AllByRecursion (λ s. IsWordIn frame (ocall_size f arguments) s.index) (steps_of events)
reply_inside f arguments frame status events reply runnable fit (inr h) = subst (λ es. AreWordsIn frame (ocall_size f arguments) es) (sym h.1) tt
reply_inside f arguments frame status events reply runnable fit (inl h) =
    let r : IsLoadedReply f arguments frame events reply = h.1 in
    let structure : List ℕ = numbers_structure f arguments in
    let size : ocall_size f arguments ≡ f.frame_size + total (buffers_of f arguments 0) = refl in
    let same : total (buffers_of f arguments frame) ≡ total (buffers_of f arguments 0) = same_total f structure (frame + f.frame_size) (0 + f.frame_size) f.params arguments in
    let field : return_size f ≤ f.frame_size = runnable.return_fits in
    let lie : AllByRecursion (LiesIn frame (frame + ocall_size f arguments)) (buffers_of f arguments frame) =
    buffers_lie f structure frame (frame + ocall_size f arguments) (frame + f.frame_size) f.params arguments fit (omega arith) (omega (arith, size, same)) in
    let whole : length r.returned ≡ return_size f = r.whole in
    words_append frame (ocall_size f arguments) (loads_of frame r.returned) r.loading events r.events_are
    (loads_inside frame (ocall_size f arguments) frame r.returned (omega arith) (omega (arith, whole, field, size)))
    (back_inside frame (ocall_size f arguments) (buffers_of f arguments frame) reply.loaded r.loading lie r.loaded)
