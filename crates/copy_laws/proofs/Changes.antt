-- Which words the stores of an answer change, and how.
use Rattle.std.proofs.Common.{ℕ, zero, suc, ◌+◌, ◌-◌, ◌≡◌, ◌≢◌, ◌<◌, ◌≤◌, Bool, true, false, if◌then◌else◌, List, [], ◌∷◌, ◌++◌, length, zip, Option, Some, None, slice_get, slice_set, refl, ap, sym, ◌∙◌, subst, arith}
use Rattle.std.specs.List.{AllByRecursion}
use Rattle.std.proofs.lemmas.List.Elements.{All-weaker, recursion_from_All}
use Rattle.sgx_base.specs.Bytes.{low_bytes, rounded_size}
use Rattle.sgx_base.specs.Ranges.{IsMapped}
use Rattle.edl_interface.specs.declared.Function.{Function}
use Rattle.edl_interface.specs.declared.Param.{Param}
use Rattle.edl_interface.specs.Parameters.{is_out, address_in, return_size}
use Rattle.edl_interface.specs.Lengths.{length_in}
use Rattle.edl_interface.specs.Runnable.{IsRunnableFunction}
use Rattle.word_port.specs.declared.Step.{Step}
use Rattle.word_port.specs.Events.{Event, made, ticked, placed, steps_of}
use Rattle.word_port.specs.Accesses.{word_at}
use Rattle.word_port.specs.History.{IsLegal, history_of, word_after, words_after, words_in_the_end}
use Rattle.word_port.proofs.Laws.{steps_of-append}
use Rattle.body_vm.proofs.PlaceLaws.{get_set_other, get_set_same, set_same}
use Rattle.call_copy.specs.Copies.{bytes_back}
use Rattle.call_machine.specs.Bodies.{KeepLengths}
use Rattle.call_machine.specs.Ecall.{shape_of}
use Rattle.call_machine.specs.Entry.{IsEnclaveLoad}
use Rattle.call_laws.specs.Transfers.{AreStores}
use Rattle.call_laws.specs.Copying.{AreCopiedIn}
use Rattle.call_laws.specs.Answering.{AreStoredIf, ArePutBack}
use Rattle.call_laws.specs.Undisturbed.{AreLegal, words_at_end, AreAt}
use Rattle.call_laws.specs.Within.{IsWordIn}
use Rattle.call_laws.proofs.UndisturbedLaws.{legal_events, end_events}
use Rattle.call_laws.proofs.WithinLaws.{stores_within}
use Rattle.run_laws.proofs.InHost.{Placed}
use Rattle.run_laws.proofs.Stored.{all_append}
use Rattle.copy_laws.specs.Changing.{Part, out_parts, IsInPart, IsApart, AreApart, Stand}

-- loads change nothing
pub loads_keep : (words : List ℕ) (steps : List Step) → AllByRecursion IsEnclaveLoad steps → IsLegal words (history_of steps) → words_in_the_end words (history_of steps) ≡ words
loads_keep words [] h legal = refl
loads_keep words (s ∷ steps) h legal =
    let same : words_after words s ≡ words = ap (λ k. slice_set words s.index (word_after k s.first s.second s.answer)) h.0.1 ∙ set_same words s.index s.answer legal.0 in
    ap (λ w. words_in_the_end w (history_of steps)) same ∙ loads_keep words steps h.1 (subst (λ w. IsLegal w (history_of steps)) same legal.1)

-- a word that no step is on stays
pub untouched : (index : ℕ) (steps : List Step) → AllByRecursion (λ s. s.index ≢ index) steps → (words : List ℕ) → slice_get (words_in_the_end words (history_of steps)) index ≡ slice_get words index
untouched index [] h words = refl
untouched index (s ∷ steps) h words =
    untouched index steps h.1 (words_after words s) ∙ get_set_other words s.index index (word_after s.kind s.first s.second s.answer) (λ e. h.0 (sym e))

-- bytes that there are have an address of host memory or behind
abbrev pub IsBased : Part → Type 0
IsBased part = 0 < length part.bytes → 0x10000 ≤ part.address

-- stores leave their bytes
later_word : (address count index : ℕ) → 0x10000 ≤ address → IsWordIn (address + 1) count index → index ≢ address - 0x10000
later_word address count index base (x, inside, e) same =
    let low : address + 1 ≤ x = inside.0 in
    let at : index ≡ x - 0x10000 = e in
    omega (arith, low, at, base, same)

pub stores_stand : (words : List ℕ) (address : ℕ) (bytes : List ℕ) (events : List Event) → (0 < length bytes → 0x10000 ≤ address) → AreStores address bytes events → AreLegal words events
    → AreAt (words_at_end words events) address bytes
stores_stand words address [] [] base h legal = tt
stores_stand words address [] (e ∷ es) base h legal = absurd h
stores_stand words address (b ∷ bytes) [] base h legal = absurd h
stores_stand words address (b ∷ bytes) (made s ∷ es) base h legal =
    let low : 0x10000 ≤ address = base (omega arith) in
    let one : words_after words s ≡ slice_set words (word_at address) b = ap (λ v. words_after words v) h.0 in
    let at : s.index ≡ word_at address = ap (λ v. v.index) h.0 in
    let found : slice_get words (word_at address) ≡ Some s.answer = subst (λ i. slice_get words i ≡ Some s.answer) at legal.0 in
    let within : AllByRecursion (λ (u : Step). IsWordIn (address + 1) (length bytes) u.index) (steps_of es) =
    recursion_from_All (λ (u : Step). IsWordIn (address + 1) (length bytes) u.index) (steps_of es) (stores_within (address + 1) bytes es h.1) in
    let others : AllByRecursion (λ (u : Step). u.index ≢ word_at address) (steps_of es) =
    all_weaker (λ u. IsWordIn (address + 1) (length bytes) u.index) (λ u. u.index ≢ word_at address) (λ u w. later_word address (length bytes) u.index low w) (steps_of es) within in (
      untouched (word_at address) (steps_of es) others (words_after words s)
          ∙ ap (λ w. slice_get w (word_at address)) one ∙ get_set_same words (word_at address) s.answer b found,
      stores_stand (words_after words s) (address + 1) bytes es (λ some. omega (arith, low)) h.1 legal.1,
    )
  where
    all_weaker : (P Q : Step → Type 0) → ((u : Step) → P u → Q u) → (steps : List Step) → AllByRecursion P steps → AllByRecursion Q steps
    all_weaker P Q f [] h = tt
    all_weaker P Q f (u ∷ steps) h = (f u h.0, all_weaker P Q f steps h.1)
stores_stand words address (b ∷ bytes) (ticked k ∷ es) base h legal = absurd h
stores_stand words address (b ∷ bytes) (placed k ∷ es) base h legal = absurd h

-- bytes stay where their words stay
pub one_more : (address count index : ℕ) → IsWordIn (address + 1) count index → IsWordIn address (suc count) index
one_more address count index (x, inside, e) =
    let low : address + 1 ≤ x = inside.0 in
    let high : x < (address + 1) + count = inside.1 in
    (x, (omega (arith, low), omega (arith, high)), e)

pub at_kept : (words later : List ℕ) (address : ℕ) (bytes : List ℕ) → ((index : ℕ) → IsWordIn address (length bytes) index → slice_get later index ≡ slice_get words index)
    → AreAt words address bytes → AreAt later address bytes
at_kept words later address [] same h = tt
at_kept words later address (b ∷ bytes) same h = (
  same (word_at address) (address, (omega arith, omega arith), refl) ∙ h.0,
  at_kept words later (address + 1) bytes (λ index w. same index (one_more address (length bytes) index w)) h.1,
)

-- the events store these parts, one after another
abbrev pub AreWritten : List Part → List Event → Type 0
AreWritten [] events = events ≡ []
AreWritten (part ∷ parts) events = (first : List Event) × (more : List Event) × (events ≡ first ++ more) × AreStores part.address part.bytes first × AreWritten parts more

pub put_parts : (frame : List ℕ) (blocks : List (Param × Option (List ℕ))) (events : List Event) → ArePutBack frame blocks events → AreWritten (out_parts frame blocks) events
put_parts frame [] events h = h
put_parts frame ((p, None) ∷ rest) events h = put_parts frame rest events h
put_parts frame ((p, Some block) ∷ rest) events h =
    let (first, more, events_are, stored, others) = h in
    by_way (is_out p.class) first more events_are stored (put_parts frame rest more others)
  where
    by_way : (out : Bool) (first more : List Event) → events ≡ first ++ more → AreStoredIf out (address_in frame p) (bytes_back (shape_of p.class) block) first → AreWritten (out_parts frame rest) more
        → AreWritten (if out then record { address = address_in frame p; bytes = bytes_back (shape_of p.class) block } ∷ out_parts frame rest else out_parts frame rest) events
    by_way true first more e stored w = (first, more, e, stored, w)
    by_way false first more e stored w = subst (λ es. AreWritten (out_parts frame rest) es) (sym (e ∙ ap (λ l. l ++ more) stored)) w

-- a word in none of the parts is touched by none of their stores
parts_miss : (index : ℕ) (parts : List Part) (events : List Event) → AreWritten parts events → AllByRecursion (λ part. ¬ IsInPart index part) parts → AllByRecursion (λ s. s.index ≢ index) (steps_of events)
parts_miss index [] events w h = subst (λ es. AllByRecursion (λ (s : Step). s.index ≢ index) (steps_of es)) (sym w) tt
parts_miss index (part ∷ parts) events w h =
    let (first, more, events_are, stored, others) = w in
    let here : AllByRecursion (λ (s : Step). s.index ≢ index) (steps_of first) =
    recursion_from_All (λ (s : Step). s.index ≢ index) (steps_of first)
    (All-weaker (λ (s : Step). IsWordIn part.address (length part.bytes) s.index) (λ (s : Step). s.index ≢ index)
    (λ s in_it e. h.0 (subst (λ n. IsInPart n part) e in_it)) (steps_of first) (stores_within part.address part.bytes first stored)) in
    subst (λ es. AllByRecursion (λ (s : Step). s.index ≢ index) (steps_of es)) (sym events_are)
    (subst (λ l. AllByRecursion (λ (s : Step). s.index ≢ index) l) (sym (steps_of-append first more))
    (all_append (λ (s : Step). s.index ≢ index) (steps_of first) (steps_of more) here (parts_miss index parts more others h.1)))

apart_at : (index : ℕ) (part : Part) → IsInPart index part → (parts : List Part) → AllByRecursion (IsApart part) parts → AllByRecursion (λ other. ¬ IsInPart index other) parts
apart_at index part in_it [] h = tt
apart_at index part in_it (other ∷ parts) h = (h.0 index in_it, apart_at index part in_it parts h.1)

-- where no two overlap, each stands in the end
pub parts_stand : (words : List ℕ) (parts : List Part) (events : List Event) → AllByRecursion IsBased parts → AreWritten parts events → AreLegal words events → AreApart parts
    → Stand (words_at_end words events) parts
parts_stand words [] events based w legal apart = tt
parts_stand words (part ∷ parts) events based w legal apart =
    let (first, more, events_are, stored, others) = w in
    let split : AreLegal words first × AreLegal (words_at_end words first) more = legal_events words first more (subst (λ es. AreLegal words es) events_are legal) in
    let here : AreAt (words_at_end words first) part.address part.bytes = stores_stand words part.address part.bytes first based.0 stored split.0 in
    let kept : AreAt (words_at_end (words_at_end words first) more) part.address part.bytes =
    at_kept (words_at_end words first) (words_at_end (words_at_end words first) more) part.address part.bytes
    (λ index in_it. untouched index (steps_of more) (parts_miss index parts more others (apart_at index part in_it parts apart.0)) (words_at_end words first)) here in
    subst (λ w. Stand w (part ∷ parts)) (sym (ap (λ es. words_at_end words es) events_are ∙ end_events words first more))
    (kept, parts_stand (words_at_end words first) parts more based.1 others split.1 apart.1)

-- the parts of an answer lie in host memory
low_length : (count n : ℕ) → length (low_bytes count n) ≡ count
low_length zero n = refl
low_length (suc count) n = ap (λ k. suc k) (low_length count _)

some_length : (null : Bool) (n : ℕ) → ¬ ((if null then 0 else n) ≡ 0) → 0 < n
some_length true n h = absurd (h refl)
some_length false zero h = absurd (h refl)
some_length false (suc n) h = omega arith

mapped_base : (host address count : ℕ) → 0 < count → IsMapped host address count → 0x10000 ≤ address
mapped_base host address count some mapped = (mapped address (omega arith, omega (arith, some))).0

pub return_based : (host : ℕ) (f : Function) (address value : ℕ) → IsRunnableFunction true f → IsMapped host address f.frame_size
    → IsBased (record { address = address; bytes = low_bytes (return_size f) value })
return_based host f address value runnable mapped some =
    let fits : return_size f ≤ f.frame_size = runnable.return_fits in
    let size : length (low_bytes (return_size f) value) ≡ return_size f = low_length (return_size f) value in
    mapped_base host address f.frame_size (omega (arith, fits, size, some)) mapped

module _ (host : ℕ) (f : Function) (frame : List ℕ) where
  pub outs_based : (room : ℕ) (params : List Param) (copying : List Event) (copies blocks : List (Option (List ℕ))) → AllByRecursion (Placed host f frame) params
      → AreCopiedIn f frame room params copying copies → KeepLengths copies blocks → AllByRecursion IsBased (out_parts frame (zip params blocks))
  outs_based room [] copying copies blocks hosted c k = tt
  outs_based room (p ∷ params) copying [] blocks hosted c k = absurd c
  outs_based room (p ∷ params) copying (copy ∷ copies) [] hosted c k = absurd k
  outs_based room (p ∷ params) copying (None ∷ copies) (Some later ∷ blocks) hosted c k = let none : Some (length later) ≡ None = k.0 in cc
  outs_based room (p ∷ params) copying (Some copy ∷ copies) (None ∷ blocks) hosted c k = let none : None ≡ Some (length copy) = k.0 in cc
  outs_based room (p ∷ params) copying (None ∷ copies) (None ∷ blocks) hosted c k = outs_based room params copying copies blocks hosted.1 c.1 k.1
  outs_based room (p ∷ params) copying (Some copy ∷ copies) (Some block ∷ blocks) hosted c k =
      let (first, rest, copying_are, copied, others) = c in
      by_way (is_out p.class) (mapped_base host (address_in frame p) (length_in f frame p) (some_length _ (length_in f frame p) copied.has_block) (hosted.0 copied.has_block))
      (outs_based (room - rounded_size (length copy)) params rest copies blocks hosted.1 others k.1)
    where
      by_way : (out : Bool) → 0x10000 ≤ address_in frame p → AllByRecursion IsBased (out_parts frame (zip params blocks))
          → AllByRecursion IsBased (if out then record { address = address_in frame p; bytes = bytes_back (shape_of p.class) block } ∷ out_parts frame (zip params blocks) else out_parts frame (zip params blocks))
      by_way true low h = (λ some. low, h)
      by_way false low h = h
