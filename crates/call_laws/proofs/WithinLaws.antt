-- Where an answered entry stores.
use Rattle.std.proofs.Common.{ℕ, zero, suc, ◌+◌, ◌-◌, ◌≡◌, ◌<◌, ◌≤◌, inl, inr, Bool, true, false, not, if◌then◌else◌, List, [], ◌∷◌, ◌++◌, length, take, zip, Option, Some, None, Ok, Err, All, refl, ap, sym, ◌∙◌, subst, arith, length-take}
use Rattle.std.proofs.lemmas.List.Elements.{All-nil, All-cons, All-append, All-weaker}
use Rattle.sgx_base.specs.Bytes.{low_bytes, rounded_size, is_divisible}
use Rattle.sgx_base.specs.Rows.{first_row}
use Rattle.sgx_base.specs.Texts.{terminated_text, has_early_end, cut_text}
use Rattle.sgx_base.specs.declared.TheConstants.Status.{UNEXPECTED}
use Rattle.edl_interface.specs.declared.Function.{Function}
use Rattle.edl_interface.specs.declared.Param.{Param}
use Rattle.edl_interface.specs.Parameters.{marshalled, is_out, address_in, return_size}
use Rattle.edl_interface.specs.Lengths.{length_in}
use Rattle.word_port.specs.declared.Step.{Step}
use Rattle.word_port.specs.Events.{Event, made, ticked, placed, steps_of}
use Rattle.word_port.proofs.Laws.{steps_of-append}
use Rattle.call_copy.specs.declared.Shape.{Shape}
use Rattle.call_copy.specs.Copies.{block_rows, bytes_back}
use Rattle.call_copy.proofs.TextLaws.{length-text, unit_fits}
use Rattle.call_machine.specs.declared.Machine.{Machine}
use Rattle.call_machine.specs.Context.{Context}
use Rattle.call_machine.specs.Ecall.{Ocalls, Answered, shape_of}
use Rattle.call_laws.specs.Transfers.{AreStores}
use Rattle.call_laws.specs.Copying.{IsCopiedIn, AreCopiedIn}
use Rattle.call_laws.specs.Answering.{AreStoredIf, ArePutBack, IsAnsweredRun}
use Rattle.call_machine.specs.Bodies.{KeepLengths}
use Rattle.call_laws.specs.Within.{IsWordIn, IsInParam, IsInAnswer}
use Rattle.call_laws.proofs.RunParts.{row_fails}

-- one more address before a range
shift_range : (address count index : ℕ) → IsWordIn (address + 1) count index → IsWordIn address (suc count) index
shift_range address count index h =
    let (x, (low, high), e) = h in
    (x, (omega (arith, low), omega (arith, high)), e)

widen_range : (address count more index : ℕ) → count ≤ more → IsWordIn address count index → IsWordIn address more index
widen_range address count more index le h =
    let (x, (low, high), e) = h in
    (x, (low, omega (arith, high, le)), e)

-- stores of bytes are in their range
pub stores_within : (address : ℕ) (bytes : List ℕ) (events : List Event) → AreStores address bytes events → All (λ s. IsWordIn address (length bytes) s.index) (steps_of events)
stores_within address [] [] h = All-nil (λ (s : Step). IsWordIn address 0 s.index)
stores_within address [] (e ∷ es) h = absurd h
stores_within address (b ∷ bytes) [] h = absurd h
stores_within address (b ∷ bytes) (made s ∷ es) h =
    let here : IsWordIn address (suc (length bytes)) s.index = (address, (omega arith, omega arith), ap (λ v. v.index) h.0) in
    let rest : All (λ (u : Step). IsWordIn (address + 1) (length bytes) u.index) (steps_of es) = stores_within (address + 1) bytes es h.1 in
    All-cons (λ (u : Step). IsWordIn address (suc (length bytes)) u.index) s (steps_of es) here
    (All-weaker (λ (u : Step). IsWordIn (address + 1) (length bytes) u.index) (λ (u : Step). IsWordIn address (suc (length bytes)) u.index)
    (λ u. shift_range address (length bytes) u.index) (steps_of es) rest)
stores_within address (b ∷ bytes) (ticked k ∷ es) h = absurd h
stores_within address (b ∷ bytes) (placed k ∷ es) h = absurd h

-- the unit of a block that no row refuses fits it
divides : (d : Bool) → not d ≡ false → d ≡ true
divides true e = refl
divides false e = cc

some_length : (b : Bool) (n : ℕ) → ¬ ((if b then 0 else n) ≡ 0) → 0 < n
some_length true n h = absurd (h refl)
some_length false zero h = absurd (h refl)
some_length false (suc n) h = omega arith

unit_within : (shape : Shape) (count room : ℕ) → 0 < count → first_row (block_rows shape count room) ≡ None → shape.unit ≤ count
unit_within shape count room some e = (unit_fits shape.unit count (divides (is_divisible count shape.unit) (row_fails _ _ _ e)) some).1

-- a copy is as long as the bytes that it was made of
checked_length : (text early : Bool) (unit : ℕ) (bytes block : List ℕ) → unit ≤ length bytes
    → (if not text then Ok bytes else (if early then Err UNEXPECTED else Ok (terminated_text unit bytes))) ≡ Ok block → length block ≡ length bytes
checked_length false early unit bytes block le e = let same : bytes ≡ block = cc in ap (λ l. length l) (sym same)
checked_length true true unit bytes block le e = cc
checked_length true false unit bytes block le e = let same : terminated_text unit bytes ≡ block = cc in ap (λ l. length l) (sym same) ∙ length-text unit bytes le

-- what is put back of a block is no longer than it
back_length : (text : Bool) (unit : ℕ) (bytes : List ℕ) → unit ≤ length bytes → length (if text then cut_text unit bytes else bytes) ≤ length bytes
back_length false unit bytes le = omega arith
back_length true unit bytes le = cut_length (terminated_text unit bytes) _ (length-text unit bytes le)
  where
    cut_length : (l : List ℕ) (n : ℕ) → length l ≡ length bytes → length (take n l) ≤ length bytes
    cut_length l n e = let cut = length-take n l in omega (arith, cut, e)

module _ (f : Function) (frame : List ℕ) where
  -- a later parameter
  one_later : (p : Param) (params : List Param) (block : Option (List ℕ)) (blocks : List (Option (List ℕ))) (index : ℕ)
      → IsInParam f frame params blocks index → IsInParam f frame (p ∷ params) (block ∷ blocks) index
  one_later p params block blocks index h = record {
    place = suc h.place;
    param = h.param;
    found = h.found;
    block = h.block;
    has_block = h.has_block;
    is_back = h.is_back;
    within = h.within;
  }

  -- one parameter that is put back
  module _ (p : Param) (params : List Param) (block : List ℕ) (blocks : List (Option (List ℕ))) where
    stored_within : (out : Bool) → is_out p.class ≡ out → (bytes : List ℕ) → length bytes ≤ length_in f frame p → (events : List Event)
        → AreStoredIf out (address_in frame p) bytes events → All (λ s. IsInParam f frame (p ∷ params) (Some block ∷ blocks) s.index) (steps_of events)
    stored_within true e bytes le events h =
        let address : ℕ = address_in frame p in
        let there : All (λ (s : Step). IsWordIn address (length bytes) s.index) (steps_of events) = stores_within address bytes events h in
        let place_it : (s : Step) → IsWordIn address (length bytes) s.index → IsInParam f frame (p ∷ params) (Some block ∷ blocks) s.index = λ s w. record {
          place = zero;
          param = p;
          found = refl;
          block = block;
          has_block = refl;
          is_back = e;
          within = widen_range address (length bytes) (length_in f frame p) s.index le w;
        } in
        All-weaker (λ (s : Step). IsWordIn address (length bytes) s.index) (λ (s : Step). IsInParam f frame (p ∷ params) (Some block ∷ blocks) s.index) place_it (steps_of events) there
    stored_within false e bytes le events h =
        subst (λ es. All (λ (s : Step). IsInParam f frame (p ∷ params) (Some block ∷ blocks) s.index) (steps_of es)) (sym h)
        (All-nil (λ (s : Step). IsInParam f frame (p ∷ params) (Some block ∷ blocks) s.index))

    back_within : (room : ℕ) (copying : List Event) (later : List ℕ) → IsCopiedIn f frame room p copying block → length later ≡ length block
        → length (bytes_back (shape_of p.class) later) ≤ length_in f frame p
    back_within room copying later c same =
        let shape : Shape = shape_of p.class in
        let unit_le : shape.unit ≤ length_in f frame p = unit_within shape (length_in f frame p) room (some_length _ (length_in f frame p) c.has_block) c.allowed in
        let copy_is : length block ≡ length c.bytes =
        checked_length shape.text (has_early_end shape.unit (terminated_text shape.unit c.bytes)) shape.unit c.bytes block (subst (λ n. shape.unit ≤ n) (sym c.whole) unit_le) c.checked in
        let whole : length later ≡ length_in f frame p = same ∙ copy_is ∙ c.whole in
        subst (λ n. length (bytes_back shape later) ≤ n) whole (back_length shape.text shape.unit later (subst (λ n. shape.unit ≤ n) (sym whole) unit_le))

  -- all parameters that are put back
  pub put_within : (room : ℕ) (params : List Param) (copying : List Event) (copies blocks : List (Option (List ℕ))) (events : List Event)
      → AreCopiedIn f frame room params copying copies → KeepLengths copies blocks → ArePutBack frame (zip params blocks) events
      → All (λ s. IsInParam f frame params copies s.index) (steps_of events)
  put_within room [] copying [] blocks events c k h = subst (λ es. All (λ (s : Step). IsInParam f frame [] [] s.index) (steps_of es)) (sym h) (All-nil (λ (s : Step). IsInParam f frame [] [] s.index))
  put_within room [] copying (block ∷ copies) blocks events c k h = absurd c
  put_within room (p ∷ params) copying [] blocks events c k h = absurd c
  put_within room (p ∷ params) copying (block ∷ copies) [] events c k h = absurd k
  put_within room (p ∷ params) copying (None ∷ copies) (Some later ∷ blocks) events c k h = let none : Some (length later) ≡ None = k.0 in cc
  put_within room (p ∷ params) copying (Some block ∷ copies) (None ∷ blocks) events c k h = let none : None ≡ Some (length block) = k.0 in cc
  put_within room (p ∷ params) copying (None ∷ copies) (None ∷ blocks) events c k h =
      All-weaker (λ (s : Step). IsInParam f frame params copies s.index) (λ (s : Step). IsInParam f frame (p ∷ params) (None ∷ copies) s.index)
      (λ s. one_later p params None copies s.index) (steps_of events) (put_within room params copying copies blocks events c.1 k.1 h)
  put_within room (p ∷ params) copying (Some block ∷ copies) (Some later ∷ blocks) events c k h =
      let (loaded, others, copying_are, copied, rest_copied) = c in
      let (first, more, events_are, stored, rest_stored) = h in
      let lengths : Some (length later) ≡ Some (length block) = k.0 in
      let same : length later ≡ length block = cc in
      let P : Step → Type 0 = λ s. IsInParam f frame (p ∷ params) (Some block ∷ copies) s.index in
      let head : All P (steps_of first) =
      stored_within p params block copies (is_out p.class) refl (bytes_back (shape_of p.class) later) (back_within p params block copies room loaded later copied same) first stored in
      let tail : All P (steps_of more) =
      All-weaker (λ (s : Step). IsInParam f frame params copies s.index) P (λ s. one_later p params (Some block) copies s.index) (steps_of more)
      (put_within (room - rounded_size (length block)) params others copies blocks more rest_copied k.1 rest_stored) in
      subst (λ es. All P (steps_of es)) (sym events_are) (subst (λ l. All P l) (sym (steps_of-append first more)) (All-append P (steps_of first) (steps_of more) head tail))

low_length : (count n : ℕ) → length (low_bytes count n) ≡ count
low_length zero n = refl
low_length (suc count) n = ap (λ k. suc k) (low_length count _)

-- the return, and what is put back
pub answer_within : (m : Machine) (ocalls : Ocalls) (cx : Context) (ordinal address : ℕ) (events : List Event) (done : Answered) (run : IsAnsweredRun m ocalls cx ordinal address events done)
    → KeepLengths run.copies.blocks run.finished.blocks → All (IsInAnswer run.function run.frame address run.copies.blocks) (steps_of (run.returning ++ run.putting))
answer_within m ocalls cx ordinal address events done run kept =
    let f : Function = run.function in
    let P : Step → Type 0 = IsInAnswer f run.frame address run.copies.blocks in
    let bytes : List ℕ = low_bytes (return_size f) run.finished.value in
    let returned : All (λ (s : Step). IsWordIn address (length bytes) s.index) (steps_of run.returning) = stores_within address bytes run.returning run.returned in
    let in_field : (s : Step) → IsWordIn address (length bytes) s.index → P s = λ s w. inl (subst (λ n. IsWordIn address n s.index) (low_length (return_size f) run.finished.value) w) in
    let in_out : (s : Step) → IsInParam f run.frame (marshalled f) run.copies.blocks s.index → P s = λ s w. inr w in
    let put : All (λ (s : Step). IsInParam f run.frame (marshalled f) run.copies.blocks s.index) (steps_of run.putting) =
    put_within f run.frame cx.room (marshalled f) run.copying run.copies.blocks run.finished.blocks run.putting run.copied kept run.put_back in
    subst (λ l. All P l) (sym (steps_of-append run.returning run.putting))
    (All-append P (steps_of run.returning) (steps_of run.putting)
    (All-weaker (λ (s : Step). IsWordIn address (length bytes) s.index) P in_field (steps_of run.returning) returned)
    (All-weaker (λ (s : Step). IsInParam f run.frame (marshalled f) run.copies.blocks s.index) P in_out (steps_of run.putting) put))
