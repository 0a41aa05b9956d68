-- The runs of the copies of parameters.
use Rattle.std.proofs.Common.{ℕ, ◌-◌, ◌≡◌, ◌==◌, ◌⊎◌, inl, inr, Bool, true, false, if◌then◌else◌, List, [], ◌∷◌, ◌++◌, length, Option, Some, None, Result, Ok, Err, refl, ap, sym, ◌∙◌, subst, append-nil, append_assoc}
use Rattle.std.proofs.lemmas.Bool.{eqb-true, eqb-false}
use Rattle.sgx_base.specs.Bytes.{rounded_size}
use Rattle.sgx_base.specs.Passing.{is_inward}
use Rattle.sgx_base.specs.Rows.{first_row}
use Rattle.sgx_base.specs.declared.Status.{Status}
use Rattle.edl_interface.specs.declared.Class.{Class}
use Rattle.edl_interface.specs.declared.Class.TheVariants.{Plain as by_value, UserCheck, Buffer, Text, Fixed, Foreign}
use Rattle.edl_interface.specs.declared.Function.{Function}
use Rattle.edl_interface.specs.declared.Param.{Param}
use Rattle.edl_interface.specs.Parameters.{is_in, address_in}
use Rattle.edl_interface.specs.Lengths.{length_in, copied_length}
use Rattle.word_port.specs.Events.{Event}
use Rattle.word_port.specs.Interaction.{Interaction, map_value, IsRun}
use Rattle.call_copy.specs.declared.Shape.{Shape}
use Rattle.call_copy.specs.Copies.{block_rows, first_bytes, checked_bytes, copy_unless, copy_in}
use Rattle.call_machine.specs.Result.{go_on_if_ok, and_then_ok}
use Rattle.call_machine.specs.Ecall.{Copies, with_first, copies_in, shape_of}
use Rattle.call_laws.specs.Transfers.{AreFirstBytes}
use Rattle.call_laws.specs.Copying.{room_after, AreCopiedIn, IsCopiedIn}
use Rattle.call_laws.specs.Refusing.{IsRefusedParam, IsRefusedCopying}
use Rattle.call_laws.proofs.RunParts.{IsTwoRuns, two_runs, ret_run, IsMappedRun, mapped_run}
use Rattle.call_laws.proofs.TransferLaws.{first_run}

-- what a run of the copies comes to
abbrev pub CopiesRun : Function → List ℕ → ℕ → List Param → List Event → Result Copies Status → Type 0
CopiesRun f frame room params events (Ok copies) = AreCopiedIn f frame room params events copies.blocks × (copies.room ≡ room_after room copies.blocks)
CopiesRun f frame room params events (Err status) = IsRefusedCopying f frame room params events status

-- a refusal by a row, or the first bytes and their check
abbrev CopyRun : Option Status → Shape → ℕ → ℕ → List Event → Result (List ℕ) Status → Type 0
CopyRun o shape address count events y =
    ((status : Status) × (o ≡ Some status) × (events ≡ []) × (Err status ≡ y))
    ⊎ ((o ≡ None) × (bytes : List ℕ) × IsRun (first_bytes shape address count) events bytes × (checked_bytes shape bytes ≡ y))

copy_run_by : (o : Option Status) (shape : Shape) (address count : ℕ) (events : List Event) (y : Result (List ℕ) Status)
    → IsRun (copy_unless o shape address count) events y → CopyRun o shape address count events y
copy_run_by (Some status) shape address count events y h =
    let end : (events ≡ []) × (Err status ≡ y) = ret_run (Err status) events y h in
    inl (status, refl, end.0, end.1)
copy_run_by None shape address count events y h =
    let r : IsMappedRun (checked_bytes shape) (first_bytes shape address count) events y = mapped_run (checked_bytes shape) (first_bytes shape address count) events y h in
    inr (refl, r.value, r.run, r.value_is)

copy_run : (shape : Shape) (address count room : ℕ) (events : List Event) (y : Result (List ℕ) Status)
    → IsRun (copy_in shape address count room) events y → CopyRun (first_row (block_rows shape count room)) shape address count events y
unfolding copy_in
copy_run shape address count room events y h = copy_run_by (first_row (block_rows shape count room)) shape address count events y h

either_same : (b : Bool) (n : ℕ) → (if b then n else n) ≡ n
either_same true n = refl
either_same false n = refl

-- a parameter with a length is copied as its class says
pub way_is : (f : Function) (frame : List ℕ) (p : Param) (class : Class) → ¬ (copied_length f frame (record p { class = class }) ≡ 0) → is_inward (shape_of class).way ≡ is_in class
way_is f frame p (by_value plain) h = absurd (h (either_same (address_in frame p == 0) 0))
way_is f frame p UserCheck h = absurd (h (either_same (address_in frame p == 0) 0))
way_is f frame p (Buffer way size count unit) h = refl
way_is f frame p (Text way unit) h = refl
way_is f frame p (Fixed way count unit) h = refl
way_is f frame p (Foreign way) h = absurd (h (either_same (address_in frame p == 0) 0))

module _ (f : Function) (frame : List ℕ) (p : Param) (rest : List Param) (room : ℕ) where
  -- a parameter with no block
  no_block : (events : List Event) (x : Result Copies Status) → copied_length f frame p ≡ 0 → CopiesRun f frame room rest events x → CopiesRun f frame room (p ∷ rest) events (with_first None x)
  no_block events (Ok copies) e c = ((e, c.0), c.1)
  no_block events (Err status) e c = record {
    before = p ∷ c.before;
    next = c.next;
    later = c.later;
    params_are = ap (λ l. p ∷ l) c.params_are;
    copying = c.copying;
    blocks = None ∷ c.blocks;
    copied = (e, c.copied);
    has_block = c.has_block;
    ending = c.ending;
    refused = c.refused;
    events_are = c.events_are;
  }

  -- a parameter with a block
  some_block : (first more : List Event) (block : List ℕ) (x : Result Copies Status) → IsCopiedIn f frame room p first block
      → CopiesRun f frame (room - rounded_size (length block)) rest more x → CopiesRun f frame room (p ∷ rest) (first ++ more) (with_first (Some block) x)
  some_block first more block (Ok copies) copied c = ((first, more, refl, copied, c.0), c.1)
  some_block first more block (Err status) copied c = record {
    before = p ∷ c.before;
    next = c.next;
    later = c.later;
    params_are = ap (λ l. p ∷ l) c.params_are;
    copying = first ++ c.copying;
    blocks = Some block ∷ c.blocks;
    copied = (first, c.copying, refl, copied, c.copied);
    has_block = c.has_block;
    ending = c.ending;
    refused = c.refused;
    events_are = ap (λ l. first ++ l) c.events_are ∙ sym (append_assoc first c.copying c.ending);
  }

  -- a parameter that is refused
  refused_first : (events : List Event) (status : Status) → ¬ (copied_length f frame p ≡ 0) → IsRefusedParam f frame room p events status → CopiesRun f frame room (p ∷ rest) events (Err status)
  refused_first events status some refused = record {
    before = [];
    next = p;
    later = rest;
    params_are = refl;
    copying = [];
    blocks = [];
    copied = refl;
    has_block = some;
    ending = events;
    refused = refused;
    events_are = refl;
  }

  module _ (some : ¬ (copied_length f frame p ≡ 0)) (more : (r : ℕ) (es : List Event) (z : Result Copies Status) → IsRun (copies_in f frame r rest) es z → CopiesRun f frame r rest es z) where
    -- what follows a block
    abbrev after_block : List ℕ → Interaction (Result Copies Status)
    after_block bytes = map_value (with_first (Some bytes)) (copies_in f frame (room - rounded_size (length bytes)) rest)

    -- the first bytes of its block
    first_bytes_are : (events : List Event) (bytes : List ℕ) → IsRun (first_bytes (shape_of p.class) (address_in frame p) (length_in f frame p)) events bytes
        → (length bytes ≡ length_in f frame p) × AreFirstBytes (is_in p.class) (address_in frame p) bytes events
    first_bytes_are events bytes h =
        let (whole, first) = first_run (is_inward (shape_of p.class).way) (address_in frame p) (length_in f frame p) events bytes h in
        (whole, subst (λ b. AreFirstBytes b (address_in frame p) bytes events) (way_is f frame p p.class some) first)

    block_taken : (first rest_events : List Event) (block : List ℕ) (y : Result Copies Status)
        → CopyRun (first_row (block_rows (shape_of p.class) (length_in f frame p) room)) (shape_of p.class) (address_in frame p) (length_in f frame p) first (Ok block)
        → IsRun (after_block block) rest_events y → CopiesRun f frame room (p ∷ rest) (first ++ rest_events) y
    block_taken first rest_events block y (inl q) h = cc
    block_taken first rest_events block y (inr q) h =
        let r : IsMappedRun (with_first (Some block)) (copies_in f frame (room - rounded_size (length block)) rest) rest_events y =
        mapped_run (with_first (Some block)) (copies_in f frame (room - rounded_size (length block)) rest) rest_events y h in
        let bytes = first_bytes_are first q.1 q.2 in
        let copied : IsCopiedIn f frame room p first block = record {
          has_block = some;
          allowed = q.0;
          bytes = q.1;
          whole = bytes.0;
          first = bytes.1;
          checked = q.3;
        } in
        subst (λ z. CopiesRun f frame room (p ∷ rest) (first ++ rest_events) z) r.value_is
        (some_block first rest_events block r.value copied (more (room - rounded_size (length block)) rest_events r.value r.run))

    block_refused : (events : List Event) (status : Status)
        → CopyRun (first_row (block_rows (shape_of p.class) (length_in f frame p) room)) (shape_of p.class) (address_in frame p) (length_in f frame p) events (Err status)
        → CopiesRun f frame room (p ∷ rest) events (Err status)
    block_refused events status (inl q) =
        let (other, row, none, same) = q in
        let same_status : other ≡ status = cc in
        refused_first events status some (inl (row ∙ ap (λ s. Some s) same_status, none))
    block_refused events status (inr q) =
        let bytes = first_bytes_are events q.1 q.2 in
        refused_first events status some (inr (record {
          allowed = q.0;
          bytes = q.1;
          whole = bytes.0;
          first = bytes.1;
          refused = q.3;
        }))

    block_run : (first rest_events : List Event) (middle : Result (List ℕ) Status) (y : Result Copies Status)
        → CopyRun (first_row (block_rows (shape_of p.class) (length_in f frame p) room)) (shape_of p.class) (address_in frame p) (length_in f frame p) first middle
        → IsRun (go_on_if_ok after_block middle) rest_events y → CopiesRun f frame room (p ∷ rest) (first ++ rest_events) y
    block_run first rest_events (Ok block) y c h = block_taken first rest_events block y c h
    block_run first rest_events (Err status) y c h =
        let end : (rest_events ≡ []) × (Err status ≡ y) = ret_run (Err status) rest_events y h in
        subst (λ z. CopiesRun f frame room (p ∷ rest) (first ++ rest_events) z) end.1
        (subst (λ es. CopiesRun f frame room (p ∷ rest) es (Err status)) (sym (ap (λ l. first ++ l) end.0 ∙ append-nil first)) (block_refused first status c))

-- one more parameter
one_more : (f : Function) (frame : List ℕ) (p : Param) (rest : List Param) (room : ℕ) (events : List Event) (y : Result Copies Status)
    → ((r : ℕ) (es : List Event) (z : Result Copies Status) → IsRun (copies_in f frame r rest) es z → CopiesRun f frame r rest es z)
    → (b : Bool) → (copied_length f frame p == 0) ≡ b
    → IsRun (if b then map_value (with_first None) (copies_in f frame room rest)
    else and_then_ok (copy_in (shape_of p.class) (address_in frame p) (length_in f frame p) room) (λ bytes.
    map_value (with_first (Some bytes)) (copies_in f frame (room - rounded_size (length bytes)) rest))) events y
    → CopiesRun f frame room (p ∷ rest) events y
one_more f frame p rest room events y more true e h =
    let r : IsMappedRun (with_first None) (copies_in f frame room rest) events y = mapped_run (with_first None) (copies_in f frame room rest) events y h in
    subst (λ z. CopiesRun f frame room (p ∷ rest) events z) r.value_is
    (no_block f frame p rest room events r.value (eqb-true (copied_length f frame p) 0 e) (more room events r.value r.run))
one_more f frame p rest room events y more false e h =
    let some : ¬ (copied_length f frame p ≡ 0) = eqb-false (copied_length f frame p) 0 e in
    let copying : Interaction (Result (List ℕ) Status) = copy_in (shape_of p.class) (address_in frame p) (length_in f frame p) room in
    let after : List ℕ → Interaction (Result Copies Status) = λ bytes. map_value (with_first (Some bytes)) (copies_in f frame (room - rounded_size (length bytes)) rest) in
    let r : IsTwoRuns copying (go_on_if_ok after) events y = two_runs copying (go_on_if_ok after) events y h in
    subst (λ es. CopiesRun f frame room (p ∷ rest) es y) (sym r.events_are)
    (block_run f frame p rest room some more r.first r.rest r.middle y
    (copy_run (shape_of p.class) (address_in frame p) (length_in f frame p) room r.first r.middle r.first_run) r.rest_run)

-- all parameters
pub copies_run : (f : Function) (frame : List ℕ) (params : List Param) (room : ℕ) (events : List Event) (y : Result Copies Status)
    → IsRun (copies_in f frame room params) events y → CopiesRun f frame room params events y
copies_run f frame [] room events y h =
    let end : (events ≡ []) × (Ok (record { blocks = []; room = room }) ≡ y) = ret_run (Ok (record { blocks = []; room = room })) events y h in
    subst (λ z. CopiesRun f frame room [] events z) end.1 (end.0, refl)
copies_run f frame (p ∷ rest) room events y h =
    one_more f frame p rest room events y (λ r es z g. copies_run f frame rest r es z g) (copied_length f frame p == 0) refl h
