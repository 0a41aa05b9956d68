-- An entry up to its body, part by part.
use Rattle.std.proofs.Common.{ℕ, ◌≡◌, ◌<◌, ◌≤◌, Bool, true, false, not, ◌&&◌, ◌||◌, ◌==◌, nat_le, is_none, List, [], ◌∷◌, length, Option, Some, None, Result, Ok, Err, slice_get, refl, ap, sym, ◌∙◌, subst, IsTrue, arith}
use Rattle.sgx_base.specs.declared.Status.{Status}
use Rattle.sgx_base.specs.declared.TheConstants.Status.{INVALID_FUNCTION, ECALL_NOT_ALLOWED, STACK_OVERRUN}
use Rattle.sgx_base.specs.Ranges.{is_outside, is_mapped}
use Rattle.sgx_base.specs.Rows.{first_row, unless_refused}
use Rattle.edl_interface.specs.declared.Function.{Function}
use Rattle.edl_interface.specs.declared.Interface.{Interface}
use Rattle.edl_interface.specs.Parameters.{marshalled, has_frame, return_size}
use Rattle.word_port.specs.declared.Side.TheVariants.{Enclave}
use Rattle.word_port.specs.declared.RunFull.{RunFull}
use Rattle.word_port.specs.Interaction.{Interaction, ret, and_then}
use Rattle.word_port.specs.Accesses.{loads}
use Rattle.word_port.specs.Port.{PortState}
use Rattle.word_port.specs.Runs.{Leads, Makes, StopsFull}
use Rattle.word_port.proofs.Laws.{leads_nothing, leads_then, makes_ret, full_first, full_second}
use Rattle.enclave_memory.specs.Memory.{Memory, room_of}
use Rattle.bridge_program.specs.Entry.{Entered, entry_rows, is_empty, is_private, is_allowed}
use Rattle.body_vm.specs.Places.{blocks_in}
use Rattle.call_copy.specs.Stops.{IsCutShort}
use Rattle.enclave_memory.specs.declared.Block.{Block}
use Rattle.call_machine.specs.declared.Machine.{Machine}
use Rattle.call_machine.specs.declared.admission.Admitted.{Admitted}
use Rattle.call_machine.specs.declared.admission.Marks.{Marks}
use Rattle.call_machine.specs.Admitted.{HasFields, LiesOn, IsAdmitted, AreCopiesTaken, IsTaken, EntryPart, EntryLeads, EntryIsCut, refusal, loaded_by, admitted_by, body_by}
use Rattle.call_machine.specs.Bodies.{copies_held}
use Rattle.call_machine.specs.Context.{Context}
use Rattle.call_machine.specs.Ecall.{Copies, copies_in, Ocalls, Answered, body_and_answer, loaded_entry, admitted_entry, entered}
use Rattle.call_machine.specs.Entry.{HasGrown, AreBehind, AreCopied, AreCopiesOf}
use Rattle.call_machine.specs.Plain.{IsPlainFunction, IsPlainMachine}
use Rattle.call_machine.specs.Refusal.{AreAllowed, frame_rows, field_rows}
use Rattle.call_machine.specs.Result.{go_on_if_ok}
use Rattle.call_machine.specs.Tcs.{TcsState, context_of}
use Rattle.call_machine.proofs.CopiesBack.{fewer_mapped}
use Rattle.call_machine.proofs.CopyResults.{AreChecked, copies_results}
use Rattle.call_machine.proofs.HeldBlocks.{numbered_count}
use Rattle.call_machine.proofs.PlainMachines.{ecall_of}
use Rattle.call_machine.proofs.Results.{result_made}

-- ---- the fields, and the copies

-- the fields of the frame refuse it
pub fields_refuse : (m : Machine) (room ordinal address : ℕ) (f : Function) (fields : List ℕ) (port : PortState) (status : Status)
    → Err status ≡ unless_refused (first_row (field_rows m.script.settings.host f fields)) → EntryLeads (loaded_by m ordinal address f fields) room port port (refusal status)
fields_refuse m room ordinal address f fields port status e ocalls cx is =
    let refused : loaded_entry m ocalls cx ordinal address f fields ≡ ret (Err status) = rw (← e) refl in
    subst (λ t. Makes t port port (Err status)) (sym refused) (makes_ret (Err status) port)

module _ (m : Machine) (room ordinal address : ℕ) (f : Function) (fields : List ℕ) (allowed : unless_refused (first_row (field_rows m.script.settings.host f fields)) ≡ Ok tt) where
  -- the copies of the parameters, and what follows them
  abbrev copying : ℕ → Interaction (Result Copies Status)
  copying left = copies_in f fields left (marshalled f)

  abbrev going_on : Ocalls → Context → Result Copies Status → Interaction (Result Answered Status)
  going_on ocalls cx = go_on_if_ok (λ copies. body_and_answer m ocalls cx ordinal f address fields copies)

  two_parts : (ocalls : Ocalls) (cx : Context) → loaded_entry m ocalls cx ordinal address f fields ≡ and_then (copying cx.room) (going_on ocalls cx)
  two_parts ocalls cx = rw allowed refl

  then_copies : (old new : PortState) (copied : Result Copies Status) → Makes (copying room) old new copied
      → (ocalls : Ocalls) (cx : Context) → cx.room ≡ room → Leads (loaded_entry m ocalls cx ordinal address f fields) old new (going_on ocalls cx copied)
  then_copies old new copied made ocalls cx is =
      subst (λ t. Leads t old new (going_on ocalls cx copied)) (sym (two_parts ocalls cx))
      (leads_then (copying cx.room) (going_on ocalls cx) (going_on ocalls cx copied) old new new copied
      (subst (λ n. Makes (copying n) old new copied) (sym is) made) (leads_nothing (going_on ocalls cx copied) new))

  -- a parameter is refused
  pub copy_refused : (old new : PortState) (status : Status) → Makes (copying room) old new (Err status) → EntryLeads (loaded_by m ordinal address f fields) room old new (refusal status)
  copy_refused old new status made = then_copies old new (Err status) made

  -- the parameters are copied
  pub copies_made : (old new : PortState) (copies : Copies) → Makes (copying room) old new (Ok copies)
      → EntryLeads (loaded_by m ordinal address f fields) room old new (body_by m ordinal address f fields copies)
  copies_made old new copies made = then_copies old new (Ok copies) made

  -- the log is full as they are copied
  pub copies_cut : (old new : PortState) (full : RunFull) → IsCutShort (copying room) old new full → EntryIsCut (loaded_by m ordinal address f fields) room old new full
  copies_cut old new full cut ocalls cx is = (
    cut.0,
    subst (λ t. StopsFull t old new) (sym (two_parts ocalls cx))
        (full_first (copying cx.room) (going_on ocalls cx) old new (subst (λ n. StopsFull (copying n) old new) (sym is) cut.1)),
  )

-- the copies are those of the parameters, one for each
copies_are : (f : Function) (fields : List ℕ) (room : ℕ) (old new : PortState) (copies : Copies) → Makes (copies_in f fields room (marshalled f)) old new (Ok copies)
    → AreCopiesOf f fields (marshalled f) copies.blocks × (length copies.blocks ≡ length (marshalled f))
copies_are f fields room old new copies made =
    result_made (AreChecked f fields (marshalled f)) (copies_in f fields room (marshalled f)) old new (Ok copies) (copies_results f fields room (marshalled f)) made

-- what is known of them
pub copies_taken : (m : Machine) (ordinal address : ℕ) (f : Function) (fields : List ℕ) (allowed : unless_refused (first_row (field_rows m.script.settings.host f fields)) ≡ Ok tt)
    (before now : Memory) (old new : PortState) (blocks : List (Option Block)) → AreCopied f fields before now old new blocks → HasGrown before now
    → AreCopiesTaken m (loaded_by m ordinal address f fields) ordinal address f fields before now old new blocks
copies_taken m ordinal address f fields allowed before now old new blocks copied grown =
    let are : AreCopiesOf f fields (marshalled f) (blocks_in now copied.numbers) × (length (blocks_in now copied.numbers) ≡ length (marshalled f)) =
    copies_are f fields (room_of before) old new (copies_held now copied.numbers) copied.made in
    record {
      numbers = copied.numbers;
      leads = copies_made m (room_of before) ordinal address f fields allowed old new (copies_held now copied.numbers) copied.made;
      allowed = allowed;
      held = copied.held;
      behind = copied.behind;
      count = numbered_count now blocks copied.numbers copied.held.numbered ∙ are.1;
      copies = are.0;
      grown = grown;
    }

-- ---- the frame before them

module _ (m : Machine) (room ordinal address : ℕ) (f : Function) where
  abbrev loading : Interaction (List ℕ)
  loading = loads Enclave address f.frame_size

  abbrev after_frame : Ocalls → Context → List ℕ → Interaction (Result Answered Status)
  after_frame ocalls cx fields = loaded_entry m ocalls cx ordinal address f fields

  pub frame_then : (old mid new : PortState) (fields : List ℕ) (rest : EntryPart) → Makes loading old mid fields
      → EntryLeads (loaded_by m ordinal address f fields) room mid new rest → EntryLeads (admitted_by m ordinal address f) room old new rest
  frame_then old mid new fields rest loaded p ocalls cx is = leads_then loading (after_frame ocalls cx) (rest ocalls cx) old mid new fields loaded (p ocalls cx is)

  pub frame_cut : (old new : PortState) (full : RunFull) → IsCutShort loading old new full → EntryIsCut (admitted_by m ordinal address f) room old new full
  frame_cut old new full cut ocalls cx is = (cut.0, full_first loading (after_frame ocalls cx) old new cut.1)

  pub frame_then_cut : (old mid new : PortState) (fields : List ℕ) (full : RunFull) → Makes loading old mid fields
      → EntryIsCut (loaded_by m ordinal address f fields) room mid new full → EntryIsCut (admitted_by m ordinal address f) room old new full
  frame_then_cut old mid new fields full loaded cut ocalls cx is =
      let later : IsCutShort (after_frame ocalls cx fields) mid new full = cut ocalls cx is in
      (later.0, full_second loading (after_frame ocalls cx) old mid new fields loaded later.1)

  -- so is what is known of the copies, with the frame's
  pub frame_taken : (frames later before now : Memory) (old mid new : PortState) (fields : List ℕ) (block : Option Block) (blocks : List (Option Block)) → Makes loading old mid fields
      → HasFields later block fields → HasGrown frames later → AreCopiesTaken m (loaded_by m ordinal address f fields) ordinal address f fields before now mid new blocks
      → IsTaken m ordinal address f frames later before now old new block blocks
  frame_taken frames later before now old mid new fields block blocks loaded has grown taken = record {
    fields = fields;
    has_fields = has;
    frames_grown = grown;
    taken = record {
      numbers = taken.numbers;
      leads = λ ocalls cx is. leads_then loading (after_frame ocalls cx) (body_and_answer m ocalls cx ordinal f address fields (copies_held now taken.numbers)) old mid new fields loaded
          (taken.leads ocalls cx is);
      allowed = taken.allowed;
      held = taken.held;
      behind = taken.behind;
      count = taken.count;
      copies = taken.copies;
      grown = taken.grown;
    };
  }

-- ---- the rows before it

-- the table or the stack refuses it
pub rows_refuse : (m : Machine) (t : TcsState) (ordinal address : ℕ) (port : PortState) (status : Status)
    → Err status ≡ unless_refused (first_row (entry_rows m.interface t.stack ordinal))
    → (ocalls : Ocalls) → Makes (entered m ocalls (context_of t) ordinal address) port port (Err status)
rows_refuse m t ordinal address port status e ocalls =
    let refused : entered m ocalls (context_of t) ordinal address ≡ ret (Err status) = rw (← e) refl in
    subst (λ u. Makes u port port (Err status)) (sym refused) (makes_ret (Err status) port)

module _ (m : Machine) (t : TcsState) (ordinal address : ℕ) (f : Function) (found : slice_get m.interface.ecalls ordinal ≡ Some f)
    (entry : unless_refused (first_row (entry_rows m.interface t.stack ordinal)) ≡ Ok tt) where
  -- the frame's address refuses it
  pub frame_refuses : (port : PortState) (status : Status) → Err status ≡ unless_refused (first_row (frame_rows m.script.settings.host f address))
      → (ocalls : Ocalls) → Makes (entered m ocalls (context_of t) ordinal address) port port (Err status)
  frame_refuses port status e ocalls =
      let refused : entered m ocalls (context_of t) ordinal address ≡ ret (Err status) = rw (entry, found, ← e) refl in
      subst (λ u. Makes u port port (Err status)) (sym refused) (makes_ret (Err status) port)

  module _ (frame : unless_refused (first_row (frame_rows m.script.settings.host f address)) ≡ Ok tt) where
    entered_is : (ocalls : Ocalls) → entered m ocalls (context_of t) ordinal address ≡ admitted_entry m ocalls (context_of t) ordinal address f
    entered_is ocalls = rw (entry, found, frame) refl

    pub entered_leads : (room : ℕ) (old new : PortState) (rest : EntryPart) → room_of t.arena ≡ room → EntryLeads (admitted_by m ordinal address f) room old new rest
        → (ocalls : Ocalls) → Leads (entered m ocalls (context_of t) ordinal address) old new (rest ocalls (context_of t))
    entered_leads room old new rest is p ocalls = subst (λ u. Leads u old new (rest ocalls (context_of t))) (sym (entered_is ocalls)) (p ocalls (context_of t) is)

    pub entered_cut : (room : ℕ) (old new : PortState) (full : RunFull) → room_of t.arena ≡ room → EntryIsCut (admitted_by m ordinal address f) room old new full
        → (ocalls : Ocalls) → IsCutShort (entered m ocalls (context_of t) ordinal address) old new full
    entered_cut room old new full is p ocalls = subst (λ u. IsCutShort u old new full) (sym (entered_is ocalls)) (p ocalls (context_of t) is)

-- ---- what rows that refuse nothing say

rows_allow : (a b c d : Bool) (s t u v : Status)
    → unless_refused (first_row (record { holds = a; status = s } ∷ record { holds = b; status = t } ∷ record { holds = c; status = u } ∷ record { holds = d; status = v } ∷ [])) ≡ Ok tt
    → (a ≡ false) × (d ≡ false)
rows_allow true b c d s t u v e = absurd cc
rows_allow false true c d s t u v e = absurd cc
rows_allow false false true d s t u v e = absurd cc
rows_allow false false false true s t u v e = absurd cc
rows_allow false false false false s t u v e = (refl, refl)

not_full : (n : ℕ) → nat_le 16 n ≡ false → n < 16
not_full n e = grind arith

-- the call stack takes one more entry
pub entry_fits : (i : Interface) (stack : List Entered) (ordinal : ℕ) → unless_refused (first_row (entry_rows i stack ordinal)) ≡ Ok tt → length stack < 16
entry_fits i stack ordinal e =
    not_full (length stack)
    (rows_allow (is_none (slice_get i.ecalls ordinal)) (is_empty stack && is_private (slice_get i.ecalls ordinal)) (not (is_empty stack) && not (is_allowed i stack ordinal))
    (nat_le 16 (length stack)) INVALID_FUNCTION ECALL_NOT_ALLOWED ECALL_NOT_ALLOWED STACK_OVERRUN e).1

frame_rows_allow : (x y : Bool) (s t : Status) → unless_refused (first_row (record { holds = x; status = s } ∷ record { holds = y; status = t } ∷ [])) ≡ Ok tt → (x ≡ false) × (y ≡ false)
frame_rows_allow true y s t e = cc
frame_rows_allow false true s t e = cc
frame_rows_allow false false s t e = (refl, refl)

framed : (has null outside mapped : Bool) → (has && (null || not (outside && mapped))) ≡ false → has ≡ true → IsTrue mapped
framed false null outside mapped e h = cc
framed true true outside mapped e h = cc
framed true false false mapped e h = cc
framed true false true false e h = cc
framed true false true true e h = refl

-- the frame of an entry that its address allows is host memory
pub frame_mapped : (host address : ℕ) (f : Function) → IsPlainFunction true f → unless_refused (first_row (frame_rows host f address)) ≡ Ok tt → IsTrue (is_mapped host address f.frame_size)
frame_mapped host address f plain e = by_frame (has_frame f) refl
  where
    by_frame : (b : Bool) → has_frame f ≡ b → IsTrue (is_mapped host address f.frame_size)
    by_frame true h = framed (has_frame f) (address == 0) (is_outside address f.frame_size) (is_mapped host address f.frame_size) (frame_rows_allow _ _ _ _ e).1 h
    by_frame false h = subst (λ n. IsTrue (is_mapped host address n)) (sym (plain.runnable.no_frame h)) refl

-- ---- an entry that is on the call stack, before anything is copied

pub record IsJustEntered (before now : TcsState) (ordinal : ℕ) (marks : Marks) : Type 0 where
  pub lies : LiesOn before now ordinal marks
  pub frames : now.frames ≡ before.frames
  pub arena : now.arena ≡ before.arena
  pub waits : now.waits ≡ before.waits

pub just_entered : (first now viewed : TcsState) (ordinal : ℕ) (marks : Marks) → viewed ≡ now → LiesOn first now ordinal marks → now.frames ≡ first.frames → now.arena ≡ first.arena → now.waits ≡ first.waits
    → IsJustEntered first viewed ordinal marks
just_entered first now viewed ordinal marks view_is lies frames arena waits =
    subst (λ (t : TcsState). IsJustEntered first t ordinal marks) (sym view_is) (record { lies = lies; frames = frames; arena = arena; waits = waits })

module _ (first now : TcsState) (ordinal : ℕ) (marks : Marks) (entered_now : IsJustEntered first now ordinal marks) where
  -- it lies there still, once blocks were pushed
  pub lies_grown : (frames arena : Memory) → HasGrown now.frames frames → HasGrown now.arena arena → LiesOn first (record now { frames = frames; arena = arena }) ordinal marks
  lies_grown frames arena frames_grown arena_grown = record {
    grown = ap (λ (t : TcsState). record t { frames = frames; arena = arena }) entered_now.lies.grown;
    frames = subst (λ (f : Memory). HasGrown f frames) entered_now.frames frames_grown;
    arena = subst (λ (a : Memory). HasGrown a arena) entered_now.arena arena_grown;
    frames_mark = entered_now.lies.frames_mark;
    arena_mark = entered_now.lies.arena_mark;
    least = entered_now.lies.least;
  }

  -- and what was before it is there once it has left
  pub left_again : (last : TcsState) → last ≡ record first { waits = now.waits } → last ≡ first
  left_again last left = left ∙ ap (λ (w : ℕ). record first { waits = w }) entered_now.waits

  same_room : room_of first.arena ≡ room_of now.arena
  same_room = ap (λ (a : Memory). room_of a) (sym entered_now.arena)

  module _ (m : Machine) (plain : IsPlainMachine m) (address : ℕ) (f : Function) (found : slice_get m.interface.ecalls ordinal ≡ Some f)
      (entry : unless_refused (first_row (entry_rows m.interface first.stack ordinal)) ≡ Ok tt)
      (frame : unless_refused (first_row (frame_rows m.script.settings.host f address)) ≡ Ok tt) where
    pub is_refused : (old new : PortState) (status : Status) → EntryLeads (admitted_by m ordinal address f) (room_of now.arena) old new (refusal status)
        → (ocalls : Ocalls) → Makes (entered m ocalls (context_of first) ordinal address) old new (Err status)
    is_refused old new status p = entered_leads m first ordinal address f found entry frame (room_of now.arena) old new (refusal status) same_room p

    pub is_cut : (old new : PortState) (full : RunFull) → EntryIsCut (admitted_by m ordinal address f) (room_of now.arena) old new full
        → (ocalls : Ocalls) → IsCutShort (entered m ocalls (context_of first) ordinal address) old new full
    is_cut old new full p = entered_cut m first ordinal address f found entry frame (room_of now.arena) old new full same_room p

    pub is_admitted : (frames arena : Memory) (old new : PortState) (block : Option Block) (blocks : List (Option Block)) (admitted : Admitted) → (admitted.function.now ≡ f) → (admitted.fields ≡ block) → (admitted.marks ≡ marks)
        → IsTaken m ordinal address f now.frames frames now.arena arena old new block blocks
        → IsAdmitted m ordinal address old new first (record now { frames = frames; arena = arena }) admitted blocks
    is_admitted frames arena old new block blocks admitted function_is block_is marks_are taken =
        let known : IsPlainFunction true f = ecall_of m plain ordinal f found in
        let leads : (ocalls : Ocalls) → Leads (entered m ocalls (context_of first) ordinal address) old new
        (body_and_answer m ocalls (context_of first) ordinal f address taken.fields (copies_held arena taken.taken.numbers)) =
        entered_leads m first ordinal address f found entry frame (room_of now.arena) old new (body_by m ordinal address f taken.fields (copies_held arena taken.taken.numbers)) same_room taken.taken.leads in
        let mapped : IsTrue (is_mapped m.script.settings.host address (return_size f)) =
        fewer_mapped m.script.settings.host address f.frame_size (return_size f) known.runnable.return_fits (frame_mapped m.script.settings.host address f known frame) in
        record {
          found = found ∙ ap (λ (g : Function). Some g) (sym function_is);
          fields = taken.fields;
          numbers = taken.taken.numbers;
          leads = subst (λ (g : Function). (ocalls : Ocalls) → Leads (entered m ocalls (context_of first) ordinal address) old new
              (body_and_answer m ocalls (context_of first) ordinal g address taken.fields (copies_held arena taken.taken.numbers))) (sym function_is) leads;
          mapped = subst (λ (g : Function). IsTrue (is_mapped m.script.settings.host address (return_size g))) (sym function_is) mapped;
          allowed = subst (λ (g : Function). AreAllowed m.script.settings.host g taken.fields) (sym function_is) taken.taken.allowed;
          has_fields = subst (λ (b : Option Block). HasFields frames b taken.fields) (sym block_is) taken.has_fields;
          held = taken.taken.held;
          behind = subst (λ (a : Memory). AreBehind (length a.blocks) taken.taken.numbers) entered_now.arena taken.taken.behind;
          count = taken.taken.count ∙ ap (λ (g : Function). length (marshalled g)) (sym function_is);
          copies = subst (λ (g : Function). AreCopiesOf g taken.fields (marshalled g) (blocks_in arena taken.taken.numbers)) (sym function_is) taken.taken.copies;
          lies = subst (λ (k : Marks). LiesOn first (record now { frames = frames; arena = arena }) ordinal k) (sym marks_are)
              (lies_grown frames arena taken.frames_grown taken.taken.grown);
          waits = entered_now.waits;
          shallow = entry_fits m.interface first.stack ordinal entry;
        }
