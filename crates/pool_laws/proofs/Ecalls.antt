-- An ECALL comes to slots by roles alone, where its OCALLs do.
use Rattle.std.proofs.Common.{ℕ, zero, suc, ◌+◌, ◌-◌, ◌*◌, ◌%◌, ◌^◌, ◌≡◌, ◌≢◌, ◌<◌, ◌≤◌, ◌==◌, Bool, true, false, if◌then◌else◌, List, [], ◌∷◌, ◌++◌, length, map, zip, Option, Some, None, slice_get, Result, Ok, Err, slice_index, slice_set, bit_and, bit_or, bit_xor, sum, replicate, refl, ap, sym, ◌∙◌, subst, arith, inl, append_assoc}
use Rattle.std.specs.List.{AllByRecursion}
use Rattle.std.proofs.lemmas.List.Elements.{recursion_from_All}
use Rattle.sgx_base.specs.Bytes.{low_bytes, rounded_size}
use Rattle.sgx_base.specs.Rows.{first_row, unless_refused}
use Rattle.sgx_base.specs.Passing.{is_inward}
use Rattle.sgx_base.specs.declared.Status.{Status}
use Rattle.edl_interface.specs.declared.Function.{Function}
use Rattle.edl_interface.specs.declared.Param.{Param}
use Rattle.edl_interface.specs.Parameters.{marshalled, is_out, address_in, return_size}
use Rattle.edl_interface.specs.Lengths.{length_in, copied_length}
use Rattle.edl_interface.specs.Runnable.{IsRunnableFunction}
use Rattle.word_port.specs.declared.Step.{Step}
use Rattle.word_port.specs.declared.Side.TheVariants.{Enclave, Pool as by_pool}
use Rattle.word_port.specs.Requests.{Request, request_of}
use Rattle.word_port.specs.Events.{Event, placed, steps_of}
use Rattle.word_port.specs.Interaction.{Interaction, ret, here, and_then, map_value, AllRequests}
use Rattle.word_port.specs.Accesses.{loads, stores}
use Rattle.word_port.proofs.Laws.{steps_of-append}
use Rattle.word_port.proofs.RequestLaws.{AllSteps, all_and_then, steps_of_run}
use Rattle.call_copy.specs.declared.Shape.{Shape}
use Rattle.call_copy.specs.Copies.{block_rows, first_bytes, checked_bytes, copy_unless, copy_in, copy_out, bytes_back}
use Rattle.enclave_memory.specs.Arguments.{Argument, argument_of}
use Rattle.body_vm.specs.declared.Action.{Action}
use Rattle.body_vm.specs.declared.Action.TheVariants.{Set, Add, Sub, Mul, And, Or, Xor, Len, Sum, Get, Put, Fill, Copy, Temp, Cload, Cswap, Cadd, Ccas, Ocall, Skipz, Skipnz, Return}
use Rattle.body_vm.specs.State.{State, operand, register, with_register, block, with_block, with_new_block, overlay}
use Rattle.body_vm.specs.Execution.{Execution, returned, on_cell, on_ocall, OcallAnswer, with_answer, execution_from, execution}
use Rattle.bridge_program.specs.Entry.{entry_rows}
use Rattle.call_script.specs.Words.{ecall_slots}
use Rattle.call_report.specs.declared.Way.{Way}
use Rattle.switchless.specs.Caller.{more_than_any}
use Rattle.switchless_laws.specs.Phases.{idle}
use Rattle.call_machine.specs.declared.Machine.{Machine}
use Rattle.call_machine.specs.Context.{Context, context_in_ecall}
use Rattle.call_machine.specs.Refusal.{frame_rows, field_rows}
use Rattle.call_machine.specs.Result.{go_on_if_ok}
use Rattle.call_machine.specs.Ecall.{Ocalls, Copies, Finished, Answered, shape_of, with_first, copies_in, copies_out, actions_of, body_of, answer_of, after_records, interpret, put_answer, body_and_answer, loaded_entry, admitted_entry, entry_at, entered, ecall_outcome, ecall_by}
use Rattle.call_laws.specs.Transfers.{loads_of}
use Rattle.call_laws.specs.Answering.{IsAnsweredRun}
use Rattle.call_laws.specs.Within.{IsInAnswer}
use Rattle.call_laws.proofs.Lengths.{OcallsKeepLengths}
use Rattle.call_laws.proofs.EntryLaws.{EntryRun, entered_run}
use Rattle.call_laws.proofs.KeepingLaws.{copies_kept}
use Rattle.call_laws.proofs.WithinLaws.{answer_within}
use Rattle.run_laws.proofs.InHost.{InHost, refused_in, arguments_in, answer_in}
use Rattle.run_laws.proofs.FitLaws.{FitOcall, AsksFitting, body_fits}
use Rattle.pool_laws.specs.Machines.{AreOnCells, IsBoundedMachine}
use Rattle.pool_laws.proofs.ByRoles.{Plays, IsMine, ByRoles, roles_ret, roles_then, roles_map, roles_here, roles_ask, plays_two, plays_other, requests_of_runs}
use Rattle.pool_laws.proofs.Transfers.{enclave_beside}

-- whatever it is answered, a body steps on cells below this number alone
abbrev AsksOnCells : ℕ → Execution → Type 0
AsksOnCells cells (returned value blocks) = Unit {0}
AsksOnCells cells (on_cell q next) = (q.cell < cells) × ((old : ℕ) → AsksOnCells cells (next old))
AsksOnCells cells (on_ocall q next) = (answer : OcallAnswer) → AsksOnCells cells (next answer)

on_cells : (cells : ℕ) (s : State) (skip : ℕ) (actions : List Action) → AreOnCells cells actions
    → AsksOnCells cells (execution_from s skip actions)
on_cells cells s skip [] a = tt
on_cells cells s (suc skip) (action ∷ rest) a = on_cells cells s skip rest a.1
on_cells cells s zero (Set r v ∷ rest) a = on_cells cells (with_register s r (operand s v)) zero rest a.1
on_cells cells s zero (Add r v ∷ rest) a = on_cells cells (with_register s r
    ((register s r + operand s v) % 2 ^ 64)) zero rest a.1
on_cells cells s zero (Sub r v ∷ rest) a = on_cells cells (with_register s r
    ((register s r + 2 ^ 64 - operand s v) % 2 ^ 64)) zero rest a.1
on_cells cells s zero (Mul r v ∷ rest) a = on_cells cells (with_register s r
    ((register s r * operand s v) % 2 ^ 64)) zero rest a.1
on_cells cells s zero (And r v ∷ rest) a = on_cells cells (with_register s r
    (bit_and (register s r) (operand s v))) zero rest a.1
on_cells cells s zero (Or r v ∷ rest) a = on_cells cells (with_register s r
    (bit_or (register s r) (operand s v))) zero rest a.1
on_cells cells s zero (Xor r v ∷ rest) a = on_cells cells (with_register s r
    (bit_xor (register s r) (operand s v))) zero rest a.1
on_cells cells s zero (Len r b ∷ rest) a = on_cells cells (with_register s r (length (block s b))) zero rest a.1
on_cells cells s zero (Sum r b ∷ rest) a = on_cells cells (with_register s r (sum (block s b))) zero rest a.1
on_cells cells s zero (Get r b v ∷ rest) a = on_cells cells (with_register s r
    (slice_index (block s b) (operand s v))) zero rest a.1
on_cells cells s zero (Put b v w ∷ rest) a = on_cells cells (with_block s b
    (λ these. slice_set these (operand s v) (operand s w % 256))) zero rest a.1
on_cells cells s zero (Fill b v ∷ rest) a = on_cells cells (with_block s b
    (λ these. replicate (length these) (operand s v % 256))) zero rest a.1
on_cells cells s zero (Copy b c ∷ rest) a = on_cells cells (with_block s b
    (λ these. overlay these (block s c))) zero rest a.1
on_cells cells s zero (Temp b n ∷ rest) a = on_cells cells (with_new_block s b n) zero rest a.1
on_cells cells s zero (Cload r cell ∷ rest) a = (a.0, λ old. on_cells cells (with_register s r old) zero rest a.1)
on_cells cells s zero (Cswap r cell v ∷ rest) a = (a.0, λ old. on_cells cells (with_register s r old) zero rest a.1)
on_cells cells s zero (Cadd r cell v ∷ rest) a = (a.0, λ old. on_cells cells (with_register s r old) zero rest a.1)
on_cells cells s zero (Ccas r cell v w ∷ rest) a = (a.0, λ old. on_cells cells (with_register s r old) zero rest a.1)
on_cells cells s zero (Ocall into status ordinal args ∷ rest) a = λ answer. on_cells cells
    (with_answer s into status answer) zero rest a.1
on_cells cells s zero (Skipz r n ∷ rest) a = on_cells cells s (if register s r == 0 then n else 0) rest a.1
on_cells cells s zero (Skipnz r n ∷ rest) a = on_cells cells s (if register s r == 0 then 0 else n) rest a.1
on_cells cells s zero (Return v ∷ rest) a = tt

body_on_cells : (m : Machine) (cells ordinal : ℕ) (f : Function) (frame : List ℕ) (copies : Copies)
    → AreOnCells cells (actions_of m ordinal) → AsksOnCells cells (body_of m ordinal f frame copies)
unfolding execution
body_on_cells m cells ordinal f frame copies a = on_cells cells _ zero (actions_of m ordinal) a

-- by the enclave
abbrev Beside : {A : Type 0} → Interaction A → Type 0
Beside t = AllRequests (λ q. q.side ≢ by_pool) t

abbrev IsBeside : Request → Type 0
IsBeside q = q.side ≢ by_pool

pub loads_beside : (address count : ℕ) → AllRequests (λ q. q.side ≢ by_pool) (loads Enclave address count)
loads_beside address zero = tt
loads_beside address (suc count) = (
  enclave_beside,
  λ b. all_and_then IsBeside (loads Enclave (address + 1) count)
      (λ bytes. ret (b ∷ bytes)) (loads_beside (address + 1) count) (λ bytes. tt),
)

stores_beside : (address : ℕ) (bytes : List ℕ) → Beside (stores Enclave address bytes)
stores_beside address [] = tt
stores_beside address (b ∷ bytes) = (enclave_beside, λ old. stores_beside (address + 1) bytes)

first_beside : (shape : Shape) (address count : ℕ) → Beside (first_bytes shape address count)
first_beside shape address count = elim (is_inward shape.way) as
    (λ b. Beside (if b then loads Enclave address count else ret
    (replicate count 0))) [ true ↦ loads_beside address count | false ↦ tt ]

copy_beside : (shape : Shape) (address count room : ℕ) → Beside (copy_in shape address count room)
unfolding copy_in
copy_beside shape address count room = by_row (first_row (block_rows shape count room))
  where
    by_row : (row : Option Status) → Beside (copy_unless row shape address count)
    by_row (Some status) = tt
    by_row None = all_and_then IsBeside (first_bytes shape address count) (λ bytes. ret (checked_bytes shape bytes))
        (first_beside shape address count) (λ bytes. tt)

copies_beside : (f : Function) (frame : List ℕ) (params : List Param) (room : ℕ)
    → Beside (copies_in f frame room params)
copies_beside f frame [] room = tt
copies_beside f frame (p ∷ rest) room = by_length (λ left. copies_beside f frame rest left)
    (copied_length f frame p == 0)
  where
    after : ((left : ℕ) → Beside (copies_in f frame left rest)) → (result : Result (List ℕ) Status)
        → Beside (go_on_if_ok (λ bytes. map_value (with_first (Some bytes))
        (copies_in f frame (room - rounded_size (length bytes)) rest)) result)
    after more (Ok bytes) =
        all_and_then IsBeside (copies_in f frame (room - rounded_size (length bytes)) rest)
        (λ copies. ret (with_first (Some bytes) copies)) (more (room - rounded_size (length bytes))) (λ copies. tt)
    after more (Err status) = tt

    by_length : ((left : ℕ) → Beside (copies_in f frame left rest)) → (b : Bool)
        → Beside (if b then map_value (with_first None) (copies_in f frame room rest)
        else and_then (copy_in (shape_of p.class) (address_in frame p) (length_in f frame p) room)
        (go_on_if_ok (λ bytes. map_value (with_first (Some bytes))
        (copies_in f frame (room - rounded_size (length bytes)) rest))))
    by_length more true = all_and_then IsBeside (copies_in f frame room rest) (λ copies. ret (with_first None copies))
        (more room) (λ copies. tt)
    by_length more false =
        all_and_then IsBeside (copy_in (shape_of p.class) (address_in frame p) (length_in f frame p) room)
        (go_on_if_ok (λ bytes. map_value (with_first (Some bytes))
        (copies_in f frame (room - rounded_size (length bytes)) rest)))
        (copy_beside (shape_of p.class) (address_in frame p) (length_in f frame p) room) (after more)

back_beside : (shape : Shape) (address : ℕ) (bytes : List ℕ) → Beside (copy_out shape address bytes)
unfolding copy_out
back_beside shape address bytes = stores_beside address (bytes_back shape bytes)

backs_beside : (frame : List ℕ) (blocks : List (Param × Option (List ℕ))) → Beside (copies_out frame blocks)
backs_beside frame [] = tt
backs_beside frame ((p, None) ∷ rest) = backs_beside frame rest
backs_beside frame ((p, Some bytes) ∷ rest) =
    elim (is_out p.class) as (λ b. Beside (if b then and_then (copy_out (shape_of p.class) (address_in frame p) bytes)
    (λ done. copies_out frame rest) else copies_out frame rest)) [
      | true ↦ all_and_then IsBeside (copy_out (shape_of p.class) (address_in frame p) bytes)
          (λ done. copies_out frame rest) (back_beside (shape_of p.class) (address_in frame p) bytes)
          (λ done. backs_beside frame rest)
      | false ↦ backs_beside frame rest
    ]

answer_beside : (f : Function) (address : ℕ) (frame : List ℕ) (done : Finished)
    → Beside (put_answer f address frame done)
answer_beside f address frame done =
    all_and_then IsBeside (stores Enclave address (low_bytes (return_size f) done.value))
    (λ stored. copies_out frame (zip (marshalled f) done.blocks))
    (stores_beside address (low_bytes (return_size f) done.value))
    (λ stored. backs_beside frame (zip (marshalled f) done.blocks))

-- steps that were asked for
pub steps_joined : (P : Request → Type 0) (xs ys : List Step) → AllSteps P xs → AllSteps P ys → AllSteps P (xs ++ ys)
steps_joined P [] ys p q = q
steps_joined P (s ∷ xs) ys p q = (p.0, steps_joined P xs ys p.1 q)

pub steps_from : (P : Request → Type 0) (Q : Step → Type 0) → ((s : Step) → Q s → P (request_of s))
    → (steps : List Step) → AllByRecursion Q steps → AllSteps P steps
steps_from P Q f [] h = tt
steps_from P Q f (s ∷ steps) h = (f s h.0, steps_from P Q f steps h.1)

module _ (m : Machine) (fit : IsBoundedMachine m) (Among : ℕ → Type 0) (slot : ℕ) (ocalls : Ocalls) where
  abbrev limit : ℕ
  limit = ecall_slots m.script.settings

  abbrev Visits : {A : Type 0} → Interaction A → Type 0
  Visits t = ByRoles limit Among slot t

  -- a body that is carried out
  carried : (cx : Context) → ((room o : ℕ) (arguments : List Argument) → FitOcall m.interface o arguments
      → Visits (ocalls (record cx { room = room }) o arguments))
      → (e : Execution) → AsksFitting m.interface e → AsksOnCells m.script.settings.cells e
      → Visits (interpret m ocalls cx e)
  carried cx answers (returned value blocks) fits cells = roles_ret limit Among slot _
  carried cx answers (on_cell q next) fits cells =
      let low : q.cell < m.script.settings.cells = cells.0 in
      roles_ask limit Among slot _ (λ old. interpret m ocalls cx (next old)) (enclave_beside, omega (arith, low))
      (λ old. carried cx answers (next old) (fits old) (cells.1 old))
  carried cx answers (on_ocall q next) fits cells =
      roles_then limit Among slot (ocalls (record cx { room = q.room }) q.ordinal
      (map (argument_of q.blocks) q.arguments))
      (λ out. map_value (after_records out.records) (interpret m ocalls cx (next (answer_of m.interface q out))))
      (answers q.room q.ordinal (map (argument_of q.blocks) q.arguments) fits.0) (λ out.
      roles_map limit Among slot (after_records out.records) (interpret m ocalls cx
      (next (answer_of m.interface q out)))
      (carried cx answers (next (answer_of m.interface q out)) (fits.1 (answer_of m.interface q out))
      (cells (answer_of m.interface q out))))

  module _ (cx : Context) (ordinal address : ℕ) (way : Way) (runnable : (f : Function)
      → slice_get m.interface.ecalls ordinal ≡ Some f → IsRunnableFunction true f)
      (answers : first_row (entry_rows m.interface cx.stack ordinal) ≡ None → (room o : ℕ) (arguments : List Argument)
      → FitOcall m.interface o arguments → ByRoles (ecall_slots m.script.settings) Among slot
      (ocalls (context_in_ecall cx ordinal room) o arguments))
      (keeping : first_row (entry_rows m.interface cx.stack ordinal) ≡ None → OcallsKeepLengths m ocalls) where
    body_visits : (may : first_row (entry_rows m.interface cx.stack ordinal) ≡ None) (f : Function)
        → slice_get m.interface.ecalls ordinal ≡ Some f → (frame : List ℕ) (copies : Copies)
        → Visits (interpret m ocalls (context_in_ecall cx ordinal copies.room) (body_of m ordinal f frame copies))
    body_visits may f found frame copies =
        carried (context_in_ecall cx ordinal copies.room) (λ room o arguments fits. answers may room o arguments fits)
        (body_of m ordinal f frame copies)
        (body_fits m ordinal f frame copies found (fit.sound.bodies ordinal))
        (body_on_cells m m.script.settings.cells ordinal f frame copies (fit.cells ordinal))

    -- its steps by the pool's side
    abbrev AlwaysPlays : {A : Type 0} → Interaction A → Type 0
    AlwaysPlays t = (left : ℕ) → left ≤ more_than_any → Plays slot idle left t

    module _ (may : first_row (entry_rows m.interface cx.stack ordinal) ≡ None) (f : Function)
        (found : slice_get m.interface.ecalls ordinal ≡ Some f) where
      body_plays : (frame : List ℕ) (result : Result Copies Status)
          → AlwaysPlays (go_on_if_ok (λ copies. body_and_answer m ocalls cx ordinal f address frame copies) result)
      body_plays frame (Err status) = λ left le. refl
      body_plays frame (Ok copies) =
          plays_two limit Among slot (interpret m ocalls (context_in_ecall cx ordinal copies.room)
          (body_of m ordinal f frame copies))
          (λ done. here (λ turn. map_value (λ stored. Ok (record { turn = turn; records = done.records }))
          (put_answer f address frame done))) (body_visits may f found frame copies).plays
          (λ done. plays_other limit Among slot (here (λ turn. map_value
          (λ stored. Ok (record { turn = turn; records = done.records })) (put_answer f address frame done)))
          (λ turn. all_and_then IsBeside (put_answer f address frame done)
          (λ stored. ret (Ok (record { turn = turn; records = done.records })))
          (answer_beside f address frame done) (λ stored. tt)))

      fields_play : (frame : List ℕ) (row : Option Status)
          → AlwaysPlays (go_on_if_ok (λ allowed. and_then (copies_in f frame cx.room (marshalled f))
          (go_on_if_ok (λ copies. body_and_answer m ocalls cx ordinal f address frame copies)))
          (unless_refused row))
      fields_play frame (Some status) = λ left le. refl
      fields_play frame None =
          plays_two limit Among slot (copies_in f frame cx.room (marshalled f))
          (go_on_if_ok (λ copies. body_and_answer m ocalls cx ordinal f address frame copies))
          (plays_other limit Among slot (copies_in f frame cx.room (marshalled f))
          (copies_beside f frame (marshalled f) cx.room)) (body_plays frame)

      admitted_plays : AlwaysPlays (admitted_entry m ocalls cx ordinal address f)
      admitted_plays =
          plays_two limit Among slot (loads Enclave address f.frame_size) (loaded_entry m ocalls cx ordinal address f)
          (plays_other limit Among slot (loads Enclave address f.frame_size) (loads_beside address f.frame_size))
          (λ frame. fields_play frame (first_row (field_rows m.script.settings.host f frame)))

      frame_plays : (row : Option Status) → AlwaysPlays (go_on_if_ok
          (λ allowed. admitted_entry m ocalls cx ordinal address f) (unless_refused row))
      frame_plays (Some status) = λ left le. refl
      frame_plays None = admitted_plays

    found_plays : (may : first_row (entry_rows m.interface cx.stack ordinal) ≡ None) (o : Option Function)
        → slice_get m.interface.ecalls ordinal ≡ o → AlwaysPlays (entry_at m ocalls cx ordinal address o)
    found_plays may None e = λ left le. refl
    found_plays may (Some f) e = frame_plays may f e (first_row (frame_rows m.script.settings.host f address))

    rows_play : (row : Option Status) → first_row (entry_rows m.interface cx.stack ordinal) ≡ row
        → AlwaysPlays (go_on_if_ok (λ allowed. entry_at m ocalls cx ordinal address
        (slice_get m.interface.ecalls ordinal)) (unless_refused row))
    rows_play (Some status) e = λ left le. refl
    rows_play None e = found_plays e (slice_get m.interface.ecalls ordinal) refl

    -- all its steps, by its runs
    abbrev Mine : Request → Type 0
    Mine = IsMine limit Among

    host_mine : (s : Step) → InHost m.script.settings.host s → Mine (request_of s)
    host_mine s h = inl (omega (arith, h))

    by_result : (events : List Event) (y : Result Answered Status) → EntryRun m ocalls cx ordinal address events y
        → AllSteps Mine (steps_of events)
    by_result events (Err status) r = steps_from Mine (InHost m.script.settings.host) host_mine (steps_of events)
        (refused_in m cx ordinal address events status runnable r)
    by_result events (Ok done) r =
        let f : Function = r.function in
        let loading : List Event = loads_of address r.frame ++ r.copying in
        let storing : List Event = r.returning ++ r.putting in
        let plain : IsRunnableFunction true f = runnable f r.found in
        let first : AllSteps Mine (steps_of loading) =
        steps_from Mine (InHost m.script.settings.host) host_mine (steps_of loading)
        (arguments_in m.script.settings.host f address r.frame cx.room r.copying r.copies.blocks plain
        r.frame_allowed r.whole_frame r.fields_allowed r.copied) in
        let middle : AllSteps Mine (steps_of r.running) =
        steps_of_run Mine (interpret m ocalls (context_in_ecall cx ordinal r.copies.room)
        (body_of m ordinal f r.frame r.copies)) (ret r.finished) r.running
        (body_visits r.may_enter f r.found r.frame r.copies).mine r.body_runs in
        let last : AllSteps Mine (steps_of storing) =
        steps_from Mine (IsInAnswer f r.frame address r.copies.blocks)
        (λ s h. host_mine s
        (answer_in m.script.settings.host f address r.frame cx.room r.copying r.copies.blocks plain
        r.frame_allowed r.fields_allowed r.copied s h)) (steps_of storing)
        (recursion_from_All (IsInAnswer f r.frame address r.copies.blocks) (steps_of storing)
        (answer_within m ocalls cx ordinal address events done r
        (copies_kept m ocalls cx ordinal address events done r (fit.sound.bodies ordinal)
        (keeping r.may_enter)))) in
        let whole : AllSteps Mine (steps_of loading ++ (steps_of r.running ++ steps_of storing)) =
        steps_joined Mine (steps_of loading) (steps_of r.running ++ steps_of storing) first
        (steps_joined Mine (steps_of r.running) (steps_of storing) middle last) in
        subst (λ l. AllSteps Mine l) (sym (steps_are r)) whole
      where
        steps_are : (r : IsAnsweredRun m ocalls cx ordinal address events done)
            → steps_of events ≡ steps_of (loads_of address r.frame ++ r.copying) ++
            (steps_of r.running ++ steps_of (r.returning ++ r.putting))
        steps_are r =
            ap (λ es. steps_of es) r.events_are
            ∙ steps_of-append (loads_of address r.frame) (r.copying ++
            (r.running ++ placed done.turn ∷ (r.returning ++ r.putting)))
            ∙ ap (λ l. steps_of (loads_of address r.frame) ++ l)
            (steps_of-append r.copying (r.running ++ placed done.turn ∷ (r.returning ++ r.putting))
            ∙ ap (λ l. steps_of r.copying ++ l) (steps_of-append r.running
            (placed done.turn ∷ (r.returning ++ r.putting))))
            ∙ sym (append_assoc (steps_of (loads_of address r.frame)) (steps_of r.copying)
            (steps_of r.running ++ steps_of (r.returning ++ r.putting)))
            ∙ ap (λ l. l ++ (steps_of r.running ++ steps_of (r.returning ++ r.putting)))
            (sym (steps_of-append (loads_of address r.frame) r.copying))

    -- an entry
    entered_visits : Visits (entered m ocalls cx ordinal address)
    entered_visits = record {
      plays = rows_play (first_row (entry_rows m.interface cx.stack ordinal)) refl;
      mine = requests_of_runs Mine (entered m ocalls cx ordinal address)
          (λ events y run. by_result events y (entered_run m ocalls cx ordinal address events y run));
    }

    pub ecall_by_roles : ByRoles (ecall_slots m.script.settings) Among slot (ecall_by m ocalls cx ordinal address way)
    unfolding ecall_by
    ecall_by_roles =
        roles_here limit Among slot _ (λ first.
        roles_then limit Among slot (entered m ocalls cx ordinal address)
        (λ result. here (λ last. ret (ecall_outcome cx ordinal address way first last result))) entered_visits
        (λ result. roles_here limit Among slot _ (λ last. roles_ret limit Among slot
        (ecall_outcome cx ordinal address way first last result))))
