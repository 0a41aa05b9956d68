-- The list of an ECALL's bridge does what an entry is defined to do.
use Rattle.std.proofs.Common.{ℕ, ◌≡◌, ◌==◌, ◌^◌, Bool, true, false, not, ◌&&◌, ◌||◌, nat_lt, if◌then◌else◌, List, [], ◌∷◌, ◌++◌, zip, Option, Some, None, is_some, option_map, unwrap_or, Result, Ok, Err, refl, ap, sym, ◌∙◌, append_assoc}
use Rattle.std.specs.List.{list_any}
use Rattle.sgx_base.specs.Bytes.{low_bytes}
use Rattle.sgx_base.specs.Ranges.{is_host_range}
use Rattle.sgx_base.specs.Rows.{first_row, unless_refused}
use Rattle.sgx_base.specs.declared.Status.{Status}
use Rattle.sgx_base.specs.declared.TheConstants.Status.{INVALID_PARAMETER}
use Rattle.edl_interface.specs.declared.Plain.{Plain}
use Rattle.edl_interface.specs.declared.Function.{Function}
use Rattle.edl_interface.specs.Parameters.{is_marshalled, is_out, has_frame, marshalled, address_in, return_size}
use Rattle.edl_interface.specs.Lengths.{length_in}
use Rattle.word_port.specs.declared.Side.TheVariants.{Enclave}
use Rattle.word_port.specs.Interaction.{Interaction, ret, here, and_then, map_value}
use Rattle.word_port.specs.Accesses.{loads, stores}
use Rattle.word_port.proofs.Laws.{and_then-assoc}
use Rattle.call_machine.specs.declared.Machine.{Machine}
use Rattle.call_machine.specs.Context.{Context, context_in_ecall}
use Rattle.call_machine.specs.Result.{go_on_if_ok, and_then_ok}
use Rattle.call_machine.specs.Ecall.{Ocalls, Copies, Finished, Answered, copies_in, copies_out, interpret, body_of, put_answer, body_and_answer, loaded_entry, admitted_entry, entry_at}
use Rattle.bridge_program.specs.declared.Instr.{Instr}
use Rattle.bridge_program.specs.declared.Instr.TheVariants.{Begin, NoFrame, Frame, Length, Outside, Fence, Call, PutReturn, CopyOut, End}
use Rattle.bridge_program.specs.Lists.{each, entry_of, where_is, once, any_marshalled, ecall_list}
use Rattle.bridge_laws.specs.Meaning.{State, Doing, refuse_if, with_param, length_tested, range_tested, means, list_means, first_state, answer_of, entry_by_list}
use Rattle.bridge_laws.proofs.Trees.{same_next, ok-ret}
use Rattle.bridge_laws.proofs.Tests.{tested, append_does, tests_do}
use Rattle.bridge_laws.proofs.CopyingIn.{ok_with, copies_do}
use Rattle.bridge_laws.proofs.CopyingOut.{puts_do}
use std.Path.{fun_ext}

regroup : (a b c d e g h : List Instr) → ((((((a ++ b) ++ c) ++ d) ++ e) ++ g) ++ h) ≡ a ++ (b ++ (c ++ (d ++ (e ++ (g ++ h)))))
regroup a b c d e g h = simp append_assoc

module _ (m : Machine) (ocalls : Ocalls) (cx : Context) (ordinal address : ℕ) (f : Function) where
  abbrev does : List Instr → State → Doing
  does list s = list_means m ocalls cx ordinal address f list s

  abbrev putting_list : List Instr
  putting_list = where_is is_out (λ n. CopyOut n) f ++ (End ∷ [])

  abbrev running_list : List Instr
  running_list = (Call ∷ once (is_some f.ret) PutReturn) ++ putting_list

  abbrev copying_list : List Instr
  copying_list = once (any_marshalled f) Fence ++ (each entry_of f ++ running_list)

  abbrev loaded_list : List Instr
  loaded_list = where_is is_marshalled (λ n. Length n) f ++ (where_is is_marshalled (λ n. Outside n) f ++ copying_list)

  -- the `out` parameters
  putting_does : (s : State) → does putting_list s ≡ map_value (λ done. Ok s) (copies_out s.frame (zip (marshalled f) s.blocks))
  putting_does s =
      append_does m ocalls cx ordinal address f (where_is is_out (λ n. CopyOut n) f) (End ∷ []) s
      ∙ ok-ret (does (where_is is_out (λ n. CopyOut n) f) s)
      ∙ puts_do m ocalls cx ordinal address f s f.params 0 refl s.blocks refl

  -- the return
  return_does : (o : Option Plain) → f.ret ≡ o → (s : State)
      → does (once (is_some o) PutReturn ++ putting_list) s ≡ and_then (stores Enclave address (low_bytes (return_size f) s.value)) (λ stored. does putting_list s)
  return_does None e s = ap (λ o. and_then (stores Enclave address (low_bytes (unwrap_or (option_map (λ (r : Plain). r.size) o) 0) s.value)) (λ stored. does putting_list s)) (sym e)
  return_does (Some r) e s = and_then-assoc (stores Enclave address (low_bytes (return_size f) s.value)) (λ stored. ret (Ok s)) (go_on_if_ok (does putting_list))

  -- the whole answer
  answer_does : (s : State) → map_value answer_of (does (once (is_some f.ret) PutReturn ++ putting_list) s)
      ≡ map_value (λ stored. Ok (record { turn = s.turn; records = s.records }))
      (and_then (stores Enclave address (low_bytes (return_size f) s.value)) (λ stored. copies_out s.frame (zip (marshalled f) s.blocks)))
  answer_does s =
      let storing : Interaction (Unit {0}) = stores Enclave address (low_bytes (return_size f) s.value) in
      let putting : Interaction (Unit {0}) = copies_out s.frame (zip (marshalled f) s.blocks) in
      let answered : Result Answered Status = Ok (record { turn = s.turn; records = s.records }) in
      ap (λ t. map_value answer_of t) (return_does f.ret refl s)
      ∙ and_then-assoc storing (λ stored. does putting_list s) (λ r. ret (answer_of r))
      ∙ same_next storing (λ stored. map_value answer_of (does putting_list s)) (λ stored. map_value (λ done. answered) putting)
      (λ stored. ap (λ t. map_value answer_of t) (putting_does s) ∙ and_then-assoc putting (λ done. ret (Ok s)) (λ r. ret (answer_of r)))
      ∙ sym (and_then-assoc storing (λ stored. putting) (λ done. ret answered))

  -- after its frame was loaded
  abbrev loaded_state : List ℕ → State
  loaded_state frame = record (first_state cx) { frame = frame }

  abbrev copied_state : List ℕ → Copies → State
  copied_state frame copies = record (first_state cx) { frame = frame; blocks = copies.blocks; room = copies.room }

  -- the function, and the answer
  running_does : (frame : List ℕ) (copies : Copies) → map_value answer_of (does running_list (copied_state frame copies)) ≡ body_and_answer m ocalls cx ordinal f address frame copies
  running_does frame copies =
      let running : Interaction Finished = interpret m ocalls (context_in_ecall cx ordinal copies.room) (body_of m ordinal f frame copies) in
      let state : Finished → ℕ → State = λ done turn. record (copied_state frame copies) { blocks = done.blocks; value = done.value; turn = turn; records = done.records } in
      let rest : List Instr = once (is_some f.ret) PutReturn ++ putting_list in
      ap (λ t. map_value answer_of t) (and_then-assoc running (λ done. here (λ turn. ret (Ok (state done turn)))) (go_on_if_ok (does rest)))
      ∙ and_then-assoc running (λ done. here (λ turn. does rest (state done turn))) (λ r. ret (answer_of r))
      ∙ same_next running (λ done. here (λ turn. map_value answer_of (does rest (state done turn))))
      (λ done. here (λ turn. map_value (λ stored. Ok (record { turn = turn; records = done.records })) (put_answer f address frame done)))
      (λ done. ap (λ k. here k) (fun_ext (λ turn. answer_does (state done turn))))

  -- the copies, and what follows
  copying_does : (frame : List ℕ) → map_value answer_of (does (each entry_of f ++ running_list) (loaded_state frame))
      ≡ and_then_ok (copies_in f frame cx.room (marshalled f)) (λ copies. body_and_answer m ocalls cx ordinal f address frame copies)
  copying_does frame =
      let copying : Interaction (Result Copies Status) = copies_in f frame cx.room (marshalled f) in
      ap (λ t. map_value answer_of t)
      (append_does m ocalls cx ordinal address f (each entry_of f) running_list (loaded_state frame)
      ∙ ap (λ t. and_then_ok t (does running_list)) (copies_do m ocalls cx ordinal address f f.params 0 refl (loaded_state frame) refl)
      ∙ and_then-assoc copying (λ r. ret (ok_with (loaded_state frame) r)) (go_on_if_ok (does running_list)))
      ∙ and_then-assoc copying (λ r. go_on_if_ok (does running_list) (ok_with (loaded_state frame) r)) (λ r. ret (answer_of r))
      ∙ same_next copying (λ r. map_value answer_of (go_on_if_ok (does running_list) (ok_with (loaded_state frame) r)))
      (go_on_if_ok (λ copies. body_and_answer m ocalls cx ordinal f address frame copies)) each_result
    where
      each_result : (r : Result Copies Status) → map_value answer_of (go_on_if_ok (does running_list) (ok_with (loaded_state frame) r))
          ≡ go_on_if_ok (λ copies. body_and_answer m ocalls cx ordinal f address frame copies) r
      each_result (Ok copies) = running_does frame copies
      each_result (Err status) = refl

  fence_does : (b : Bool) (list : List Instr) (s : State) → does (once b Fence ++ list) s ≡ does list s
  fence_does true list s = refl
  fence_does false list s = refl

  rows_or_rest : (b1 b2 : Bool) (rest : Doing) (next : Unit {0} → Interaction (Result Answered Status)) → map_value answer_of rest ≡ next tt
      → map_value answer_of (if b1 then ret (Err INVALID_PARAMETER) else (if b2 then ret (Err INVALID_PARAMETER) else rest))
      ≡ and_then_ok (ret (unless_refused (if b1 then Some INVALID_PARAMETER else (if b2 then Some INVALID_PARAMETER else None)))) next
  rows_or_rest true b2 rest next e = refl
  rows_or_rest false true rest next e = refl
  rows_or_rest false false rest next e = e

  -- after the frame was loaded
  loaded_does : (frame : List ℕ) → map_value answer_of (does loaded_list (loaded_state frame)) ≡ loaded_entry m ocalls cx ordinal address f frame
  loaded_does frame =
      let s : State = loaded_state frame in
      let too_long : Bool = list_any (λ p. not (nat_lt (length_in f frame p) (2 ^ 64))) (marshalled f) in
      let misplaced : Bool = list_any (λ p. not (address_in frame p == 0) && not (is_host_range m.script.settings.host (address_in frame p) (length_in f frame p))) (marshalled f) in
      ap (λ t. map_value answer_of t)
      (append_does m ocalls cx ordinal address f (where_is is_marshalled (λ n. Length n) f) (where_is is_marshalled (λ n. Outside n) f ++ copying_list) s
      ∙ tested (does (where_is is_marshalled (λ n. Length n) f) s) too_long INVALID_PARAMETER s (does (where_is is_marshalled (λ n. Outside n) f ++ copying_list))
      (tests_do m ocalls cx ordinal address f (λ n. Length n) (λ p. not (nat_lt (length_in f frame p) (2 ^ 64))) s (λ n p g. ap (λ o. with_param o s (length_tested f s)) g) f.params 0 refl)
      ∙ ap (λ t. if too_long then ret (Err INVALID_PARAMETER) else t)
      (append_does m ocalls cx ordinal address f (where_is is_marshalled (λ n. Outside n) f) copying_list s
      ∙ tested (does (where_is is_marshalled (λ n. Outside n) f) s) misplaced INVALID_PARAMETER s (does copying_list)
      (tests_do m ocalls cx ordinal address f (λ n. Outside n) (λ p. not (address_in frame p == 0) && not (is_host_range m.script.settings.host (address_in frame p) (length_in f frame p))) s
      (λ n p g. ap (λ o. with_param o s (range_tested m.script.settings.host f s)) g) f.params 0 refl)))
      ∙ rows_or_rest too_long misplaced (does copying_list s) (λ allowed. and_then_ok (copies_in f frame cx.room (marshalled f)) (λ copies. body_and_answer m ocalls cx ordinal f address frame copies))
      (ap (λ t. map_value answer_of t) (fence_does (any_marshalled f) (each entry_of f ++ running_list) s) ∙ copying_does frame)

  -- a frame whose address is tested
  with_frame : (b : Bool) → map_value answer_of (and_then_ok (if b then ret (Err INVALID_PARAMETER) else map_value (λ bytes. Ok (loaded_state bytes)) (loads Enclave address f.frame_size)) (does loaded_list))
      ≡ and_then_ok (ret (unless_refused (if b then Some INVALID_PARAMETER else None))) (λ allowed. admitted_entry m ocalls cx ordinal address f)
  with_frame true = refl
  with_frame false =
      let loading : Interaction (List ℕ) = loads Enclave address f.frame_size in
      ap (λ t. map_value answer_of t) (and_then-assoc loading (λ bytes. ret (Ok (loaded_state bytes))) (go_on_if_ok (does loaded_list)))
      ∙ and_then-assoc loading (λ bytes. does loaded_list (loaded_state bytes)) (λ r. ret (answer_of r))
      ∙ same_next loading (λ bytes. map_value answer_of (does loaded_list (loaded_state bytes))) (loaded_entry m ocalls cx ordinal address f) loaded_does

  -- no frame
  without_frame : (b : Bool) → f.frame_size ≡ 0 → map_value answer_of (and_then_ok (refuse_if b INVALID_PARAMETER (first_state cx)) (does loaded_list))
      ≡ and_then_ok (ret (unless_refused (if b then Some INVALID_PARAMETER else None))) (λ allowed. admitted_entry m ocalls cx ordinal address f)
  without_frame true e = refl
  without_frame false e = loaded_does [] ∙ ap (λ n. and_then (loads Enclave address n) (loaded_entry m ocalls cx ordinal address f)) (sym e)

  by_frame : (b : Bool) → (b ≡ false → f.frame_size ≡ 0) → map_value answer_of (and_then_ok (means m ocalls cx ordinal address f (if b then Frame else NoFrame) (first_state cx)) (does loaded_list))
      ≡ and_then_ok (ret (unless_refused (first_row (
      record { holds = not b && not (address == 0); status = INVALID_PARAMETER }
      ∷ record { holds = b && (address == 0 || not (is_host_range m.script.settings.host address f.frame_size)); status = INVALID_PARAMETER }
      ∷ [])))) (λ allowed. admitted_entry m ocalls cx ordinal address f)
  by_frame true none = with_frame (address == 0 || not (is_host_range m.script.settings.host address f.frame_size))
  by_frame false none = without_frame (not (address == 0)) (none refl)

  pub list_is_entry : (has_frame f ≡ false → f.frame_size ≡ 0) → entry_by_list m ocalls cx ordinal address f (ecall_list f) ≡ entry_at m ocalls cx ordinal address (Some f)
  list_is_entry none =
      ap (λ l. entry_by_list m ocalls cx ordinal address f (Begin ∷ (if has_frame f then Frame else NoFrame) ∷ l))
      (regroup (where_is is_marshalled (λ n. Length n) f) (where_is is_marshalled (λ n. Outside n) f) (once (any_marshalled f) Fence) (each entry_of f)
      (Call ∷ once (is_some f.ret) PutReturn) (where_is is_out (λ n. CopyOut n) f) (End ∷ []))
      ∙ by_frame (has_frame f) none
