-- What comes back from an OCALL: nothing without a frame or after a refusal, else what is loaded.
use Rattle.std.proofs.Common.{ℕ, zero, suc, ◌≡◌, Bool, true, false, not, ◌||◌, ◌==◌, List, [], ◌∷◌, length, Option, Some, None, is_some, refl, ap, sym, ◌∙◌, subst}
use Rattle.std.proofs.Math.Dec.{eqb-suc-zero}
use Rattle.sgx_base.specs.declared.Status.{Status}
use Rattle.edl_interface.specs.declared.Plain.{Plain}
use Rattle.edl_interface.specs.declared.Param.{Param}
use Rattle.edl_interface.specs.declared.Function.{Function}
use Rattle.edl_interface.specs.Parameters.{has_frame, marshalled}
use Rattle.word_port.specs.declared.RunFull.TheVariants.{Steps}
use Rattle.word_port.specs.Port.{PortState}
use Rattle.word_port.specs.Interaction.{Interaction, ret, here, and_then, map_value}
use Rattle.word_port.specs.Limits.{Progress, progress}
use Rattle.word_port.specs.Runs.{Makes, Runs, StopsFull, StopsAt}
use Rattle.word_port.proofs.Laws.{makes_ret, runs_ret}
use Rattle.word_port.proofs.EventLaws.{place_then, place_stop, steps_then, steps_full_then}
use Rattle.enclave_memory.specs.Memory.{Memory}
use Rattle.enclave_memory.specs.Arguments.{Argument, Passed, places_in, blocks_of, arguments_in}
use Rattle.ocall_frames.specs.Frames.{Reply, read_reply, blocks_after, IsArenaAfter}
use Rattle.ocall_frames.specs.Replies.{IsReplied, KeepsBlocks}
use Rattle.call_report.specs.declared.CallRecord.{CallRecord}
use Rattle.call_machine.specs.declared.ocalls.Answer.{Answer}
use Rattle.call_machine.specs.Result.{is_success}
use Rattle.call_machine.specs.Ocall.{OcallDone, no_reply, answer_loads}
use Rattle.call_machine.specs.OcallPhases.{handled, IsAnswer}

nothing_back : (params : List Param) (places : List (Option ℕ)) (blocks : List (Option (List ℕ))) → blocks ≡ blocks_after params places [] blocks
nothing_back [] places blocks = refl
nothing_back (p ∷ params) [] blocks = refl
nothing_back (p ∷ params) (None ∷ places) blocks = refl
nothing_back (p ∷ params) (Some k ∷ places) blocks = refl

-- an arena that is as it was keeps its blocks
pub keeps_same : (before now : Memory) → now ≡ before → KeepsBlocks before now
keeps_same before now same = subst (λ m. KeepsBlocks before m) (sym same) (record { size = refl; blocks = λ b place block is. (block, is, refl) })

-- where nothing came back the arena is as it was
pub arena_stays : (params : List Param) (passed : List Passed) (m : Memory) → IsArenaAfter params passed [] m m
arena_stays params passed m = record { size_is = refl; blocks_are = nothing_back params (places_in passed) (blocks_of m) }

no_false : true ≡ false → ⊥
no_false e = cc

frameless : (params : List Param) (result : Option Plain) → (not (length params == 0) || is_some result) ≡ false → (params ≡ []) × (result ≡ None)
frameless [] None e = (refl, refl)
frameless [] (Some r) e = absurd (no_false e)
frameless (p ∷ params) result e = let some : not (length (p ∷ params) == 0) ≡ true = ap not (eqb-suc-zero (length params)) in absurd (no_false (sym (ap (λ b. b || is_some result) some) ∙ e))

-- a function without a frame has no reply
reply_is : (f : Function) (arguments : List Argument) → has_frame f ≡ false → read_reply f arguments 0 ≡ ret no_reply
unfolding read_reply
reply_is f arguments e =
    let none : (f.params ≡ []) × (f.ret ≡ None) = frameless f.params f.ret e in
    rw (none.0, none.1) refl

pub frameless_reply : (f : Function) (passed : List Passed) (now : PortState) (m : Memory) → has_frame f ≡ false → IsReplied f passed 0 now now m m 0
frameless_reply f passed now m e = record {
  reply = no_reply;
  makes = subst (λ t. Makes t now now no_reply) (sym (reply_is f (arguments_in m passed) e)) (makes_ret no_reply now);
  value_is = refl;
  arena_is = arena_stays (marshalled f) passed m;
}

pub not_success : (status : Status) → (status.0 ≡ 0 → ⊥) → is_success status ≡ false
not_success status ne = by_number status.0 ne
  where
    by_number : (n : ℕ) → (n ≡ 0 → ⊥) → (n == 0) ≡ false
    by_number zero none = absurd (none refl)
    by_number (suc n) none = eqb-suc-zero n

pub success : (status : Status) → status.0 ≡ 0 → is_success status ≡ true
success status e = rw e refl

-- the status is not SUCCESS
pub no_answer : (f : Function) (passed : List Passed) (frame : ℕ) (status : Status) (now : PortState) (m : Memory) → is_success status ≡ false
    → IsAnswer f passed frame status now now m m (record { turn = None; value = 0 })
no_answer f passed frame status now m e = record {
  reply = no_reply;
  runs = λ made records waits.
      let done : OcallDone = record { frame = frame; host = handled status made; turn = None; reply = no_reply } in
      let ended : answer_loads f (arguments_in m passed) frame (handled status made) ≡ ret done = rw e refl in
      subst (λ t. Runs t (progress now records waits) (progress now records waits) done) (sym ended) (runs_ret done (progress now records waits));
  value_is = refl;
  arena_is = arena_stays (marshalled f) passed m;
}

module _ (f : Function) (arguments : List Argument) (frame : ℕ) (status : Status) (made : List CallRecord) (success : is_success status ≡ true) where
  -- an answer that was loaded
  abbrev answered : ℕ → Reply → OcallDone
  answered turn reply = record { frame = frame; host = handled status made; turn = Some turn; reply = reply }

  loads_are : answer_loads f arguments frame (handled status made) ≡ here (λ turn. map_value (answered turn) (read_reply f arguments frame))
  loads_are = rw success refl

  pub answer_runs : (turn : ℕ) (old new : PortState) (records waits : ℕ) (reply : Reply) → turn ≡ length old.log → Makes (read_reply f arguments frame) old new reply
      → Runs (answer_loads f arguments frame (handled status made)) (progress old records waits) (progress new records waits) (answered turn reply)
  answer_runs turn old new records waits reply begins makes =
      subst (λ t. Runs t (progress old records waits) (progress new records waits) (answered turn reply)) (sym loads_are)
      (place_then (λ n. map_value (answered n) (read_reply f arguments frame)) turn (ret (answered turn reply)) (progress old records waits) (progress new records waits) begins
      (steps_then (read_reply f arguments frame) (λ r. ret (answered turn r)) (ret (answered turn reply)) old new records waits (progress new records waits) reply makes
      (runs_ret (answered turn reply) (progress new records waits))))

  pub answer_cut : (old new : PortState) (records waits : ℕ) → StopsFull (read_reply f arguments frame) old new
      → StopsAt Steps (answer_loads f arguments frame (handled status made)) (progress old records waits) new
  answer_cut old new records waits stopped =
      subst (λ t. StopsAt Steps t (progress old records waits) new) (sym loads_are)
      (place_stop Steps (λ n. map_value (answered n) (read_reply f arguments frame)) (length old.log) (progress old records waits) new refl
      (steps_full_then (read_reply f arguments frame) (λ r. ret (answered (length old.log) r)) old new records waits stopped))

-- the status is SUCCESS, and the reply was loaded
pub whole_answer : (f : Function) (passed : List Passed) (frame : ℕ) (status : Status) (old new : PortState) (before after : Memory) (turn value : ℕ)
    → is_success status ≡ true → turn ≡ length old.log → IsReplied f passed frame old new before after value
    → IsAnswer f passed frame status old new before after (record { turn = Some turn; value = value })
whole_answer f passed frame status old new before after turn value success begins r = record {
  reply = r.reply;
  runs = λ made records waits. answer_runs f (arguments_in before passed) frame status made success turn old new records waits r.reply begins r.makes;
  value_is = r.value_is;
  arena_is = r.arena_is;
}
