use Rattle.std.proofs.Common.{ℕ, ◌≡◌, ◌-◌, ◌∙◌, List, OnOk, IfErr, ap, sym, subst, refl, rules, arith, true, false, Option, Some, None, ◌≢◌, IfOk, slice_get, ◌+◌, ◌*◌, ◌<◌, ◌≤◌, length, ◌/◌, ◌%◌, Bool, nat_eq, nat_lt, [], ◌∷◌, ◌++◌, slice_index_or, slice_set, bit_and, bit_or, Fits, w8, w32, w64, Bor, MutBor, suc, count_by}
use Rattle.std.proofs.lemmas.Result.{err_from_is_err_and}
use Rattle.sgx_base.specs.declared.Status.{Status}
use Rattle.word_port.specs.declared.RunFull.{RunFull}
use Rattle.word_port.specs.Runs.{StopsAt, Runs}
use Rattle.call_script.specs.declared.HostAct.{HostAct, Call, Raw, Poke, Peek, Return, Repeat}
use Rattle.call_machine.specs.Acts.{act_of, acts_from, repeat, repeat as repeat_of}
use Rattle.call_machine.specs.Context.{Context, depth_of}
use Rattle.call_machine.specs.HostActs.{IsHostAct, AreHostActs, actor_at, IsHostCall}
use Rattle.call_machine.specs.Made.{MakesOutcome, MakesCalls}
use Rattle.call_machine.specs.Tcs.{context_of, moment, HasStackInHost, IsPortOf, TcsState}
use Rattle.call_machine.proofs.ActLaws.{repeat_is}
use Rattle.call_machine.proofs.ActRuns.{calls_done, calls_cut, steps_done, steps_cut, reply_done, poke_is, peek_is, acts_begin, same_context, in_context, in_context_cut, may_enter, stack_in_host, port_of, list_on, list_cut, list_end, repeat_begin, repeat_on, repeat_cut, repeat_end, same_stack}
use Rattle.call_machine.proofs.HostActs.{acts_repeated, one_act, call_sound, poke_fits, peek_fits, may_return, return_mapped, call_fits}
use Rattle.call_machine.proofs.HostCalls.{raw_cut, raw_made, frameless_cut, frameless_made, this_call, framing_cut, unframed_cut, unframed_made, entering_cut, returning_cut, framed_made, framed_may, frame_from, framed_in_host, framed_port, frame_ends, framed_entries}
use Rattle.edl_interface.specs.Parameters.{has_frame, value_in, marshalled}
use Rattle.ocall_frames.specs.declared.Frame.{Frame}
use Rattle.call_machine.specs.FramedCalls.{IsFramed}
use Rattle.call_machine.proofs.Maps.{on_ok_maps, on_ok_both, err_maps}
use Rattle.call_machine.proofs.PlainMachines.{ecall_of}
use Rattle.arrayvec.specs.ArrayVec.{array_vec_len}
use Rattle.sgx_base.specs.declared.TheConstants.Status.{SUCCESS}
use Rattle.edl_interface.specs.declared.Function.{Function as AFunction}
use Rattle.enclave_memory.specs.Arguments.{Passed, ArePassed, arguments_in}
use Rattle.body_vm.specs.Places.{IsHeld}
use Rattle.bridge_program.specs.Entry.{MayEnter, Entered as AnEntry}
use Rattle.bridge_program.specs.Standing.{IsInEnclave}
use Rattle.ocall_frames.specs.Arguments.{MayCall}
use Rattle.ocall_frames.specs.Frames.{IsArenaAfter}
use Rattle.ocall_frames.specs.Replies.{KeepsBlocks}
use Rattle.call_report.specs.RecordList.{with_records, records_left}
use Rattle.call_machine.specs.Bodies.{HasParameters, BodyRan, body_on}
use Rattle.call_machine.specs.Calls.{host_call}
use Rattle.call_machine.specs.Ecall.{OcallOutcome, ocall_params, entered, is_temp}
use Rattle.call_machine.specs.Entry.{EntryRuns, IsRefusal, OnlyLoads, HasBlocks}
use Rattle.call_machine.specs.Plain.{IsPlainMachine}
use Rattle.call_machine.specs.Result.{Outcome}
use Rattle.call_machine.specs.Thread.{ecall as ecalled, ocall as ocalled, ecalls, entry_ocalls, handlers_by}
use Rattle.call_machine.proofs.OcallStanding.{handler_is, handler_sound}
use Rattle.call_machine.proofs.OcallWhole.{host_entries, unasked_made, unasked_keeps, end_keeps, host_may_enter, host_stack_in, host_found, host_mapped, host_cut, arena_is, end_call, end_inside, end_place, end_frame, end_cut, ocall_made, host_upto}
use Rattle.call_machine.specs.OcallPhases.{frame_address}
use Rattle.call_machine.specs.declared.acts.HostPlace.{HostPlace}
use Rattle.call_machine.specs.Served.{handler_acts}
use Rattle.call_machine.proofs.Depths.{size_of, largest, less, handler_smaller, deeper, act_smaller, repeat_larger}
use Rattle.word_port.specs.declared.Step.{Step}
use Rattle.enclave_memory.specs.declared.Block.{Block}
use Rattle.call_report.specs.declared.CallRecord.{CallRecord}
use Rattle.call_machine.proofs.EcallRuns.{begun_record, ecall_ends, ecall_stops, ecall_unrecorded, not_answered}
use Rattle.call_machine.proofs.EntryBody.{refusal_runs, entry_cut_early, in_enclave, stack_stays, port_stays, has_parameters, entry_cut_inside, fields_stay, allowed_still, mapped_still, copies_still, lies_still, entry_cut_late, entry_answers}
use Rattle.call_machine.proofs.RecordPlace.{room_for_one, one_record_less}
use Rattle.body_run.specs.declared.Pause.TheVariants.{Ocall, Done}
use Rattle.call_machine.proofs.CarriedOut.{few_actions, actions_in_range, cells_there, begun_count, two_answers, GoesOn, PausesAt, begins, pauses_in, stops_in, kept_seen, port_kept, has_ended, its_numbers, are_passed, may_call, call_stops, call_ends}
use Rattle.call_script.proofs.HostAct.TheLaws.{the_size}
use Rattle.call_machine.proofs.calls.+calls.Goals as goal

-- ---- acts of the host

-- ---- one act

pub do_act-returns-in_ok-call-in-Call-clause-ok : goal.do_act-returns-in_ok-call-in-Call-clause-ok
do_act-returns-in_ok-call-in-Call-clause-ok g t c =
    let act_is : c.args.act.now ≡ Call c.in-Call.ordinal c.as_slice.result.now = c.in-Call.is ∙ ap (λ a. Call c.in-Call.ordinal a) (sym c.as_slice.ensures) in
    rw act_is (calls_done c.args.status _ _ _ _ _ _ _ c.in_ok-call-in-Call.ensures.ok)

pub do_act-returns-in_err-call-in-Call-clause-full : goal.do_act-returns-in_err-call-in-Call-clause-full
do_act-returns-in_err-call-in-Call-clause-full g t c =
    let p = err_from_is_err_and c.from_residual.result c.from_residual.ensures.1 in
    let act_is : c.args.act.now ≡ Call c.in-Call.ordinal c.as_slice.result.now = c.in-Call.is ∙ ap (λ a. Call c.in-Call.ordinal a) (sym c.as_slice.ensures) in
    rw (p.1, p.2, act_is) (calls_cut c.args.status _ _ _ _ c.args.records.now c.args.tcs.now c.in_err-call-in-Call.ensures.full)

pub do_act-returns-in_ok-ecall-in-Raw-clause-ok : goal.do_act-returns-in_ok-ecall-in-Raw-clause-ok
do_act-returns-in_ok-ecall-in-Raw-clause-ok g t c =
    rw c.in-Raw.is (calls_done c.args.status _ _ _ _ _ _ _
    (raw_made c.args.machine.now c.in-Raw.ordinal c.in-Raw.at _ c.args.records.now c.args.tcs.now _ _ _ _ c.in_ok-ecall-in-Raw.ensures.ok))

pub do_act-returns-in_err-ecall-in-Raw-clause-full : goal.do_act-returns-in_err-ecall-in-Raw-clause-full
do_act-returns-in_err-ecall-in-Raw-clause-full g t c =
    let p = err_from_is_err_and c.from_residual-in_err-ecall-in-Raw.result c.from_residual-in_err-ecall-in-Raw.ensures.1 in
    rw (p.1, p.2, c.in-Raw.is) (calls_cut c.args.status _ _ _ _ c.args.records.now c.args.tcs.now
    (raw_cut c.args.machine.now c.in-Raw.ordinal c.in-Raw.at _ c.args.records.now c.args.tcs.now _ _ c.in_err-ecall-in-Raw.ensures.full))

pub do_act-address_of-requires : goal.do_act-address_of-requires
do_act-address_of-requires g t c = poke_fits c.args.machine.now c.requires.machine c.args.place c.in-Poke.at c.in-Poke.bytes c.args.act.now c.in-Poke.is c.requires.sound

pub do_act-returns-in_ok-poke-in-Poke-clause-ok : goal.do_act-returns-in_ok-poke-in-Poke-clause-ok
do_act-returns-in_ok-poke-in-Poke-clause-ok g t c =
    let cx : Context = context_of c.args.tcs.now in
    rw (c.in-Poke.is, poke_is c.args.machine.now cx c.args.place c.args.status c.in-Poke.at c.in-Poke.bytes c.as_slice-in-Poke.result.now _ _ c.requires.port.host_is c.address_of.ensures c.as_slice-in-Poke.ensures)
    (steps_done c.args.status _ _ _ _ _ c.in_ok-poke-in-Poke.ensures.ok)

pub do_act-returns-in_err-poke-in-Poke-clause-full : goal.do_act-returns-in_err-poke-in-Poke-clause-full
do_act-returns-in_err-poke-in-Poke-clause-full g t c =
    let p = err_from_is_err_and c.from_residual-in_err-poke-in-Poke.result c.from_residual-in_err-poke-in-Poke.ensures.1 in
    let cx : Context = context_of c.args.tcs.now in
    rw (p.1, p.2, c.in_err-poke-in-Poke.ensures.full.0, c.in-Poke.is, poke_is c.args.machine.now cx c.args.place c.args.status c.in-Poke.at c.in-Poke.bytes c.as_slice-in-Poke.result.now _ _ c.requires.port.host_is c.address_of.ensures c.as_slice-in-Poke.ensures)
    (steps_cut c.args.status _ _ _ c.args.records.now c.args.tcs.now c.in_err-poke-in-Poke.ensures.full.1)

pub do_act-address_of-requires-in-Peek : goal.do_act-address_of-requires-in-Peek
do_act-address_of-requires-in-Peek g t c = peek_fits c.args.machine.now c.requires.machine c.args.place c.in-Peek.at c.in-Peek.length c.args.act.now c.in-Peek.is c.requires.sound

pub do_act-returns-in_ok-peek-in-Peek-clause-ok : goal.do_act-returns-in_ok-peek-in-Peek-clause-ok
do_act-returns-in_ok-peek-in-Peek-clause-ok g t c =
    let cx : Context = context_of c.args.tcs.now in
    rw (c.in-Peek.is, peek_is c.args.machine.now cx c.args.place c.args.status c.in-Peek.at c.in-Peek.length _ _ c.requires.port.host_is c.address_of-in-Peek.ensures)
    (calls_done c.args.status _ _ _ _ _ _ _ c.in_ok-peek-in-Peek.ensures.ok)

pub do_act-returns-in_err-peek-in-Peek-clause-full : goal.do_act-returns-in_err-peek-in-Peek-clause-full
do_act-returns-in_err-peek-in-Peek-clause-full g t c =
    let p = err_from_is_err_and c.from_residual-in_err-peek-in-Peek.result c.from_residual-in_err-peek-in-Peek.ensures.1 in
    let cx : Context = context_of c.args.tcs.now in
    rw (p.1, p.2, c.in-Peek.is, peek_is c.args.machine.now cx c.args.place c.args.status c.in-Peek.at c.in-Peek.length _ _ c.requires.port.host_is c.address_of-in-Peek.ensures)
    (calls_cut c.args.status _ _ _ _ c.args.records.now c.args.tcs.now c.in_err-peek-in-Peek.ensures.full)

pub do_act-put_return-requires-clause-few : goal.do_act-put_return-requires-clause-few
do_act-put_return-requires-clause-few g t c = (may_return c.args.machine.now c.args.place c.in-Return.value c.args.act.now c.in-Return.is c.requires.sound).few

pub do_act-put_return-requires-clause-mapped : goal.do_act-put_return-requires-clause-mapped
do_act-put_return-requires-clause-mapped g t c = return_mapped _ _ _ c.requires.port.host_is (may_return c.args.machine.now c.args.place c.in-Return.value c.args.act.now c.in-Return.is c.requires.sound)

pub do_act-returns-in_ok-put_return-in-Return-clause-ok : goal.do_act-returns-in_ok-put_return-in-Return-clause-ok
do_act-returns-in_ok-put_return-in-Return-clause-ok g t c =
    rw c.in-Return.is (steps_done c.args.status _ _ _ _ _ c.in_ok-put_return-in-Return.ensures.ok)

pub do_act-returns-in_err-put_return-in-Return-clause-full : goal.do_act-returns-in_err-put_return-in-Return-clause-full
do_act-returns-in_err-put_return-in-Return-clause-full g t c =
    let p = err_from_is_err_and c.from_residual-in_err-put_return-in-Return.result c.from_residual-in_err-put_return-in-Return.ensures.1 in
    rw (p.1, p.2, c.in_err-put_return-in-Return.ensures.full.0, c.in-Return.is) (steps_cut c.args.status _ _ _ c.args.records.now c.args.tcs.now c.in_err-put_return-in-Return.ensures.full.1)

pub do_act-returns-in-Reply-clause-ok : goal.do_act-returns-in-Reply-clause-ok
do_act-returns-in-Reply-clause-ok g t c = rw c.in-Reply.is (reply_done (actor_at c.args.machine.now (context_of c.args.tcs.now) c.args.place) c.in-Reply.reply c.args.status _ _ _)

pub do_act-returns-in-Repeat-clause-ok : goal.do_act-returns-in-Repeat-clause-ok
do_act-returns-in-Repeat-clause-ok g t c =
    let act_is : c.args.act.now ≡ Repeat c.in-Repeat.times c.as_slice-in-Repeat.result.now = c.in-Repeat.is ∙ ap (λ a. Repeat c.in-Repeat.times a) (sym c.as_slice-in-Repeat.ensures) in
    rw (act_is, repeat_is (actor_at c.args.machine.now (context_of c.args.tcs.now) c.args.place) c.in-Repeat.times c.as_slice-in-Repeat.result.now c.args.status) c.repeat.ensures.ok

pub do_act-returns-in-Repeat-clause-full : goal.do_act-returns-in-Repeat-clause-full
do_act-returns-in-Repeat-clause-full g t c =
    let act_is : c.args.act.now ≡ Repeat c.in-Repeat.times c.as_slice-in-Repeat.result.now = c.in-Repeat.is ∙ ap (λ a. Repeat c.in-Repeat.times a) (sym c.as_slice-in-Repeat.ensures) in
    rw (act_is, repeat_is (actor_at c.args.machine.now (context_of c.args.tcs.now) c.args.place) c.in-Repeat.times c.as_slice-in-Repeat.result.now c.args.status) c.repeat.ensures.full

-- ---- a list of acts

pub do_acts-loop-act-init : goal.do_acts-loop-act-init
do_acts-loop-act-init g t c = acts_begin (acts_from (actor_at c.args.machine.now (context_of c.args.tcs.now) c.args.place) c.args.acts.now c.args.status) _ _ _

pub do_acts-returns-in_err-status-clause-full : goal.do_acts-returns-in_err-status-clause-full
do_acts-returns-in_err-status-clause-full g t c =
    let p = err_from_is_err_and c.from_residual.result c.from_residual.ensures.1 in
    let full : RunFull = c.in_err-status.field-0.0 in
    rw (p.1, p.2)
    (list_cut _ (actor_at c.args.machine.now (context_of c.args.tcs.now) c.args.place) c.args.acts.now c.loop-act.status _ _ _ _ _ _ c.loop-act.act-index c.loop-act.invariant c.act-item.result c.loop-act-test.true c.act-item.is full _
    (in_context_cut c.args.machine.now c.args.place (λ actor. act_of actor c.act-item.result c.loop-act.status) full _ _ _ _ (same_context _ _ _ _ _ _ _ _ c.loop-act.invariant) c.in_err-status.ensures.full))

pub do_acts-loop-act-preserved : goal.do_acts-loop-act-preserved
do_acts-loop-act-preserved g t c =
    list_on _ (actor_at c.args.machine.now (context_of c.args.tcs.now) c.args.place) c.args.acts.now c.loop-act.status _ _ _ _ _ _ c.loop-act.act-index c.loop-act.invariant c.act-item.result c.loop-act-test.true c.act-item.is _ _ _ _
    (in_context c.args.machine.now c.args.place (λ actor. act_of actor c.act-item.result c.loop-act.status) _ _ _ _ _ _ _ _ (same_context _ _ _ _ _ _ _ _ c.loop-act.invariant) c.in_ok-status.ensures.ok)

pub do_acts-returns-clause-ok : goal.do_acts-returns-clause-ok
do_acts-returns-clause-ok g t c =
    list_end _ (actor_at c.args.machine.now (context_of c.args.tcs.now) c.args.place) c.args.acts.now c.loop-act.status _ _ _ _ _ _ c.loop-act.act-index c.loop-act.invariant (omega (arith, c.loop-act-test.false))

-- ---- a repeat

pub repeat-loop-turn-init : goal.repeat-loop-turn-init
repeat-loop-turn-init g t c = repeat_begin (acts_from (actor_at c.args.machine.now (context_of c.args.tcs.now) c.args.place) c.args.acts.now) c.args.times c.args.status _ _ _

pub repeat-returns-in_err-status-clause-full : goal.repeat-returns-in_err-status-clause-full
repeat-returns-in_err-status-clause-full g t c =
    let p = err_from_is_err_and c.from_residual.result c.from_residual.ensures.1 in
    let full : RunFull = c.in_err-status.field-0.0 in
    rw (p.1, p.2)
    (repeat_cut _ (acts_from (actor_at c.args.machine.now (context_of c.args.tcs.now) c.args.place) c.args.acts.now) c.args.times c.loop-turn.status _ _ _ _ _ _ c.loop-turn.turn c.loop-turn.invariant c.loop-turn-test.true full _
    (in_context_cut c.args.machine.now c.args.place (λ actor. acts_from actor c.args.acts.now c.loop-turn.status) full _ _ _ _ (same_context _ _ _ _ _ _ _ _ c.loop-turn.invariant) c.in_err-status.ensures.full))

pub repeat-loop-turn-preserved : goal.repeat-loop-turn-preserved
repeat-loop-turn-preserved g t c =
    repeat_on _ (acts_from (actor_at c.args.machine.now (context_of c.args.tcs.now) c.args.place) c.args.acts.now) c.args.times c.loop-turn.status _ _ _ _ _ _ c.loop-turn.turn c.loop-turn.invariant c.loop-turn-test.true _ _ _ _
    (in_context c.args.machine.now c.args.place (λ actor. acts_from actor c.args.acts.now c.loop-turn.status) _ _ _ _ _ _ _ _ (same_context _ _ _ _ _ _ _ _ c.loop-turn.invariant) c.in_ok-status.ensures.ok)

pub repeat-returns-clause-ok : goal.repeat-returns-clause-ok
repeat-returns-clause-ok g t c =
    repeat_end _ (acts_from (actor_at c.args.machine.now (context_of c.args.tcs.now) c.args.place) c.args.acts.now) c.args.times c.loop-turn.status _ _ _ _ _ _ c.loop-turn.turn c.loop-turn.invariant (omega (arith, c.loop-turn-test.false))

-- ---- calls by the host

-- ---- a call without a frame

pub call-returns-in_err-ecall-clause-full : goal.call-returns-in_err-ecall-clause-full
call-returns-in_err-ecall-clause-full g t c =
    let p = err_from_is_err_and c.from_residual.result c.from_residual.ensures.1 in
    let framed : has_frame c.in-Some.function.now ≡ false = sym c.has_frame.ensures ∙ c.if-not-has_frame.true in
    rw (p.1, p.2)
    (frameless_cut c.args.machine.now c.requires.machine.no_trusted_workers c.in-Some.function.now c.args.place.frame c.args.ordinal c.args.args.now (sym c.in-Some.ensures.value) framed _ c.args.records.now c.args.tcs.now _ _ c.in_err-ecall.ensures.full)

pub call-returns-then-not-has_frame-clause-ok : goal.call-returns-then-not-has_frame-clause-ok
call-returns-then-not-has_frame-clause-ok g t c =
    let framed : has_frame c.in-Some.function.now ≡ false = sym c.has_frame.ensures ∙ c.if-not-has_frame.true in
    frameless_made c.args.machine.now c.requires.machine.no_trusted_workers c.in-Some.function.now c.args.place.frame c.args.ordinal c.args.args.now (sym c.in-Some.ensures.value) framed _ c.args.records.now c.args.tcs.now _ _ _ _ c.in_ok-ecall.ensures.ok

-- ---- its frame

pub call-frame_call-requires-clause-plain : goal.call-frame_call-requires-clause-plain
call-frame_call-requires-clause-plain g t c = ecall_of c.args.machine.now c.requires.machine c.args.ordinal c.in-Some.function.now (sym c.in-Some.ensures.value)

pub call-frame_call-requires-clause-args : goal.call-frame_call-requires-clause-args
call-frame_call-requires-clause-args g t c = call_fits c.args.machine.now c.requires.machine c.args.place c.args.ordinal c.args.args.now c.in-Some.function.now c.requires.sound (sym c.in-Some.ensures.value)

pub call-returns-in_err-frame-clause-full : goal.call-returns-in_err-frame-clause-full
call-returns-in_err-frame-clause-full g t c =
    let p = err_from_is_err_and c.from_residual-in_err-frame.result c.from_residual-in_err-frame.ensures.1 in
    let cut = c.in_err-frame.ensures.full (this_call c.args.machine.now c.requires.machine.no_trusted_workers c.in-Some.function.now c.args.place.frame c.args.ordinal c.args.args.now (sym c.in-Some.ensures.value) (g.P.WordPort.state c.args.port.now) c.requires.port.host_is c.args.records.now c.args.tcs.now) in
    rw (p.1, p.2, cut.0)
    (framing_cut c.args.machine.now c.requires.machine.no_trusted_workers c.in-Some.function.now c.args.place.frame c.args.ordinal c.args.args.now (sym c.in-Some.ensures.value) (g.P.WordPort.state c.args.port.now) c.requires.port.host_is c.args.records.now c.args.tcs.now _ cut.1)

pub call-returns-in_default-2-clause-ok : goal.call-returns-in_default-2-clause-ok
call-returns-in_default-2-clause-ok g t c =
    let framed : IsFramed c.in-Some.function.now c.args.args.now c.args.place.frame (g.P.WordPort.state c.args.port.now) (g.P.WordPort.state c.frame_call.new.port) c.args.tcs.now c.frame_call.new.tcs None =
    subst (λ (o : Option Frame). IsFramed c.in-Some.function.now c.args.args.now c.args.place.frame (g.P.WordPort.state c.args.port.now) (g.P.WordPort.state c.frame_call.new.port) c.args.tcs.now c.frame_call.new.tcs o) c.in_default-2.is c.in_ok-frame.ensures.ok in
    on_ok_maps c.refuse_call.result _ _
    (unframed_made c.args.machine.now c.requires.machine.no_trusted_workers c.in-Some.function.now c.args.place.frame c.args.ordinal c.args.args.now (sym c.in-Some.ensures.value) (g.P.WordPort.state c.args.port.now) c.requires.port.host_is c.args.records.now c.args.tcs.now _ c.frame_call.new.tcs framed c.refuse_call.new.records)
    c.refuse_call.ensures.ok

pub call-returns-in_default-2-clause-full : goal.call-returns-in_default-2-clause-full
call-returns-in_default-2-clause-full g t c =
    let framed : IsFramed c.in-Some.function.now c.args.args.now c.args.place.frame (g.P.WordPort.state c.args.port.now) (g.P.WordPort.state c.frame_call.new.port) c.args.tcs.now c.frame_call.new.tcs None =
    subst (λ (o : Option Frame). IsFramed c.in-Some.function.now c.args.args.now c.args.place.frame (g.P.WordPort.state c.args.port.now) (g.P.WordPort.state c.frame_call.new.port) c.args.tcs.now c.frame_call.new.tcs o) c.in_default-2.is c.in_ok-frame.ensures.ok in
    err_maps c.refuse_call.result _ _
    (unframed_cut c.args.machine.now c.requires.machine.no_trusted_workers c.in-Some.function.now c.args.place.frame c.args.ordinal c.args.args.now (sym c.in-Some.ensures.value) (g.P.WordPort.state c.args.port.now) c.requires.port.host_is c.args.records.now c.args.tcs.now _ c.frame_call.new.tcs framed)
    c.refuse_call.ensures.full

-- ---- a call with a frame

pub call-returns-in_err-status-clause-full : goal.call-returns-in_err-status-clause-full
call-returns-in_err-status-clause-full g t c =
    let p = err_from_is_err_and c.from_residual-in_err-status.result c.from_residual-in_err-status.ensures.1 in
    let framed : IsFramed c.in-Some.function.now c.args.args.now c.args.place.frame (g.P.WordPort.state c.args.port.now) (g.P.WordPort.state c.frame_call.new.port) c.args.tcs.now c.frame_call.new.tcs (Some c.in-Some-2.frame) =
    subst (λ (o : Option Frame). IsFramed c.in-Some.function.now c.args.args.now c.args.place.frame (g.P.WordPort.state c.args.port.now) (g.P.WordPort.state c.frame_call.new.port) c.args.tcs.now c.frame_call.new.tcs o) c.in-Some-2.is c.in_ok-frame.ensures.ok in
    rw (p.1, p.2)
    (entering_cut c.args.machine.now c.requires.machine.no_trusted_workers c.in-Some.function.now c.args.place.frame c.args.ordinal c.args.args.now (sym c.in-Some.ensures.value) (g.P.WordPort.state c.args.port.now) c.requires.port.host_is c.args.records.now c.args.tcs.now _ c.frame_call.new.tcs c.in-Some-2.frame framed _ _ c.in_err-status.ensures.full)

pub call-end_call-requires-clause-plain : goal.call-end_call-requires-clause-plain
call-end_call-requires-clause-plain g t c = ecall_of c.args.machine.now c.requires.machine c.args.ordinal c.in-Some.function.now (sym c.in-Some.ensures.value)

pub call-end_call-requires-clause-from : goal.call-end_call-requires-clause-from
call-end_call-requires-clause-from g t c =
    frame_from c.args.machine.now c.in-Some.function.now c.args.args.now c.args.place.frame (g.P.WordPort.state c.args.port.now) (g.P.WordPort.state c.frame_call.new.port) c.args.tcs.now c.frame_call.new.tcs c.in-Some-2.frame
    (subst (λ (o : Option Frame). IsFramed c.in-Some.function.now c.args.args.now c.args.place.frame (g.P.WordPort.state c.args.port.now) (g.P.WordPort.state c.frame_call.new.port) c.args.tcs.now c.frame_call.new.tcs o) c.in-Some-2.is c.in_ok-frame.ensures.ok)
    c.requires.stack_in

pub call-end_call-requires-clause-upto : goal.call-end_call-requires-clause-upto
call-end_call-requires-clause-upto g t c =
    let out = c.in_ok-status.ensures.ok in
    frame_ends c.args.machine.now c.in-Some.function.now c.args.args.now c.args.place.frame (g.P.WordPort.state c.args.port.now) (g.P.WordPort.state c.frame_call.new.port) c.args.tcs.now c.frame_call.new.tcs c.in-Some-2.frame
    (subst (λ (o : Option Frame). IsFramed c.in-Some.function.now c.args.args.now c.args.place.frame (g.P.WordPort.state c.args.port.now) (g.P.WordPort.state c.frame_call.new.port) c.args.tcs.now c.frame_call.new.tcs o) c.in-Some-2.is c.in_ok-frame.ensures.ok)
    c.requires.stack_in c.requires.port _ c.args.records.now c.ecall-2.new.records c.ecall-2.new.tcs _ out.0 out.2

pub call-returns-clause-ok : goal.call-returns-clause-ok
call-returns-clause-ok g t c =
    let framed : IsFramed c.in-Some.function.now c.args.args.now c.args.place.frame (g.P.WordPort.state c.args.port.now) (g.P.WordPort.state c.frame_call.new.port) c.args.tcs.now c.frame_call.new.tcs (Some c.in-Some-2.frame) =
    subst (λ (o : Option Frame). IsFramed c.in-Some.function.now c.args.args.now c.args.place.frame (g.P.WordPort.state c.args.port.now) (g.P.WordPort.state c.frame_call.new.port) c.args.tcs.now c.frame_call.new.tcs o) c.in-Some-2.is c.in_ok-frame.ensures.ok in
    let out = c.in_ok-status.ensures.ok in
    on_ok_both c.end_call.result _ _ _
    (λ made back. framed_made c.args.machine.now c.requires.machine.no_trusted_workers c.in-Some.function.now c.args.place.frame c.args.ordinal c.args.args.now (sym c.in-Some.ensures.value) (g.P.WordPort.state c.args.port.now) c.requires.port.host_is c.args.records.now c.args.tcs.now _ c.frame_call.new.tcs c.in-Some-2.frame framed
    _ c.ecall-2.new.records c.ecall-2.new.tcs out.0 out.2 _ c.end_call.new.tcs out.3 out.4 back made)
    (c.end_call.ensures.ok out.0 out.1) c.end_call.ensures.back

pub call-returns-clause-full : goal.call-returns-clause-full
call-returns-clause-full g t c =
    let framed : IsFramed c.in-Some.function.now c.args.args.now c.args.place.frame (g.P.WordPort.state c.args.port.now) (g.P.WordPort.state c.frame_call.new.port) c.args.tcs.now c.frame_call.new.tcs (Some c.in-Some-2.frame) =
    subst (λ (o : Option Frame). IsFramed c.in-Some.function.now c.args.args.now c.args.place.frame (g.P.WordPort.state c.args.port.now) (g.P.WordPort.state c.frame_call.new.port) c.args.tcs.now c.frame_call.new.tcs o) c.in-Some-2.is c.in_ok-frame.ensures.ok in
    let out = c.in_ok-status.ensures.ok in
    err_maps c.end_call.result _ _
    (λ full cut. rw cut.0 (returning_cut c.args.machine.now c.requires.machine.no_trusted_workers c.in-Some.function.now c.args.place.frame c.args.ordinal c.args.args.now (sym c.in-Some.ensures.value) (g.P.WordPort.state c.args.port.now) c.requires.port.host_is c.args.records.now c.args.tcs.now _ c.frame_call.new.tcs c.in-Some-2.frame framed
    _ c.ecall-2.new.records c.ecall-2.new.tcs out.0 out.2 _ cut.1))
    (c.end_call.ensures.full out.0 out.1)

-- ---- OCALLs

pub ocall-returns-in-Err-Refused-clause-ok : goal.ocall-returns-in-Err-Refused-clause-ok
ocall-returns-in-Err-Refused-clause-ok g t c passed are =
    unasked_made c.args.machine.now c.args.ordinal passed _ _ c.args.records.now _ c.args.tcs.now _ c.in-Err-Refused.status
    (rw c.in-Err-Refused.field-0-is at (c.in-Err-Refused.ensures.err passed are))

pub ocall-returns-in_err-status-clause-full : goal.ocall-returns-in_err-status-clause-full
ocall-returns-in_err-status-clause-full g t c passed are =
    let p = err_from_is_err_and c.from_residual.result c.from_residual.ensures.1 in
    rw (p.1, p.2)
    (host_cut c.args.machine.now c.requires.machine.no_untrusted_workers c.args.ordinal c.args.args.now.items _ _ c.args.records.now c.start_ocall.new.records c.args.tcs.now c.start_ocall.new.tcs
    c.in-Ok.asked c.in-Ok.ensures.ok c.requires.inside passed are _ _ c.in_err-status.ensures.full)

pub ocall-finish_ocall-requires-clause-call : goal.ocall-finish_ocall-requires-clause-call
ocall-finish_ocall-requires-clause-call g t c =
    end_call c.args.machine.now c.requires.machine.no_untrusted_workers c.args.ordinal c.args.args.now.items _ _ c.args.records.now c.start_ocall.new.records c.args.tcs.now c.start_ocall.new.tcs
    c.in-Ok.asked c.in-Ok.ensures.ok c.requires.inside c.requires.arguments.2.live.0 c.requires.arguments.2.live.1 _ _ _ c.in_ok-status.status c.in_ok-status.ensures.ok c.requires.arguments

pub ocall-finish_ocall-requires-clause-inside : goal.ocall-finish_ocall-requires-clause-inside
ocall-finish_ocall-requires-clause-inside g t c =
    end_inside c.args.machine.now c.requires.machine.no_untrusted_workers c.args.ordinal c.args.args.now.items _ _ c.args.records.now c.start_ocall.new.records c.args.tcs.now c.start_ocall.new.tcs
    c.in-Ok.asked c.in-Ok.ensures.ok c.requires.inside c.requires.arguments.2.live.0 c.requires.arguments.2.live.1 _ _ _ c.in_ok-status.status c.in_ok-status.ensures.ok

pub ocall-finish_ocall-requires-clause-place : goal.ocall-finish_ocall-requires-clause-place
ocall-finish_ocall-requires-clause-place g t c =
    end_place c.args.machine.now c.requires.machine.no_untrusted_workers c.args.ordinal c.args.args.now.items _ _ c.args.records.now c.start_ocall.new.records c.args.tcs.now c.start_ocall.new.tcs
    c.in-Ok.asked c.in-Ok.ensures.ok c.requires.inside c.requires.arguments.2.live.0 c.requires.arguments.2.live.1 _ _ _ c.in_ok-status.status c.in_ok-status.ensures.ok

pub ocall-finish_ocall-requires-clause-frame : goal.ocall-finish_ocall-requires-clause-frame
ocall-finish_ocall-requires-clause-frame g t c =
    end_frame c.args.machine.now c.requires.machine.no_untrusted_workers c.args.ordinal c.args.args.now.items _ _ c.args.records.now c.start_ocall.new.records c.args.tcs.now c.start_ocall.new.tcs
    c.in-Ok.asked c.in-Ok.ensures.ok c.requires.inside c.requires.arguments.2.live.0 c.requires.arguments.2.live.1 _ _ _ c.in_ok-status.status c.in_ok-status.ensures.ok

pub ocall-returns-in_err-value-clause-full : goal.ocall-returns-in_err-value-clause-full
ocall-returns-in_err-value-clause-full g t c passed are =
    let p = err_from_is_err_and c.from_residual-in_err-value.result c.from_residual-in_err-value.ensures.1 in
    let same = arena_is c.args.machine.now c.requires.machine.no_untrusted_workers c.args.ordinal c.args.args.now.items _ _ c.args.records.now c.start_ocall.new.records c.args.tcs.now c.start_ocall.new.tcs
    c.in-Ok.asked c.in-Ok.ensures.ok c.requires.inside passed are _ _ _ c.in_ok-status.status c.in_ok-status.ensures.ok in
    rw (p.1, p.2)
    (end_cut c.args.machine.now c.requires.machine.no_untrusted_workers c.args.ordinal c.args.args.now.items _ _ c.args.records.now c.start_ocall.new.records c.args.tcs.now c.start_ocall.new.tcs
    c.in-Ok.asked c.in-Ok.ensures.ok c.requires.inside passed are _ _ _ c.in_ok-status.status c.in_ok-status.ensures.ok _ _
    (c.in_err-value.ensures.full passed c.in_ok-status.ensures.ok.0.records (subst (λ a. ArePassed a c.args.args.now.items passed) (sym same) are)))

pub ocall-returns-clause-ok : goal.ocall-returns-clause-ok
ocall-returns-clause-ok g t c passed are =
    let same = arena_is c.args.machine.now c.requires.machine.no_untrusted_workers c.args.ordinal c.args.args.now.items _ _ c.args.records.now c.start_ocall.new.records c.args.tcs.now c.start_ocall.new.tcs
    c.in-Ok.asked c.in-Ok.ensures.ok c.requires.inside passed are _ _ _ c.in_ok-status.status c.in_ok-status.ensures.ok in
    ocall_made c.args.machine.now c.requires.machine.no_untrusted_workers c.args.ordinal c.args.args.now.items _ _ c.args.records.now c.start_ocall.new.records c.args.tcs.now c.start_ocall.new.tcs
    c.in-Ok.asked c.in-Ok.ensures.ok c.requires.inside passed are _ _ _ c.in_ok-status.status c.in_ok-status.ensures.ok _ _ _ c.in_ok-value.value
    (c.in_ok-value.ensures.ok passed (subst (λ a. ArePassed a c.args.args.now.items passed) (sym same) are))

pub ocall-returns-in-Err-Refused-clause-kept : goal.ocall-returns-in-Err-Refused-clause-kept
ocall-returns-in-Err-Refused-clause-kept g t c =
    let (passed, are) = c.requires.arguments.2.live in
    unasked_keeps c.args.machine.now c.args.ordinal _ _ _ c.args.records.now _ c.args.tcs.now _ c.in-Err-Refused.status
    (rw c.in-Err-Refused.field-0-is at (c.in-Err-Refused.ensures.err passed are))

pub ocall-returns-in-Err-Full-clause-full : goal.ocall-returns-in-Err-Full-clause-full
ocall-returns-in-Err-Full-clause-full g t c passed are = rw c.in-Err-Full.field-0-is at (c.in-Err-Full.ensures.err passed are)

pub ocall-returns-clause-kept : goal.ocall-returns-clause-kept
ocall-returns-clause-kept g t c =
    end_keeps c.args.machine.now c.requires.machine.no_untrusted_workers c.args.ordinal c.args.args.now.items _ _ c.args.records.now c.start_ocall.new.records c.args.tcs.now c.start_ocall.new.tcs
    c.in-Ok.asked c.in-Ok.ensures.ok c.requires.inside c.requires.arguments.2.live.0 c.requires.arguments.2.live.1 _ _ _ c.in_ok-status.status c.in_ok-status.ensures.ok _ c.in_ok-value.ensures.kept

pub ask_host-returns-clause-ok : goal.ask_host-returns-clause-ok
ask_host-returns-clause-ok g t c =
    let cx : Context = context_of c.args.tcs.now in
    let place : HostPlace = record { frame = c.address.result; return_size = c.return_size.result } in
    let same : acts_from (actor_at c.args.machine.now cx place) c.handler_of-acts.result.now SUCCESS
    ≡ handlers_by c.args.machine.now (ecalls c.args.machine.now cx) cx c.args.asked.ordinal c.args.asked.function.now (frame_address c.args.asked.frame) =
    ap (λ acts. acts_from (actor_at c.args.machine.now cx place) acts SUCCESS) c.handler_of-acts.ensures
    ∙ handler_is c.args.machine.now cx c.args.asked.ordinal c.args.asked.function.now place (frame_address c.args.asked.frame) c.address.ensures c.return_size.ensures in
    subst (λ t. IfOk c.do_acts.result (MakesOutcome t (g.P.WordPort.state c.args.port.now) (g.P.WordPort.state c.do_acts.new.port) c.args.records.now c.do_acts.new.records c.args.tcs.now c.do_acts.new.tcs)) same c.do_acts.ensures.ok

pub ask_host-returns-clause-full : goal.ask_host-returns-clause-full
ask_host-returns-clause-full g t c =
    let cx : Context = context_of c.args.tcs.now in
    let place : HostPlace = record { frame = c.address.result; return_size = c.return_size.result } in
    let same : acts_from (actor_at c.args.machine.now cx place) c.handler_of-acts.result.now SUCCESS
    ≡ handlers_by c.args.machine.now (ecalls c.args.machine.now cx) cx c.args.asked.ordinal c.args.asked.function.now (frame_address c.args.asked.frame) =
    ap (λ acts. acts_from (actor_at c.args.machine.now cx place) acts SUCCESS) c.handler_of-acts.ensures
    ∙ handler_is c.args.machine.now cx c.args.asked.ordinal c.args.asked.function.now place (frame_address c.args.asked.frame) c.address.ensures c.return_size.ensures in
    subst (λ t. IfErr c.do_acts.result (λ full. StopsAt full t (moment (g.P.WordPort.state c.args.port.now) c.args.records.now c.args.tcs.now) (g.P.WordPort.state c.do_acts.new.port))) same c.do_acts.ensures.full

-- ---- entries

pub enter-returns-in-Err-Refused-clause-ok : goal.enter-returns-in-Err-Refused-clause-ok
enter-returns-in-Err-Refused-clause-ok g t c =
    let refused = rw c.in-Err-Refused.field-0-is at c.in-Err-Refused.ensures.err in
    refusal_runs c.args.machine.now c.args.ordinal c.args.frame _ _ c.args.records.now c.args.tcs.now c.admit.new.tcs c.in-Err-Refused.status refused.0 refused.1

pub enter-returns-in-Err-Refused-clause-refused : goal.enter-returns-in-Err-Refused-clause-refused
enter-returns-in-Err-Refused-clause-refused g t c = λ refusal.
    let refused = rw c.in-Err-Refused.field-0-is at c.in-Err-Refused.ensures.err in
    let loads = rw c.in-Err-Refused.field-0-is at c.in-Err-Refused.ensures.refused in
    (loads, refused.1, refl)

pub enter-returns-in-Err-Full-clause-full : goal.enter-returns-in-Err-Full-clause-full
enter-returns-in-Err-Full-clause-full g t c =
    entry_cut_early c.args.machine.now c.args.ordinal c.args.frame _ _ c.args.records.now c.args.tcs.now c.in-Err-Full.full
    (rw c.in-Err-Full.field-0-is at c.in-Err-Full.ensures.err)

pub enter-values_in-values-requires-clause-words : goal.enter-values_in-values-requires-clause-words
enter-values_in-values-requires-clause-words g t c = (ecall_of c.args.machine.now c.requires.machine c.args.ordinal _ c.in-Ok.ensures.ok.found).words

pub enter-values_in-values-requires-clause-few : goal.enter-values_in-values-requires-clause-few
enter-values_in-values-requires-clause-few g t c = (ecall_of c.args.machine.now c.requires.machine c.args.ordinal _ c.in-Ok.ensures.ok.found).few

pub enter-carry_out-requires : goal.enter-carry_out-requires
enter-carry_out-requires g t c κs within =
    let is = c.in-Ok.ensures.ok in
    let entries : length c.admit.new.tcs.stack ≡ suc (length c.args.tcs.now.stack) = ap (λ (s : TcsState). length s.stack) is.lies.grown in (
      deeper c.args.machine.now c.args.tcs.now.stack c.admit.new.tcs.stack t (3 * largest c.args.machine.now + 11) 1 c.decreases entries is.shallow (omega arith),
      (
        search rules,
        (
          c.requires.machine,
          (
            in_enclave _ _ _ _ _ _ _ _ _ is,
            (
              stack_stays _ _ _ _ _ _ _ _ _ is c.requires.stack_in,
              (
                port_stays _ _ _ _ _ _ _ _ _ is c.requires.port,
                (has_parameters _ _ _ _ _ _ _ _ _ is c.values_in-values.result.items (c.values_in-values.ensures is.fields is.has_fields), (is.numbers, is.held)),
              ),
            ),
          ),
        ),
      ),
    )

pub enter-returns-in_err-value-clause-full : goal.enter-returns-in_err-value-clause-full
enter-returns-in_err-value-clause-full g t c =
    let p = err_from_is_err_and c.from_residual.result c.from_residual.ensures.1 in
    let is = c.in-Ok.ensures.ok in
    rw (p.1, p.2)
    (entry_cut_inside _ _ _ _ _ _ _ _ _ is c.values_in-values.result.items c.args.records.now _ _ (c.values_in-values.ensures is.fields is.has_fields)
    (c.in_err-value.ensures.full is.numbers is.held))

pub enter-finish-requires-clause-size : goal.enter-finish-requires-clause-size
enter-finish-requires-clause-size g t c = (ecall_of c.args.machine.now c.requires.machine c.args.ordinal _ c.in-Ok.ensures.ok.found).runnable.returns

pub enter-finish-requires-clause-few : goal.enter-finish-requires-clause-few
enter-finish-requires-clause-few g t c = (ecall_of c.args.machine.now c.requires.machine c.args.ordinal _ c.in-Ok.ensures.ok.found).few

pub enter-finish-requires-clause-mapped : goal.enter-finish-requires-clause-mapped
enter-finish-requires-clause-mapped g t c =
    let is = c.in-Ok.ensures.ok in
    mapped_still _ _ _ _ _ _ _ _ _ is c.values_in-values.result.items (c.values_in-values.ensures is.fields is.has_fields) _ _ _ _ _ _ (c.in_ok-value.ensures.ok is.numbers is.held) c.requires.port

pub enter-finish-requires-clause-lies : goal.enter-finish-requires-clause-lies
enter-finish-requires-clause-lies g t c =
    let is = c.in-Ok.ensures.ok in (
      c.args.tcs.now,
      c.args.ordinal,
      lies_still _ _ _ _ _ _ _ _ _ is c.values_in-values.result.items (c.values_in-values.ensures is.fields is.has_fields) _ _ _ _ _ _ (c.in_ok-value.ensures.ok is.numbers is.held),
    )

pub enter-finish-requires-clause-copies : goal.enter-finish-requires-clause-copies
enter-finish-requires-clause-copies g t c =
    let is = c.in-Ok.ensures.ok in
    let ran = c.in_ok-value.ensures.ok is.numbers is.held in
    let values_are = c.values_in-values.ensures is.fields is.has_fields in (
      is.fields,
      fields_stay _ _ _ _ _ _ _ _ _ is c.values_in-values.result.items values_are _ _ _ _ _ _ ran,
      allowed_still _ _ _ _ _ _ _ _ _ is c.values_in-values.result.items values_are _ _ _ _ _ _ ran c.requires.port,
      (
        ran.bytes,
        subst (λ l. HasBlocks c.carry_out.new.tcs.arena l ran.bytes) (sym c.as_slice.ensures.value) ran.have,
        copies_still _ _ _ _ _ _ _ _ _ is c.values_in-values.result.items values_are _ _ _ _ _ _ ran,
      ),
    )

pub enter-returns-in_err-finish-clause-full : goal.enter-returns-in_err-finish-clause-full
enter-returns-in_err-finish-clause-full g t c =
    let p = err_from_is_err_and c.from_residual-in_err-finish.result c.from_residual-in_err-finish.ensures.1 in
    let is = c.in-Ok.ensures.ok in
    let ran = c.in_ok-value.ensures.ok is.numbers is.held in
    let values_are = c.values_in-values.ensures is.fields is.has_fields in
    rw (p.1, p.2)
    (entry_cut_late _ _ _ _ _ _ _ _ _ is c.values_in-values.result.items values_are _ _ _ _ _ _ ran (length c.log.result.now) _ _ (ap (λ (l : List Step). length l) c.log.ensures.log)
    (c.in_err-finish.ensures.full is.fields ran.bytes (fields_stay _ _ _ _ _ _ _ _ _ is c.values_in-values.result.items values_are _ _ _ _ _ _ ran)
    (subst (λ l. HasBlocks c.carry_out.new.tcs.arena l ran.bytes) (sym c.as_slice.ensures.value) ran.have)
    (copies_still _ _ _ _ _ _ _ _ _ is c.values_in-values.result.items values_are _ _ _ _ _ _ ran)))

pub enter-returns-clause-ok : goal.enter-returns-clause-ok
enter-returns-clause-ok g t c =
    let is = c.in-Ok.ensures.ok in
    let ran = c.in_ok-value.ensures.ok is.numbers is.held in
    let values_are = c.values_in-values.ensures is.fields is.has_fields in
    entry_answers _ _ _ _ _ _ _ _ _ is c.values_in-values.result.items values_are _ _ _ _ _ _ ran (length c.log.result.now) _ _ (ap (λ (l : List Step). length l) c.log.ensures.log)
    (c.in_ok-finish.ensures.ok is.fields ran.bytes (fields_stay _ _ _ _ _ _ _ _ _ is c.values_in-values.result.items values_are _ _ _ _ _ _ ran)
    (subst (λ l. HasBlocks c.carry_out.new.tcs.arena l ran.bytes) (sym c.as_slice.ensures.value) ran.have)
    (copies_still _ _ _ _ _ _ _ _ _ is c.values_in-values.result.items values_are _ _ _ _ _ _ ran))
    (c.in_ok-finish.ensures.left c.args.tcs.now c.args.ordinal
    (lies_still _ _ _ _ _ _ _ _ _ is c.values_in-values.result.items values_are _ _ _ _ _ _ ran))

pub ecall-returns-in_err-push-clause-full : goal.ecall-returns-in_err-push-clause-full
ecall-returns-in_err-push-clause-full g t c =
    let p = err_from_is_err_and c.from_residual.result c.from_residual.ensures.1 in
    let full : length c.args.records.now.list ≡ c.args.records.now.limit = c.in_err-push.ensures.full.0 (rw c.in_err-push.ensures.only refl) in
    let none : records_left c.args.records.now ≡ 0 = omega (arith, full) in
    rw (p.1, p.2, c.in_err-push.ensures.only) (ecall_unrecorded c.args.machine.now (context_of c.args.tcs.now) c.args.ordinal c.args.frame c.args.way _ _ _ none)

pub ecall-enter-requires : goal.ecall-enter-requires
ecall-enter-requires g t c κs within = (
  less c.args.machine.now c.args.tcs.now.stack c.args.tcs.now.stack t 1 2 c.decreases refl (omega arith),
  (search rules, (c.requires.machine, (c.requires.stack, (c.requires.stack_in, c.requires.port)))),
)

pub ecall-returns-in_err-entered-clause-full : goal.ecall-returns-in_err-entered-clause-full
ecall-returns-in_err-entered-clause-full g t c =
    let p = err_from_is_err_and c.from_residual-in_err-entered.result c.from_residual-in_err-entered.ensures.1 in
    let less : length c.args.records.now.list < c.args.records.now.limit = room_for_one _ _ c.list.ensures.limit (λ e. absurd (let q = c.in_ok-push.ensures.full.1 e in cc)) in
    rw (p.1, p.2)
    (ecall_stops c.args.machine.now (context_of c.args.tcs.now) c.args.ordinal c.args.frame c.args.way _ (length c.log.result.now) (records_left c.args.records.now) (records_left c.push.new.self) c.args.tcs.now.waits _ _
    (one_record_less c.args.records.now c.push.new.self _ c.in_ok-push.ensures.ok less) (ap (λ (l : List Step). length l) c.log.ensures.log) c.in_err-entered.ensures.full)

pub ecall-returns-clause-ok : goal.ecall-returns-clause-ok
ecall-returns-clause-ok g t c =
    let less : length c.args.records.now.list < c.args.records.now.limit = room_for_one _ _ c.list.ensures.limit (λ e. absurd (let q = c.in_ok-push.ensures.full.1 e in cc)) in
    ecall_ends c.args.machine.now c.args.ordinal c.args.frame c.depth.result (length c.log.result.now) (length c.log-2.result.now) (length c.list.result.now) c.args.way
    c.args.tcs.now c.enter.new.tcs c.args.records.now c.push.new.self c.enter.new.records c.set.new.self _ _ c.in_ok-entered.entered _ c.ended_record-ended.result
    (c.depth.ensures ∙ ap (λ (s : TcsState). depth_of (context_of s)) c.tcs.view_is)
    less refl c.ended_record-ended.ensures c.in_ok-push.ensures.ok (ap (λ (l : List CallRecord). length l) c.list.ensures.list) c.set.ensures
    (ap (λ (l : List Step). length l) c.log.ensures.log) (ap (λ (l : List Step). length l) c.log-2.ensures.log)
    (λ refusal. (c.in_ok-entered.ensures.refused refusal).2) c.in_ok-entered.ensures.ok

pub ecall-returns-clause-refused : goal.ecall-returns-clause-refused
ecall-returns-clause-refused g t c = λ other.
    let refusal = c.in_ok-entered.ensures.refused
    (not_answered (begun_record c.args.ordinal c.depth.result c.args.frame c.args.way) (length c.log.result.now) (length c.log-2.result.now) c.ended_record-ended.result.status c.in_ok-entered.entered (ap (λ (r : CallRecord). r.status) c.ended_record-ended.ensures) other) in
    (refusal.0, refusal.1)

-- ---- bodies

pub carry_out-loop-value-init : goal.carry_out-loop-value-init
carry_out-loop-value-init g t c =
    let (f, found, params, count) = c.requires.parameters in record {
      next = omega arith;
      count = refl;
      port = c.requires.port;
      kept = refl;
      on = λ numbers held. begins c.args.machine.now c.args.ordinal c.args.values.now.items numbers c.begin_body-body.result.now c.args.tcs.now (g.P.WordPort.state c.args.port.now) c.args.records.now f c.requires.machine found c.begin_body-body.ensures.body c.args.blocks.now.items held count _ refl refl c.begin_body-body.new.blocks.items c.begin_body-body.ensures.nulls;
    }

pub carry_out-run_on-requires-clause-range : goal.carry_out-run_on-requires-clause-range
carry_out-run_on-requires-clause-range g t c =
    let (f, found, params, count) = c.requires.parameters in
    let all : length c.begin_body-body.new.blocks.items ≡ length (marshalled f) + count_by is_temp c.begin_body-body.result.now.actions =
    begun_count f c.args.blocks.now.items c.begin_body-body.new.blocks.items (count_by is_temp c.begin_body-body.result.now.actions) c.begin_body-body.ensures.nulls count in
    actions_in_range c.args.machine.now c.args.ordinal f c.requires.machine found c.begin_body-body.result.now c.begin_body-body.ensures.body _ _ params (c.loop-value.invariant.count ∙ all)

pub carry_out-run_on-requires-clause-short : goal.carry_out-run_on-requires-clause-short
carry_out-run_on-requires-clause-short g t c =
    let (f, found, params, count) = c.requires.parameters in
    few_actions c.args.machine.now c.args.ordinal f c.requires.machine found c.begin_body-body.result.now c.begin_body-body.ensures.body

pub carry_out-run_on-requires-clause-cells : goal.carry_out-run_on-requires-clause-cells
carry_out-run_on-requires-clause-cells g t c =
    let (f, found, params, count) = c.requires.parameters in
    cells_there c.args.machine.now c.args.ordinal f c.requires.machine found c.begin_body-body.result.now c.begin_body-body.ensures.body _ c.loop-value.invariant.port.words_are

pub carry_out-returns-in_err-value-clause-full : goal.carry_out-returns-in_err-value-clause-full
carry_out-returns-in_err-value-clause-full g t c = λ numbers held.
    let p = err_from_is_err_and c.from_residual.result c.from_residual.ensures.1 in
    let goes = c.loop-value.invariant.on numbers held in
    let seen : TcsState = record { stack = c.tcs.inside.stack; base = c.tcs.inside.host_stack.base; top = c.tcs.inside.host_stack.top; frames = c.tcs.inside.frames; arena = c.tcs.inside.arena; waits = c.tcs.inside.waits } in
    let seen_goes : GoesOn c.args.machine.now c.args.ordinal c.args.values.now.items numbers c.begin_body-body.result.now c.args.tcs.now (g.P.WordPort.state c.args.port.now) c.args.records.now c.loop-value.regs c.loop-value.blocks.items (g.P.WordPort.state c.loop-value.port) c.loop-value.records seen =
    subst (λ t. GoesOn c.args.machine.now c.args.ordinal c.args.values.now.items numbers c.begin_body-body.result.now c.args.tcs.now (g.P.WordPort.state c.args.port.now) c.args.records.now c.loop-value.regs c.loop-value.blocks.items (g.P.WordPort.state c.loop-value.port) c.loop-value.records t) (sym c.tcs.view_is) goes in
    let stopped = c.in_err-value.ensures.full seen_goes.later seen_goes.held in
    rw (p.1, p.2, stopped.0)
    (stops_in c.args.machine.now c.args.ordinal c.args.values.now.items numbers c.begin_body-body.result.now c.args.tcs.now (g.P.WordPort.state c.args.port.now) c.args.records.now c.loop-value.regs c.loop-value.blocks.items (g.P.WordPort.state c.loop-value.port) (g.P.WordPort.state c.run_on.new.port) c.loop-value.records c.loop-value.tcs seen c.tcs.view_is goes (λ ns its. (c.in_err-value.ensures.full ns its).1))

pub carry_out-returns-in-Done-clause-ok : goal.carry_out-returns-in-Done-clause-ok
carry_out-returns-in-Done-clause-ok g t c = λ numbers held.
    let seen : TcsState = record { stack = c.tcs.inside.stack; base = c.tcs.inside.host_stack.base; top = c.tcs.inside.host_stack.top; frames = c.tcs.inside.frames; arena = c.tcs.inside.arena; waits = c.tcs.inside.waits } in
    let goes = c.loop-value.invariant.on numbers held in
    let at : PausesAt c.args.machine.now c.args.ordinal c.args.values.now.items numbers c.begin_body-body.result.now c.args.tcs.now (g.P.WordPort.state c.args.port.now) c.args.records.now (Done c.in-Done.value) c.run_on.new.regs c.run_on.new.blocks.items (g.P.WordPort.state c.run_on.new.port) c.loop-value.records (record seen { arena = c.run_on.new.arena }) =
    pauses_in c.args.machine.now c.args.ordinal c.args.values.now.items numbers c.begin_body-body.result.now c.args.tcs.now (g.P.WordPort.state c.args.port.now) c.args.records.now c.loop-value.regs c.loop-value.blocks.items (g.P.WordPort.state c.loop-value.port) (g.P.WordPort.state c.run_on.new.port) c.loop-value.records c.loop-value.tcs seen c.tcs.view_is goes
    (Done c.in-Done.value) c.run_on.new.regs c.run_on.new.blocks.items c.run_on.new.arena (rw c.in-Done.is at c.in_ok-value.ensures.ok) in
    has_ended c.args.machine.now c.args.ordinal c.args.values.now.items numbers c.begin_body-body.result.now c.args.tcs.now (g.P.WordPort.state c.args.port.now) c.args.records.now c.in-Done.value c.run_on.new.regs c.run_on.new.blocks.items c.args.blocks.now.items (g.P.WordPort.state c.run_on.new.port) c.loop-value.records (record seen { arena = c.run_on.new.arena })
    (kept_seen c.args.machine.now c.args.ordinal c.args.values.now.items numbers c.begin_body-body.result.now c.args.tcs.now (g.P.WordPort.state c.args.port.now) c.args.records.now c.loop-value.tcs seen c.run_on.new.arena c.tcs.view_is c.loop-value.invariant.kept) at

pub carry_out-ocall-requires : goal.carry_out-ocall-requires
carry_out-ocall-requires g t c κs within =
    let (numbers, held) = c.requires.held in
    let seen : TcsState = record { stack = c.tcs.inside.stack; base = c.tcs.inside.host_stack.base; top = c.tcs.inside.host_stack.top; frames = c.tcs.inside.frames; arena = c.tcs.inside.arena; waits = c.tcs.inside.waits } in
    let goes = c.loop-value.invariant.on numbers held in
    let at : PausesAt c.args.machine.now c.args.ordinal c.args.values.now.items numbers c.begin_body-body.result.now c.args.tcs.now (g.P.WordPort.state c.args.port.now) c.args.records.now (Ocall c.in-Ocall.ordinal c.in-Ocall.args c.in-Ocall.ret c.in-Ocall.status) c.run_on.new.regs c.run_on.new.blocks.items (g.P.WordPort.state c.run_on.new.port) c.loop-value.records (record seen { arena = c.run_on.new.arena }) =
    pauses_in c.args.machine.now c.args.ordinal c.args.values.now.items numbers c.begin_body-body.result.now c.args.tcs.now (g.P.WordPort.state c.args.port.now) c.args.records.now c.loop-value.regs c.loop-value.blocks.items (g.P.WordPort.state c.loop-value.port) (g.P.WordPort.state c.run_on.new.port) c.loop-value.records c.loop-value.tcs seen c.tcs.view_is goes
    (Ocall c.in-Ocall.ordinal c.in-Ocall.args c.in-Ocall.ret c.in-Ocall.status) c.run_on.new.regs c.run_on.new.blocks.items c.run_on.new.arena (rw c.in-Ocall.is at c.in_ok-value.ensures.ok) in
    let kept = kept_seen c.args.machine.now c.args.ordinal c.args.values.now.items numbers c.begin_body-body.result.now c.args.tcs.now (g.P.WordPort.state c.args.port.now) c.args.records.now c.loop-value.tcs seen c.run_on.new.arena c.tcs.view_is c.loop-value.invariant.kept in
    let entries : length seen.stack ≡ length c.args.tcs.now.stack = ap (λ (s : TcsState). length s.stack) kept in
    let arguments = may_call c.args.machine.now c.args.ordinal c.args.values.now.items numbers c.begin_body-body.result.now c.args.tcs.now (g.P.WordPort.state c.args.port.now) c.args.records.now c.in-Ocall.ordinal c.in-Ocall.ret c.in-Ocall.status c.in-Ocall.args c.run_on.new.regs c.run_on.new.blocks.items (g.P.WordPort.state c.run_on.new.port) c.loop-value.records (record seen { arena = c.run_on.new.arena }) at c.requires.machine in (
      less c.args.machine.now c.args.tcs.now.stack seen.stack t (3 * largest c.args.machine.now + 10) (3 * largest c.args.machine.now + 11) c.decreases entries (omega arith),
      (search rules, (c.requires.machine, (subst (λ (s : TcsState). IsInEnclave s.stack) (sym kept) c.requires.inside, (subst (λ (s : TcsState). HasStackInHost c.args.machine.now s) (sym kept) c.requires.stack_in, (search rules, arguments))))),
    )

pub carry_out-returns-in_err-ended-in-Ocall-clause-full : goal.carry_out-returns-in_err-ended-in-Ocall-clause-full
carry_out-returns-in_err-ended-in-Ocall-clause-full g t c = λ numbers held.
    let p = err_from_is_err_and c.from_residual-in_err-ended-in-Ocall.result c.from_residual-in_err-ended-in-Ocall.ensures.1 in
    let seen : TcsState = record { stack = c.tcs.inside.stack; base = c.tcs.inside.host_stack.base; top = c.tcs.inside.host_stack.top; frames = c.tcs.inside.frames; arena = c.tcs.inside.arena; waits = c.tcs.inside.waits } in
    let goes = c.loop-value.invariant.on numbers held in
    let at : PausesAt c.args.machine.now c.args.ordinal c.args.values.now.items numbers c.begin_body-body.result.now c.args.tcs.now (g.P.WordPort.state c.args.port.now) c.args.records.now (Ocall c.in-Ocall.ordinal c.in-Ocall.args c.in-Ocall.ret c.in-Ocall.status) c.run_on.new.regs c.run_on.new.blocks.items (g.P.WordPort.state c.run_on.new.port) c.loop-value.records (record seen { arena = c.run_on.new.arena }) =
    pauses_in c.args.machine.now c.args.ordinal c.args.values.now.items numbers c.begin_body-body.result.now c.args.tcs.now (g.P.WordPort.state c.args.port.now) c.args.records.now c.loop-value.regs c.loop-value.blocks.items (g.P.WordPort.state c.loop-value.port) (g.P.WordPort.state c.run_on.new.port) c.loop-value.records c.loop-value.tcs seen c.tcs.view_is goes
    (Ocall c.in-Ocall.ordinal c.in-Ocall.args c.in-Ocall.ret c.in-Ocall.status) c.run_on.new.regs c.run_on.new.blocks.items c.run_on.new.arena (rw c.in-Ocall.is at c.in_ok-value.ensures.ok) in
    let stopped = c.in_err-ended-in-Ocall.ensures.full (its_numbers c.args.machine.now c.args.ordinal c.args.values.now.items numbers c.begin_body-body.result.now c.args.tcs.now (g.P.WordPort.state c.args.port.now) c.args.records.now c.in-Ocall.ordinal c.in-Ocall.ret c.in-Ocall.status c.in-Ocall.args c.run_on.new.regs c.run_on.new.blocks.items (g.P.WordPort.state c.run_on.new.port) c.loop-value.records (record seen { arena = c.run_on.new.arena }) at) (are_passed c.args.machine.now c.args.ordinal c.args.values.now.items numbers c.begin_body-body.result.now c.args.tcs.now (g.P.WordPort.state c.args.port.now) c.args.records.now c.in-Ocall.ordinal c.in-Ocall.ret c.in-Ocall.status c.in-Ocall.args c.run_on.new.regs c.run_on.new.blocks.items (g.P.WordPort.state c.run_on.new.port) c.loop-value.records (record seen { arena = c.run_on.new.arena }) at) in
    rw (p.1, p.2) (call_stops c.args.machine.now c.args.ordinal c.args.values.now.items numbers c.begin_body-body.result.now c.args.tcs.now (g.P.WordPort.state c.args.port.now) c.args.records.now c.in-Ocall.ordinal c.in-Ocall.ret c.in-Ocall.status c.in-Ocall.args c.run_on.new.regs c.run_on.new.blocks.items (g.P.WordPort.state c.run_on.new.port) c.loop-value.records (record seen { arena = c.run_on.new.arena }) at (kept_seen c.args.machine.now c.args.ordinal c.args.values.now.items numbers c.begin_body-body.result.now c.args.tcs.now (g.P.WordPort.state c.args.port.now) c.args.records.now c.loop-value.tcs seen c.run_on.new.arena c.tcs.view_is c.loop-value.invariant.kept) _ (g.P.WordPort.state c.ocall.new.port) stopped)

pub carry_out-loop-value-preserved : goal.carry_out-loop-value-preserved
carry_out-loop-value-preserved g t c =
    let all : (numbers : List (Option ℕ)) → IsHeld c.args.tcs.now.arena c.args.blocks.now.items numbers
    → GoesOn c.args.machine.now c.args.ordinal c.args.values.now.items numbers c.begin_body-body.result.now c.args.tcs.now (g.P.WordPort.state c.args.port.now) c.args.records.now c.answer-in-Ocall.new.regs c.run_on.new.blocks.items (g.P.WordPort.state c.ocall.new.port) c.ocall.new.records c.ocall.new.tcs × (c.ocall.new.tcs ≡ record c.args.tcs.now { arena = c.ocall.new.tcs.arena; waits = c.ocall.new.tcs.waits }) = λ numbers held.
    let seen : TcsState = record { stack = c.tcs.inside.stack; base = c.tcs.inside.host_stack.base; top = c.tcs.inside.host_stack.top; frames = c.tcs.inside.frames; arena = c.tcs.inside.arena; waits = c.tcs.inside.waits } in
    let goes = c.loop-value.invariant.on numbers held in
    let at : PausesAt c.args.machine.now c.args.ordinal c.args.values.now.items numbers c.begin_body-body.result.now c.args.tcs.now (g.P.WordPort.state c.args.port.now) c.args.records.now (Ocall c.in-Ocall.ordinal c.in-Ocall.args c.in-Ocall.ret c.in-Ocall.status) c.run_on.new.regs c.run_on.new.blocks.items (g.P.WordPort.state c.run_on.new.port) c.loop-value.records (record seen { arena = c.run_on.new.arena }) =
    pauses_in c.args.machine.now c.args.ordinal c.args.values.now.items numbers c.begin_body-body.result.now c.args.tcs.now (g.P.WordPort.state c.args.port.now) c.args.records.now c.loop-value.regs c.loop-value.blocks.items (g.P.WordPort.state c.loop-value.port) (g.P.WordPort.state c.run_on.new.port) c.loop-value.records c.loop-value.tcs seen c.tcs.view_is goes
    (Ocall c.in-Ocall.ordinal c.in-Ocall.args c.in-Ocall.ret c.in-Ocall.status) c.run_on.new.regs c.run_on.new.blocks.items c.run_on.new.arena (rw c.in-Ocall.is at c.in_ok-value.ensures.ok) in
    let (out, status_is, value_is, runs, records_are, back, same) = c.in_ok-ended-in-Ocall.ensures.ok (its_numbers c.args.machine.now c.args.ordinal c.args.values.now.items numbers c.begin_body-body.result.now c.args.tcs.now (g.P.WordPort.state c.args.port.now) c.args.records.now c.in-Ocall.ordinal c.in-Ocall.ret c.in-Ocall.status c.in-Ocall.args c.run_on.new.regs c.run_on.new.blocks.items (g.P.WordPort.state c.run_on.new.port) c.loop-value.records (record seen { arena = c.run_on.new.arena }) at) (are_passed c.args.machine.now c.args.ordinal c.args.values.now.items numbers c.begin_body-body.result.now c.args.tcs.now (g.P.WordPort.state c.args.port.now) c.args.records.now c.in-Ocall.ordinal c.in-Ocall.ret c.in-Ocall.status c.in-Ocall.args c.run_on.new.regs c.run_on.new.blocks.items (g.P.WordPort.state c.run_on.new.port) c.loop-value.records (record seen { arena = c.run_on.new.arena }) at) in (
      call_ends c.args.machine.now c.args.ordinal c.args.values.now.items numbers c.begin_body-body.result.now c.args.tcs.now (g.P.WordPort.state c.args.port.now) c.args.records.now c.in-Ocall.ordinal c.in-Ocall.ret c.in-Ocall.status c.in-Ocall.args c.run_on.new.regs c.run_on.new.blocks.items (g.P.WordPort.state c.run_on.new.port) c.loop-value.records (record seen { arena = c.run_on.new.arena }) at (kept_seen c.args.machine.now c.args.ordinal c.args.values.now.items numbers c.begin_body-body.result.now c.args.tcs.now (g.P.WordPort.state c.args.port.now) c.args.records.now c.loop-value.tcs seen c.run_on.new.arena c.tcs.view_is c.loop-value.invariant.kept) out (g.P.WordPort.state c.ocall.new.port) c.ocall.new.records c.ocall.new.tcs runs records_are back c.in_ok-ended-in-Ocall.ensures.kept c.answer-in-Ocall.new.regs
          (two_answers c.run_on.new.regs c.answer.new.regs c.answer-in-Ocall.new.regs c.in-Ocall.ret c.in-Ocall.status c.in_ok-ended-in-Ocall.value c.from.result out c.in_ok-ended-in-Ocall.ended status_is value_is c.from.ensures c.answer.ensures c.answer-in-Ocall.ensures),
      same ∙ ap (λ (t : TcsState). record t { arena = c.ocall.new.tcs.arena; waits = c.ocall.new.tcs.waits }) (kept_seen c.args.machine.now c.args.ordinal c.args.values.now.items numbers c.begin_body-body.result.now c.args.tcs.now (g.P.WordPort.state c.args.port.now) c.args.records.now c.loop-value.tcs seen c.run_on.new.arena c.tcs.view_is c.loop-value.invariant.kept),
    ) in
    let (numbers, held) = c.requires.held in
    let (goes_on, still) = all numbers held in record {
      next = subst (λ r. r.next ≤ length c.begin_body-body.result.now.actions) (sym c.answer-in-Ocall.ensures) (subst (λ r. r.next ≤ length c.begin_body-body.result.now.actions) (sym c.answer.ensures) c.in_ok-value.ensures.next);
      count = c.in_ok-value.ensures.count ∙ c.loop-value.invariant.count;
      port = port_kept c.args.machine.now c.args.ordinal c.args.values.now.items numbers c.begin_body-body.result.now c.args.tcs.now (g.P.WordPort.state c.args.port.now) c.args.records.now c.answer-in-Ocall.new.regs c.run_on.new.blocks.items (g.P.WordPort.state c.ocall.new.port) c.ocall.new.records c.ocall.new.tcs goes_on c.requires.port;
      kept = still;
      on = λ numbers held. (all numbers held).0;
    }

-- ---- the calls within the cycle: each is deeper on the call stack, or has less to do

pub do_act-call-requires : goal.do_act-call-requires
do_act-call-requires g t c κs within =
    let sound : IsHostCall c.args.machine.now c.args.place c.in-Call.ordinal c.as_slice.result.now =
    call_sound c.args.machine.now c.args.place c.in-Call.ordinal c.args.act.now c.in-Call.args c.as_slice.result.now c.as_slice.ensures c.in-Call.is c.requires.sound in (
      less c.args.machine.now c.args.tcs.now.stack c.args.tcs.now.stack t 3 (3 * the_size c.args.act.now + 4) c.decreases refl (omega arith),
      (search rules, (c.requires.machine, (c.requires.stack, (c.requires.stack_in, (c.requires.port, sound))))),
    )

pub do_act-ecall-requires : goal.do_act-ecall-requires
do_act-ecall-requires g t c κs within = (
  less c.args.machine.now c.args.tcs.now.stack c.args.tcs.now.stack t 2 (3 * the_size c.args.act.now + 4) c.decreases refl (omega arith),
  (search rules, (c.requires.machine, (search rules, (c.requires.stack, (c.requires.stack_in, c.requires.port))))),
)

pub do_act-repeat-requires : goal.do_act-repeat-requires
do_act-repeat-requires g t c κs within =
    let sound : AreHostActs c.args.machine.now c.args.place c.as_slice-in-Repeat.result.now =
    acts_repeated c.args.machine.now c.args.place c.in-Repeat.times c.args.act.now c.in-Repeat.acts c.as_slice-in-Repeat.result.now
    c.as_slice-in-Repeat.ensures c.in-Repeat.is c.requires.sound in
    let larger : the_size c.args.act.now ≡ size_of c.as_slice-in-Repeat.result.now + 1 =
    repeat_larger c.args.act.now c.in-Repeat.times c.in-Repeat.acts c.as_slice-in-Repeat.result.now c.in-Repeat.is c.as_slice-in-Repeat.ensures in (
      less c.args.machine.now c.args.tcs.now.stack c.args.tcs.now.stack t (3 * size_of c.as_slice-in-Repeat.result.now + 6) (3 * the_size c.args.act.now + 4) c.decreases refl (omega (arith, larger)),
      (search rules, (c.requires.machine, (c.requires.stack, (c.requires.stack_in, (c.requires.port, sound))))),
    )

pub do_acts-do_act-requires : goal.do_acts-do_act-requires
do_acts-do_act-requires g t c κs within =
    let p = c.loop-act.invariant in
    let sound : IsHostAct c.args.machine.now c.args.place c.act-item.result =
    one_act c.args.machine.now c.args.place c.args.acts.now c.loop-act.act-index c.act-item.result c.requires.sound c.loop-act-test.true c.act-item.is in
    let smaller : the_size c.act-item.result ≤ size_of c.args.acts.now = act_smaller c.args.acts.now c.loop-act.act-index c.act-item.result c.loop-act-test.true c.act-item.is in
    let entries : length c.loop-act.tcs.stack ≡ length c.args.tcs.now.stack = ap (λ (s : List AnEntry). length s) (same_stack _ _ _ _ _ _ _ _ p) in (
      less c.args.machine.now c.args.tcs.now.stack c.loop-act.tcs.stack t (3 * the_size c.act-item.result + 4) (3 * size_of c.args.acts.now + 5) c.decreases entries (omega (arith, smaller)),
      (search rules, (c.requires.machine, (may_enter _ _ _ _ _ _ _ _ p c.args.machine.now c.requires.stack, (stack_in_host _ _ _ _ _ _ _ _ p c.args.machine.now c.requires.stack_in, (port_of _ _ _ _ _ _ _ _ p c.args.machine.now c.requires.port, sound))))),
    )

pub repeat-do_acts-requires : goal.repeat-do_acts-requires
repeat-do_acts-requires g t c κs within =
    let p = c.loop-turn.invariant in
    let entries : length c.loop-turn.tcs.stack ≡ length c.args.tcs.now.stack = ap (λ (s : List AnEntry). length s) (same_stack _ _ _ _ _ _ _ _ p) in (
      less c.args.machine.now c.args.tcs.now.stack c.loop-turn.tcs.stack t (3 * size_of c.args.acts.now + 5) (3 * size_of c.args.acts.now + 6) c.decreases entries (omega arith),
      (search rules, (c.requires.machine, (may_enter _ _ _ _ _ _ _ _ p c.args.machine.now c.requires.stack, (stack_in_host _ _ _ _ _ _ _ _ p c.args.machine.now c.requires.stack_in, (port_of _ _ _ _ _ _ _ _ p c.args.machine.now c.requires.port, c.requires.sound))))),
    )

pub call-ecall-requires : goal.call-ecall-requires
call-ecall-requires g t c κs within = (
  less c.args.machine.now c.args.tcs.now.stack c.args.tcs.now.stack t 2 3 c.decreases refl (omega arith),
  (search rules, (c.requires.machine, (search rules, (c.requires.stack, (c.requires.stack_in, c.requires.port))))),
)

pub call-ecall-requires-2 : goal.call-ecall-requires-2
call-ecall-requires-2 g t c κs within =
    let framed : IsFramed c.in-Some.function.now c.args.args.now c.args.place.frame (g.P.WordPort.state c.args.port.now) (g.P.WordPort.state c.frame_call.new.port) c.args.tcs.now c.frame_call.new.tcs (Some c.in-Some-2.frame) =
    subst (λ (o : Option Frame). IsFramed c.in-Some.function.now c.args.args.now c.args.place.frame (g.P.WordPort.state c.args.port.now) (g.P.WordPort.state c.frame_call.new.port) c.args.tcs.now c.frame_call.new.tcs o) c.in-Some-2.is c.in_ok-frame.ensures.ok in
    let entries : length c.frame_call.new.tcs.stack ≡ length c.args.tcs.now.stack =
    framed_entries c.args.machine.now c.in-Some.function.now c.args.args.now c.args.place.frame (g.P.WordPort.state c.args.port.now) (g.P.WordPort.state c.frame_call.new.port) c.args.tcs.now c.frame_call.new.tcs c.in-Some-2.frame framed in
    let may = framed_may c.args.machine.now c.in-Some.function.now c.args.args.now c.args.place.frame (g.P.WordPort.state c.args.port.now) (g.P.WordPort.state c.frame_call.new.port) c.args.tcs.now c.frame_call.new.tcs c.in-Some-2.frame framed c.requires.stack in
    let in_host = framed_in_host c.args.machine.now c.in-Some.function.now c.args.args.now c.args.place.frame (g.P.WordPort.state c.args.port.now) (g.P.WordPort.state c.frame_call.new.port) c.args.tcs.now c.frame_call.new.tcs c.in-Some-2.frame framed c.requires.stack_in in
    let port = framed_port c.args.machine.now c.in-Some.function.now c.args.args.now c.args.place.frame (g.P.WordPort.state c.args.port.now) (g.P.WordPort.state c.frame_call.new.port) c.args.tcs.now c.frame_call.new.tcs c.in-Some-2.frame framed c.requires.port in (
      less c.args.machine.now c.args.tcs.now.stack c.frame_call.new.tcs.stack t 2 3 c.decreases entries (omega arith),
      (search rules, (c.requires.machine, (search rules, (may, (in_host, port))))),
    )

pub ask_host-do_acts-requires : goal.ask_host-do_acts-requires
ask_host-do_acts-requires g t c κs within =
    let sound : AreHostActs c.args.machine.now (record { frame = c.address.result; return_size = c.return_size.result }) c.handler_of-acts.result.now =
    rw c.handler_of-acts.ensures
    (handler_sound c.args.machine.now c.requires.machine c.args.asked.ordinal c.args.asked.function.now (record { frame = c.address.result; return_size = c.return_size.result })
    (frame_address c.args.asked.frame) c.requires.found c.address.ensures c.return_size.ensures c.requires.mapped c.requires.upto) in
    let smaller : size_of c.handler_of-acts.result.now ≤ largest c.args.machine.now =
    rw c.handler_of-acts.ensures (handler_smaller c.args.machine.now c.args.asked.ordinal) in (
      less c.args.machine.now c.args.tcs.now.stack c.args.tcs.now.stack t (3 * size_of c.handler_of-acts.result.now + 5) (3 * largest c.args.machine.now + 9) c.decreases refl (omega (arith, smaller)),
      (search rules, (c.requires.machine, (c.requires.stack, (c.requires.stack_in, (c.requires.port, sound))))),
    )

pub ocall-ask_host-requires : goal.ocall-ask_host-requires
ocall-ask_host-requires g t c κs within =
    let none = c.requires.machine.no_untrusted_workers in
    let entries = host_entries c.args.machine.now none c.args.ordinal c.args.args.now.items _ _ c.args.records.now c.start_ocall.new.records c.args.tcs.now c.start_ocall.new.tcs
    c.in-Ok.asked c.in-Ok.ensures.ok c.requires.inside in
    let may = host_may_enter c.args.machine.now none c.args.ordinal c.args.args.now.items _ _ c.args.records.now c.start_ocall.new.records c.args.tcs.now c.start_ocall.new.tcs
    c.in-Ok.asked c.in-Ok.ensures.ok c.requires.inside in
    let in_host = host_stack_in c.args.machine.now none c.args.ordinal c.args.args.now.items _ _ c.args.records.now c.start_ocall.new.records c.args.tcs.now c.start_ocall.new.tcs
    c.in-Ok.asked c.in-Ok.ensures.ok c.requires.inside c.requires.stack_in in
    let found = host_found c.args.machine.now none c.args.ordinal c.args.args.now.items _ _ c.args.records.now c.start_ocall.new.records c.args.tcs.now c.start_ocall.new.tcs
    c.in-Ok.asked c.in-Ok.ensures.ok c.requires.inside in
    let mapped = host_mapped c.args.machine.now none c.args.ordinal c.args.args.now.items _ _ c.args.records.now c.start_ocall.new.records c.args.tcs.now c.start_ocall.new.tcs
    c.in-Ok.asked c.in-Ok.ensures.ok c.requires.inside c.requires.arguments.2.live.0 c.requires.arguments.2.live.1 in
    let upto = host_upto c.args.machine.now none c.args.ordinal c.args.args.now.items _ _ c.args.records.now c.start_ocall.new.records c.args.tcs.now c.start_ocall.new.tcs
    c.in-Ok.asked c.in-Ok.ensures.ok c.requires.inside c.requires.stack_in in (
      less c.args.machine.now c.args.tcs.now.stack c.start_ocall.new.tcs.stack t (3 * largest c.args.machine.now + 9) (3 * largest c.args.machine.now + 10) c.decreases entries (omega arith),
      (search rules, (c.requires.machine, (may, (in_host, (c.in-Ok.ensures.ok.port, (found, (mapped, upto))))))),
    )
