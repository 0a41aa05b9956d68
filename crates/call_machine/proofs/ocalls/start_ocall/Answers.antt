use Rattle.std.proofs.Common.{◌≡◌, ◌<◌, List, length, refl, ap, sym, subst, arith}
use Rattle.sgx_base.specs.declared.TheConstants.Status.{SUCCESS}
use Rattle.word_port.specs.declared.Step.{Step}
use Rattle.word_port.specs.declared.RunFull.TheVariants.{Steps}
use Rattle.word_port.specs.Runs.{StopsAt}
use Rattle.enclave_memory.specs.Arguments.{ArePassed, arguments_in}
use Rattle.ocall_frames.specs.Arguments.{MayCall}
use Rattle.call_report.specs.declared.CallKind.TheVariants.{Ocall}
use Rattle.call_report.specs.declared.Way.TheVariants.{Ordinary}
use Rattle.call_report.specs.declared.CallRecord.{CallRecord}
use Rattle.call_report.specs.RecordList.{records_left}
use Rattle.call_machine.specs.declared.ocalls.Asked.{Asked}
use Rattle.call_machine.specs.OcallPhases.{IsAsked, IsUnasked}
use Rattle.call_machine.specs.Tcs.{TcsState, context_of, moment, HasStackInHost}
use Rattle.call_machine.specs.Thread.{ocall}
use Rattle.call_machine.proofs.OcallRuns.{unrecorded}
use Rattle.call_machine.proofs.OcallStart.{standing, begun_is, may_call_at, start_refused, start_cut, start_asked}
use Rattle.call_machine.proofs.RecordPlace.{room_for_one}
use Rattle.call_machine.proofs.ocalls.start_ocall.Goals as goal

pub returns-in-Err-clause-err : goal.returns-in-Err-clause-err
returns-in-Err-clause-err g c passed are =
    let full : length c.args.records.now.list ≡ c.args.records.now.limit = c.in-Err.ensures.full.0 (rw c.in-Err.ensures.only refl) in
    let none : records_left c.args.records.now ≡ 0 = omega (arith, full) in
    rw c.in-Err.ensures.only (unrecorded c.args.machine.now (context_of c.args.tcs.now) c.args.ordinal (arguments_in c.args.tcs.now.arena passed) _ _ _ none)

pub returns-in-Err-take_room-clause-err : goal.returns-in-Err-take_room-clause-err
returns-in-Err-take_room-clause-err g c passed are =
    let arena : c.args.tcs.now.arena ≡ c.tcs.inside.arena = ap (λ (t : TcsState). t.arena) (sym c.tcs.view_is) in
    let less : length c.args.records.now.list < c.args.records.now.limit = room_for_one _ _ c.list.ensures.limit (λ e. absurd (let q = c.in_default-push.ensures.full.1 e in cc)) in
    subst (λ (t : TcsState). IsUnasked c.args.machine.now c.args.ordinal (arguments_in t.arena passed) (g.P.WordPort.state c.args.port.now) (g.P.WordPort.state c.args.port.now) c.args.records.now c.set.new.self t
    (standing c.args.machine.now c.args.ordinal c.args.args.now.items c.tcs.inside.stack c.tcs.inside.host_stack c.tcs.inside.frames c.tcs.inside.arena c.tcs.inside.waits c.tcs.inside.stack c.take_room.new.stack) c.in-Err-take_room.status) c.tcs.view_is
    (start_refused c.args.machine.now c.args.ordinal c.args.args.now.items c.tcs.inside.stack c.tcs.inside.host_stack c.tcs.inside.frames c.tcs.inside.arena c.tcs.inside.waits
    c.in-Some.function.now (sym c.in-Some.ensures.value) passed c.in-Err-take_room.status c.args.records.now c.push.new.self c.set.new.self (g.P.WordPort.state c.args.port.now) _ c.take_room.new.stack (length c.list.result.now)
    (c.in-Err-take_room.ensures.err passed (subst (λ a. ArePassed a c.args.args.now.items passed) arena are)) c.in-Err-take_room.ensures.kept less
    (begun_is (context_of (standing c.args.machine.now c.args.ordinal c.args.args.now.items c.tcs.inside.stack c.tcs.inside.host_stack c.tcs.inside.frames c.tcs.inside.arena c.tcs.inside.waits c.tcs.inside.stack c.tcs.inside.host_stack)) c.args.ordinal c.depth.result (length c.log.result.now) _ c.depth.ensures (ap (λ (l : List Step). length l) c.log.ensures.log))
    c.in_default-push.ensures.ok (ap (λ (l : List CallRecord). length l) c.list.ensures.list) c.set.ensures)

pub returns-in-Err-put_frame-clause-err : goal.returns-in-Err-put_frame-clause-err
returns-in-Err-put_frame-clause-err g c passed are =
    let arena : c.args.tcs.now.arena ≡ c.tcs.inside.arena = ap (λ (t : TcsState). t.arena) (sym c.tcs.view_is) in
    let less : length c.args.records.now.list < c.args.records.now.limit = room_for_one _ _ c.list.ensures.limit (λ e. absurd (let q = c.in_default-push.ensures.full.1 e in cc)) in
    let here : ArePassed c.tcs.inside.arena c.args.args.now.items passed = subst (λ a. ArePassed a c.args.args.now.items passed) arena are in
    let cut = c.in-Err-put_frame.ensures.full passed here in
    rw cut.0
    (subst (λ (t : TcsState). StopsAt Steps (ocall c.args.machine.now (context_of t) c.args.ordinal (arguments_in t.arena passed)) (moment (g.P.WordPort.state c.args.port.now) c.args.records.now t) (g.P.WordPort.state c.put_frame.new.port)) c.tcs.view_is
    (start_cut c.args.machine.now c.args.ordinal c.args.args.now.items c.tcs.inside.stack c.tcs.inside.host_stack c.tcs.inside.frames c.tcs.inside.arena c.tcs.inside.waits
    c.in-Some.function.now (sym c.in-Some.ensures.value) passed c.args.records.now c.push.new.self _ _ _ c.take_room.new.stack c.in-Ok.frame
    (c.in-Ok.ensures.ok passed here) less c.in_default-push.ensures.ok cut.1))

pub returns-clause-ok : goal.returns-clause-ok
returns-clause-ok g c =
    let view : c.args.tcs.now ≡ standing c.args.machine.now c.args.ordinal c.args.args.now.items c.tcs.inside.stack c.tcs.inside.host_stack c.tcs.inside.frames c.tcs.inside.arena c.tcs.inside.waits c.tcs.inside.stack c.tcs.inside.host_stack = sym c.tcs.view_is in
    let less : length c.args.records.now.list < c.args.records.now.limit = room_for_one _ _ c.list.ensures.limit (λ e. absurd (let q = c.in_default-push.ensures.full.1 e in cc)) in
    let asked : Asked = record {
      ordinal = c.args.ordinal;
      function = c.in-Some.function;
      frame = c.in-Ok.frame;
      place = length c.list.result.now;
      begun = record {
        kind = Ocall;
        ordinal = c.args.ordinal;
        depth = c.depth.result;
        frame = 0;
        way = Ordinary;
        status = SUCCESS;
        first = length c.log.result.now;
        turn = length c.log.result.now;
        last = length c.log.result.now;
      };
    } in
    let may : MayCall c.in-Some.function.now c.args.args.now.items c.args.tcs.now.arena =
    may_call_at c.args.machine.now.interface.ocalls c.args.ordinal c.requires.arguments.0 c.in-Some.function.now c.args.args.now.items c.args.tcs.now.arena c.requires.arguments.1 (sym c.in-Some.ensures.value) c.requires.arguments.2 in
    subst (λ (t : TcsState). IsAsked c.args.machine.now c.args.ordinal c.args.args.now.items (g.P.WordPort.state c.args.port.now) (g.P.WordPort.state c.put_frame.new.port) c.args.records.now c.push.new.self t
    (standing c.args.machine.now c.args.ordinal c.args.args.now.items c.tcs.inside.stack c.tcs.inside.host_stack c.tcs.inside.frames c.tcs.inside.arena c.tcs.inside.waits c.start_ocall.new.self c.take_room.new.stack) asked) c.tcs.view_is
    (start_asked c.args.machine.now c.args.ordinal c.args.args.now.items c.tcs.inside.stack c.tcs.inside.host_stack c.tcs.inside.frames c.tcs.inside.arena c.tcs.inside.waits asked (sym c.in-Some.ensures.value)
    (g.P.WordPort.state c.args.port.now) (g.P.WordPort.state c.put_frame.new.port) c.args.records.now c.push.new.self c.take_room.new.stack c.start_ocall.new.self
    (subst (λ (t : TcsState). MayCall c.in-Some.function.now c.args.args.now.items t.arena) view may)
    (subst (λ t. HasStackInHost c.args.machine.now t) view c.requires.stack_in) c.requires.port c.in-Ok.ensures.ok c.in_default-put_frame.ensures.ok less
    (begun_is (context_of (standing c.args.machine.now c.args.ordinal c.args.args.now.items c.tcs.inside.stack c.tcs.inside.host_stack c.tcs.inside.frames c.tcs.inside.arena c.tcs.inside.waits c.tcs.inside.stack c.tcs.inside.host_stack)) c.args.ordinal c.depth.result (length c.log.result.now) _ c.depth.ensures (ap (λ (l : List Step). length l) c.log.ensures.log))
    c.in_default-push.ensures.ok (ap (λ (l : List CallRecord). length l) c.list.ensures.list) refl c.start_ocall.ensures)
