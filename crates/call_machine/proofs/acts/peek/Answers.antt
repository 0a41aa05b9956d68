use Rattle.std.proofs.Common.{◌≡◌, ◌+◌, ◌-◌, ◌<◌, List, length, ap, ◌∙◌, refl, arith}
use Rattle.std.proofs.lemmas.Result.{err_from_is_err_and}
use Rattle.word_port.specs.declared.Step.{Step}
use Rattle.call_report.specs.declared.CallRecord.{CallRecord}
use Rattle.call_report.specs.RecordList.{records_left}
use Rattle.call_machine.specs.Context.{depth_of}
use Rattle.call_machine.specs.Tcs.{TcsState, context_of}
use Rattle.call_machine.proofs.RecordPlace.{room_for_one}
use Rattle.call_machine.proofs.PeekRecord.{peek_unrecorded, peek_stops, peek_ends}
use Rattle.call_machine.proofs.acts.peek.Goals as goal

pub returns-in_err-push-clause-full : goal.returns-in_err-push-clause-full
returns-in_err-push-clause-full g c =
    let p = err_from_is_err_and c.from_residual.result c.from_residual.ensures.1 in
    let full : length c.args.records.now.list ≡ c.args.records.now.limit = c.in_err-push.ensures.full.0 (rw c.in_err-push.ensures.only refl) in
    let none : records_left c.args.records.now ≡ 0 = omega (arith, full) in
    rw (p.1, p.2, c.in_err-push.ensures.only)
    (peek_unrecorded (g.P.WordPort.state c.args.port.now).host (depth_of (context_of c.args.tcs.now)) c.args.at c.args.length _ _ _ none)

pub returns-in_err-peek_bytes-clause-full : goal.returns-in_err-peek_bytes-clause-full
returns-in_err-peek_bytes-clause-full g c =
    let p = err_from_is_err_and c.from_residual-in_err-peek_bytes.result c.from_residual-in_err-peek_bytes.ensures.1 in
    let less : length c.args.records.now.list < c.args.records.now.limit = room_for_one _ _ c.list.ensures.limit (λ e. absurd (let q = c.in_ok-push.ensures.full.1 e in cc)) in
    let left : records_left c.args.records.now ≡ (c.args.records.now.limit - (length c.args.records.now.list + 1)) + 1 = omega (arith, less) in
    rw (p.1, p.2, c.in_err-peek_bytes.ensures.full.0)
    (peek_stops (g.P.WordPort.state c.args.port.now).host (depth_of (context_of c.args.tcs.now)) c.args.at c.args.length
    (length c.log.result.now) _ (c.args.records.now.limit - (length c.args.records.now.list + 1)) _ _ _ left (ap (λ (l : List Step). length l) c.log.ensures.log) c.in_err-peek_bytes.ensures.full.1)

pub returns-clause-ok : goal.returns-clause-ok
returns-clause-ok g c =
    let less : length c.args.records.now.list < c.args.records.now.limit = room_for_one _ _ c.list.ensures.limit (λ e. absurd (let q = c.in_ok-push.ensures.full.1 e in cc)) in
    peek_ends (g.P.WordPort.state c.args.port.now).host (depth_of (context_of c.args.tcs.now)) c.args.at c.args.length
    (length c.log.result.now) (length c.log-2.result.now) (length c.list.result.now) c.depth.result c.args.tcs.now c.args.records.now c.push.new.self c.set.new.self _ _ _ _
    (c.depth.ensures ∙ ap (λ (t : TcsState). depth_of (context_of t)) c.tcs.view_is)
    less refl c.in_ok-push.ensures.ok (ap (λ (l : List CallRecord). length l) c.list.ensures.list) c.set.ensures
    (ap (λ (l : List Step). length l) c.log.ensures.log) (ap (λ (l : List Step). length l) c.log-2.ensures.log) c.in_ok-peek_bytes.ensures.ok
