use Rattle.std.proofs.Common.{◌≡◌, ◌≢◌, ◌<◌, ◌∙◌, length, Err, ap, sym, arith}
use Rattle.std.proofs.lemmas.Result.{err_from_is_err_and}
use Rattle.call_machine.specs.Context.{depth_of}
use Rattle.call_machine.specs.Tcs.{TcsState, context_of}
use Rattle.call_machine.proofs.HostCalls.{unframed, unframed_stops}
use Rattle.call_machine.proofs.host.refuse_call.Goals as goal

pub returns-in_err-push-clause-full : goal.returns-in_err-push-clause-full
returns-in_err-push-clause-full g c =
    let p = err_from_is_err_and c.from_residual.result c.from_residual.ensures.1 in
    let none : length c.args.records.now.list ≡ c.args.records.now.limit = c.in_err-push.ensures.full.0 (ap (λ x. Err x) c.in_err-push.ensures.only) in
    rw (p.1, p.2, c.in_err-push.ensures.only) (unframed_stops (context_of c.args.tcs.now) c.args.ordinal _ _ _ (omega (arith, none)))

pub returns-clause-ok : goal.returns-clause-ok
returns-clause-ok g c =
    let some : length c.args.records.now.list ≢ c.args.records.now.limit = λ q. let both = c.in_ok-push.ensures.full.1 q in cc in
    let below : length c.args.records.now.list < c.args.records.now.limit = omega (arith, some, c.list-records.ensures.limit) in
    let whole : TcsState = record { stack = c.tcs.inside.stack; base = c.tcs.inside.host_stack.base; top = c.tcs.inside.host_stack.top; frames = c.tcs.inside.frames; arena = c.tcs.inside.arena; waits = c.tcs.inside.waits } in
    let view : c.args.tcs.now ≡ whole = sym c.tcs.view_is in
    let depth : c.depth.result ≡ depth_of (context_of c.args.tcs.now) = c.depth.ensures ∙ ap (λ (u : TcsState). depth_of (context_of u)) (sym view) in
    unframed (context_of c.args.tcs.now) c.args.ordinal _ _ _ _ _ _ depth (ap length c.log.ensures.log) below c.in_ok-push.ensures.ok
