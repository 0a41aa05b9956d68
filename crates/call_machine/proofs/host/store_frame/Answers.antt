use Rattle.std.proofs.Common.{◌≡◌, ◌∙◌, ap, sym, refl, Some, None}
use Rattle.std.proofs.lemmas.Result.{err_from_is_err_and}
use Rattle.ocall_frames.specs.declared.HostStack.{HostStack}
use Rattle.ocall_frames.specs.Stack.{frame_below}
use Rattle.call_machine.specs.Tcs.{TcsState}
use Rattle.call_machine.proofs.HostCalls.{with_stack, with_top}
use Rattle.call_machine.proofs.host.store_frame.Goals as goal

pub returns-in_default-clause-ok : goal.returns-in_default-clause-ok
returns-in_default-clause-ok g c =
    let whole : TcsState = record { stack = c.tcs.inside.stack; base = c.tcs.inside.host_stack.base; top = c.tcs.inside.host_stack.top; frames = c.tcs.inside.frames; arena = c.tcs.inside.arena; waits = c.tcs.inside.waits } in
    let view : c.args.tcs.now ≡ whole = sym c.tcs.view_is in
    let now : TcsState = with_stack whole c.take_frame.new.stack in
    let same : now ≡ c.args.tcs.now = ap (λ (h : HostStack). with_stack whole h) c.in_default.ensures.taken.1 ∙ sym view in
    let none : frame_below c.args.tcs.now.base c.args.tcs.now.top c.args.size ≡ None = ap (λ (u : TcsState). frame_below u.base u.top c.args.size) view ∙ c.in_default.ensures.taken.0 in
    (none, refl, same)

pub returns-in_err-put_range-clause-full : goal.returns-in_err-put_range-clause-full
returns-in_err-put_range-clause-full g c =
    let p = err_from_is_err_and c.from_residual.result c.from_residual.ensures.1 in
    let whole : TcsState = record { stack = c.tcs.inside.stack; base = c.tcs.inside.host_stack.base; top = c.tcs.inside.host_stack.top; frames = c.tcs.inside.frames; arena = c.tcs.inside.arena; waits = c.tcs.inside.waits } in
    let view : c.args.tcs.now ≡ whole = sym c.tcs.view_is in
    let fits : frame_below c.args.tcs.now.base c.args.tcs.now.top c.args.size ≡ Some c.in-Some.frame.at =
    ap (λ (u : TcsState). frame_below u.base u.top c.args.size) view ∙ c.in-Some.ensures.taken.0 in
    rw (p.1, p.2) (c.in-Some.frame.at, fits, c.in_err-put_range.ensures.full)

pub returns-clause-ok : goal.returns-clause-ok
returns-clause-ok g c =
    let whole : TcsState = record { stack = c.tcs.inside.stack; base = c.tcs.inside.host_stack.base; top = c.tcs.inside.host_stack.top; frames = c.tcs.inside.frames; arena = c.tcs.inside.arena; waits = c.tcs.inside.waits } in
    let view : c.args.tcs.now ≡ whole = sym c.tcs.view_is in
    let moved : TcsState = with_stack whole c.take_frame.new.stack in
    let moved_is : moved ≡ with_top c.args.tcs.now c.in-Some.frame.at =
    ap (λ (h : HostStack). with_stack whole h) c.in-Some.ensures.taken.3 ∙ ap (λ (u : TcsState). with_top u c.in-Some.frame.at) (sym view) in
    let fits : frame_below c.args.tcs.now.base c.args.tcs.now.top c.args.size ≡ Some c.in-Some.frame.at =
    ap (λ (u : TcsState). frame_below u.base u.top c.args.size) view ∙ c.in-Some.ensures.taken.0 in
    let old_top : c.in-Some.frame.old_top ≡ c.args.tcs.now.top = c.in-Some.ensures.taken.2 ∙ ap (λ (u : TcsState). u.top) (sym view) in
    (fits, old_top, moved_is, c.in_ok-put_range.ensures.ok)
