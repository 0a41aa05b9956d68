use Rattle.std.proofs.Common.{ℕ, ◌+◌, ◌∙◌, List, length, sum, ap, sym, subst, IsTrue}
use Rattle.std.proofs.lemmas.Result.{IfOk-weaker, IfErr-weaker}
use Rattle.sgx_base.specs.Ranges.{is_mapped}
use Rattle.enclave_memory.specs.Arguments.{Argument, ArePassed, arguments_in}
use Rattle.word_port.specs.Runs.{Makes, StopsFull}
use Rattle.ocall_frames.proofs.WholeLaws.{IsWhole, whole_contents, loaded_here, whole_counts, slice_passed, not_refused, reply_is}
use Rattle.ocall_frames.proofs.reply.read_reply.Goals as goal

pub unreachable-requires : goal.unreachable-requires
unreachable-requires g c =
    let (passed, live) = c.requires.call.live in
    let arguments : List Argument = arguments_in c.args.arena.now passed in
    let these = slice_passed c.args.arena.now c.args.args.now.items c.as_slice-args.result.now passed c.as_slice-args.ensures.value live in
    not_refused c.args.function.now arguments c.args.frame.size (sym (c.in_default.ensures.lengths arguments these)) (c.requires.sized passed live)

pub load_reply-requires-clause-params : goal.load_reply-requires-clause-params
load_reply-requires-clause-params g c =
    let (passed, live) = c.requires.call.live in
    let w : IsWhole c.args.function.now (arguments_in c.args.arena.now passed) c.args.arena.now c.as_slice-args.result.now c.in-Some.lengths.items c.args.frame.size =
    loaded_here c.args.function.now c.args.arena.now c.args.args.now.items c.as_slice-args.result.now passed c.in-Some.lengths.items c.args.frame.size c.as_slice-args.ensures.value
    c.requires.call.kinds live (c.requires.sized passed live) (c.in-Some.ensures.lengths (arguments_in c.args.arena.now passed) (slice_passed c.args.arena.now c.args.args.now.items c.as_slice-args.result.now passed c.as_slice-args.ensures.value live)) in
    (whole_counts _ _ _ _ _ _ w).0

pub load_reply-requires-clause-lengths : goal.load_reply-requires-clause-lengths
load_reply-requires-clause-lengths g c =
    let (passed, live) = c.requires.call.live in
    let w : IsWhole c.args.function.now (arguments_in c.args.arena.now passed) c.args.arena.now c.as_slice-args.result.now c.in-Some.lengths.items c.args.frame.size =
    loaded_here c.args.function.now c.args.arena.now c.args.args.now.items c.as_slice-args.result.now passed c.in-Some.lengths.items c.args.frame.size c.as_slice-args.ensures.value
    c.requires.call.kinds live (c.requires.sized passed live) (c.in-Some.ensures.lengths (arguments_in c.args.arena.now passed) (slice_passed c.args.arena.now c.args.args.now.items c.as_slice-args.result.now passed c.as_slice-args.ensures.value live)) in
    ap (λ (l : List ℕ). length l) c.as_slice.ensures.value ∙ (whole_counts _ _ _ _ _ _ w).1

pub load_reply-requires-clause-live : goal.load_reply-requires-clause-live
load_reply-requires-clause-live g c =
    let (passed, live) = c.requires.call.live in
    let own : ArePassed c.args.arena.now c.as_slice-args.result.now passed = subst (λ l. ArePassed c.args.arena.now l passed) (sym c.as_slice-args.ensures.value) live in
    (passed, own)

pub load_reply-requires-clause-contents : goal.load_reply-requires-clause-contents
load_reply-requires-clause-contents g c =
    let (passed, live) = c.requires.call.live in
    let w : IsWhole c.args.function.now (arguments_in c.args.arena.now passed) c.args.arena.now c.as_slice-args.result.now c.in-Some.lengths.items c.args.frame.size =
    loaded_here c.args.function.now c.args.arena.now c.args.args.now.items c.as_slice-args.result.now passed c.in-Some.lengths.items c.args.frame.size c.as_slice-args.ensures.value
    c.requires.call.kinds live (c.requires.sized passed live) (c.in-Some.ensures.lengths (arguments_in c.args.arena.now passed) (slice_passed c.args.arena.now c.args.args.now.items c.as_slice-args.result.now passed c.as_slice-args.ensures.value live)) in
    (whole_contents c.args.function.now (arguments_in c.args.arena.now passed), w.contents, c.as_slice.ensures.value ∙ w.lengths)

pub load_reply-requires-clause-mapped : goal.load_reply-requires-clause-mapped
load_reply-requires-clause-mapped g c =
    let (passed, live) = c.requires.call.live in
    let w : IsWhole c.args.function.now (arguments_in c.args.arena.now passed) c.args.arena.now c.as_slice-args.result.now c.in-Some.lengths.items c.args.frame.size =
    loaded_here c.args.function.now c.args.arena.now c.args.args.now.items c.as_slice-args.result.now passed c.in-Some.lengths.items c.args.frame.size c.as_slice-args.ensures.value
    c.requires.call.kinds live (c.requires.sized passed live) (c.in-Some.ensures.lengths (arguments_in c.args.arena.now passed) (slice_passed c.args.arena.now c.args.args.now.items c.as_slice-args.result.now passed c.as_slice-args.ensures.value live)) in
    subst (λ n. IsTrue (is_mapped (g.P.WordPort.state c.args.port.now).host c.args.frame.at n)) (sym (ap (λ (l : List ℕ). c.args.function.now.frame_size + sum l) c.as_slice.ensures.value ∙ w.total)) c.requires.mapped

pub returns-clause-ok : goal.returns-clause-ok
returns-clause-ok g c = λ passed live.
    let w : IsWhole c.args.function.now (arguments_in c.args.arena.now passed) c.args.arena.now c.as_slice-args.result.now c.in-Some.lengths.items c.args.frame.size =
    loaded_here c.args.function.now c.args.arena.now c.args.args.now.items c.as_slice-args.result.now passed c.in-Some.lengths.items c.args.frame.size c.as_slice-args.ensures.value
    c.requires.call.kinds live (c.requires.sized passed live) (c.in-Some.ensures.lengths (arguments_in c.args.arena.now passed) (slice_passed c.args.arena.now c.args.args.now.items c.as_slice-args.result.now passed c.as_slice-args.ensures.value live)) in
    let own : ArePassed c.args.arena.now c.as_slice-args.result.now passed = subst (λ l. ArePassed c.args.arena.now l passed) (sym c.as_slice-args.ensures.value) live in
    IfOk-weaker c.load_reply.result _ _
    (λ value q. record {
      reply = q.0;
      makes = subst (λ t. Makes t (g.P.WordPort.state c.args.port.now) (g.P.WordPort.state c.load_reply.new.port) q.0) (reply_is c.args.function.now (arguments_in c.args.arena.now passed) c.args.frame.at) q.1;
      value_is = q.2;
      arena_is = q.3;
    })
    (c.load_reply.ensures.ok passed (whole_contents c.args.function.now (arguments_in c.args.arena.now passed)) own w.contents (c.as_slice.ensures.value ∙ w.lengths))

pub returns-clause-full : goal.returns-clause-full
returns-clause-full g c = λ passed live.
    let w : IsWhole c.args.function.now (arguments_in c.args.arena.now passed) c.args.arena.now c.as_slice-args.result.now c.in-Some.lengths.items c.args.frame.size =
    loaded_here c.args.function.now c.args.arena.now c.args.args.now.items c.as_slice-args.result.now passed c.in-Some.lengths.items c.args.frame.size c.as_slice-args.ensures.value
    c.requires.call.kinds live (c.requires.sized passed live) (c.in-Some.ensures.lengths (arguments_in c.args.arena.now passed) (slice_passed c.args.arena.now c.args.args.now.items c.as_slice-args.result.now passed c.as_slice-args.ensures.value live)) in
    let own : ArePassed c.args.arena.now c.as_slice-args.result.now passed = subst (λ l. ArePassed c.args.arena.now l passed) (sym c.as_slice-args.ensures.value) live in
    IfErr-weaker c.load_reply.result _ _
    (λ full q. (q.0, subst (λ t. StopsFull t (g.P.WordPort.state c.args.port.now) (g.P.WordPort.state c.load_reply.new.port)) (reply_is c.args.function.now (arguments_in c.args.arena.now passed) c.args.frame.at) q.1))
    (c.load_reply.ensures.full passed (whole_contents c.args.function.now (arguments_in c.args.arena.now passed)) own w.contents (c.as_slice.ensures.value ∙ w.lengths))
