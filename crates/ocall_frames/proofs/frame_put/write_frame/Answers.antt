use Rattle.std.proofs.Common.{ℕ, ◌≡◌, ◌+◌, ◌∙◌, List, None, length, sum, zip, ap, sym, subst, IsTrue}
use Rattle.std.proofs.lemmas.List.{take-replicate}
use Rattle.std.proofs.lemmas.Result.{on_ok_weaker, IfErr-weaker}
use Rattle.sgx_base.specs.Ranges.{is_mapped}
use Rattle.enclave_memory.specs.Arguments.{Argument, arguments_in}
use Rattle.word_port.specs.Accesses.{stores}
use Rattle.word_port.specs.Runs.{Makes, StopsFull}
use Rattle.word_port.specs.declared.Side.TheVariants.{Enclave}
use Rattle.ocall_frames.specs.Contents.{measured, framed}
use Rattle.ocall_frames.specs.Frames.{numbers_structure}
use Rattle.ocall_frames.proofs.WholeLaws.{IsWhole, whole_contents, whole_here, whole_counts, slice_passed, not_refused, frame_is, zeros_taken}
use Rattle.ocall_frames.proofs.frame_put.write_frame.Goals as goal

pub put_numbers-requires-clause-zeros : goal.put_numbers-requires-clause-zeros
put_numbers-requires-clause-zeros g c = take-replicate _ _ _ c.requires.call.small

pub unreachable-requires : goal.unreachable-requires
unreachable-requires g c =
    let (passed, live) = c.requires.call.live in
    let arguments : List Argument = arguments_in c.args.arena.now passed in
    let these = slice_passed c.args.arena.now c.args.args.now.items c.as_slice-args.result.now passed c.as_slice-args.ensures.value live in
    let none : measured c.args.function.now (numbers_structure c.args.function.now arguments) (zip c.args.function.now.params arguments) ≡ None =
    ap (λ s. measured c.args.function.now s (zip c.args.function.now.params arguments)) (sym (c.put_numbers.ensures c.args.arena.now arguments these))
    ∙ sym (c.in_default.ensures.lengths arguments these) in
    not_refused c.args.function.now arguments c.args.frame.size none (c.requires.sized passed live)

pub put_frame-requires-clause-size : goal.put_frame-requires-clause-size
put_frame-requires-clause-size g c = c.put_numbers.auto.structure ∙ zeros_taken c.args.function.now.frame_size 1024 c.requires.call.small

pub put_frame-requires-clause-params : goal.put_frame-requires-clause-params
put_frame-requires-clause-params g c =
    let (passed, live) = c.requires.call.live in
    let these = slice_passed c.args.arena.now c.args.args.now.items c.as_slice-args.result.now passed c.as_slice-args.ensures.value live in
    let w : IsWhole c.args.function.now (arguments_in c.args.arena.now passed) c.args.arena.now c.as_slice-args.result.now c.in-Some.lengths.items c.args.frame.size =
    whole_here c.args.function.now c.args.arena.now c.args.args.now.items c.as_slice-args.result.now passed c.put_numbers.new.structure c.in-Some.lengths.items c.args.frame.size c.as_slice-args.ensures.value
    c.requires.call.kinds live (c.requires.sized passed live) (c.put_numbers.ensures c.args.arena.now (arguments_in c.args.arena.now passed) these) (c.in-Some.ensures.lengths (arguments_in c.args.arena.now passed) these) in
    (whole_counts _ _ _ _ _ _ w).0

pub put_frame-requires-clause-lengths : goal.put_frame-requires-clause-lengths
put_frame-requires-clause-lengths g c =
    let (passed, live) = c.requires.call.live in
    let these = slice_passed c.args.arena.now c.args.args.now.items c.as_slice-args.result.now passed c.as_slice-args.ensures.value live in
    let w : IsWhole c.args.function.now (arguments_in c.args.arena.now passed) c.args.arena.now c.as_slice-args.result.now c.in-Some.lengths.items c.args.frame.size =
    whole_here c.args.function.now c.args.arena.now c.args.args.now.items c.as_slice-args.result.now passed c.put_numbers.new.structure c.in-Some.lengths.items c.args.frame.size c.as_slice-args.ensures.value
    c.requires.call.kinds live (c.requires.sized passed live) (c.put_numbers.ensures c.args.arena.now (arguments_in c.args.arena.now passed) these) (c.in-Some.ensures.lengths (arguments_in c.args.arena.now passed) these) in
    ap (λ (l : List ℕ). length l) c.as_slice.ensures.value ∙ (whole_counts _ _ _ _ _ _ w).1

pub put_frame-requires-clause-contents : goal.put_frame-requires-clause-contents
put_frame-requires-clause-contents g c =
    let (passed, live) = c.requires.call.live in
    let these = slice_passed c.args.arena.now c.args.args.now.items c.as_slice-args.result.now passed c.as_slice-args.ensures.value live in
    let w : IsWhole c.args.function.now (arguments_in c.args.arena.now passed) c.args.arena.now c.as_slice-args.result.now c.in-Some.lengths.items c.args.frame.size =
    whole_here c.args.function.now c.args.arena.now c.args.args.now.items c.as_slice-args.result.now passed c.put_numbers.new.structure c.in-Some.lengths.items c.args.frame.size c.as_slice-args.ensures.value
    c.requires.call.kinds live (c.requires.sized passed live) (c.put_numbers.ensures c.args.arena.now (arguments_in c.args.arena.now passed) these) (c.in-Some.ensures.lengths (arguments_in c.args.arena.now passed) these) in
    (whole_contents c.args.function.now (arguments_in c.args.arena.now passed), w.contents, c.as_slice.ensures.value ∙ w.lengths)

pub put_frame-requires-clause-mapped : goal.put_frame-requires-clause-mapped
put_frame-requires-clause-mapped g c =
    let (passed, live) = c.requires.call.live in
    let these = slice_passed c.args.arena.now c.args.args.now.items c.as_slice-args.result.now passed c.as_slice-args.ensures.value live in
    let w : IsWhole c.args.function.now (arguments_in c.args.arena.now passed) c.args.arena.now c.as_slice-args.result.now c.in-Some.lengths.items c.args.frame.size =
    whole_here c.args.function.now c.args.arena.now c.args.args.now.items c.as_slice-args.result.now passed c.put_numbers.new.structure c.in-Some.lengths.items c.args.frame.size c.as_slice-args.ensures.value
    c.requires.call.kinds live (c.requires.sized passed live) (c.put_numbers.ensures c.args.arena.now (arguments_in c.args.arena.now passed) these) (c.in-Some.ensures.lengths (arguments_in c.args.arena.now passed) these) in
    subst (λ n. IsTrue (is_mapped (g.P.WordPort.state c.args.port.now).host c.args.frame.at n)) (sym (ap (λ (l : List ℕ). c.args.function.now.frame_size + sum l) c.as_slice.ensures.value ∙ w.total)) c.requires.mapped

pub returns-clause-ok : goal.returns-clause-ok
returns-clause-ok g c = λ passed live.
    let these = slice_passed c.args.arena.now c.args.args.now.items c.as_slice-args.result.now passed c.as_slice-args.ensures.value live in
    let w : IsWhole c.args.function.now (arguments_in c.args.arena.now passed) c.args.arena.now c.as_slice-args.result.now c.in-Some.lengths.items c.args.frame.size =
    whole_here c.args.function.now c.args.arena.now c.args.args.now.items c.as_slice-args.result.now passed c.put_numbers.new.structure c.in-Some.lengths.items c.args.frame.size c.as_slice-args.ensures.value
    c.requires.call.kinds live (c.requires.sized passed live) (c.put_numbers.ensures c.args.arena.now (arguments_in c.args.arena.now passed) these) (c.in-Some.ensures.lengths (arguments_in c.args.arena.now passed) these) in
    let whole = ap (λ s. framed c.args.frame.at c.args.function.now s (whole_contents c.args.function.now (arguments_in c.args.arena.now passed))) (c.put_numbers.ensures c.args.arena.now (arguments_in c.args.arena.now passed) these)
    ∙ frame_is c.args.function.now (arguments_in c.args.arena.now passed) c.args.frame.at in
    on_ok_weaker c.put_frame.result
    (λ q. subst (λ l. Makes (stores Enclave c.args.frame.at l) (g.P.WordPort.state c.args.port.now) (g.P.WordPort.state c.put_frame.new.port) tt) whole q)
    (c.put_frame.ensures.ok (whole_contents c.args.function.now (arguments_in c.args.arena.now passed)) w.contents (c.as_slice.ensures.value ∙ w.lengths))

pub returns-clause-full : goal.returns-clause-full
returns-clause-full g c = λ passed live.
    let these = slice_passed c.args.arena.now c.args.args.now.items c.as_slice-args.result.now passed c.as_slice-args.ensures.value live in
    let w : IsWhole c.args.function.now (arguments_in c.args.arena.now passed) c.args.arena.now c.as_slice-args.result.now c.in-Some.lengths.items c.args.frame.size =
    whole_here c.args.function.now c.args.arena.now c.args.args.now.items c.as_slice-args.result.now passed c.put_numbers.new.structure c.in-Some.lengths.items c.args.frame.size c.as_slice-args.ensures.value
    c.requires.call.kinds live (c.requires.sized passed live) (c.put_numbers.ensures c.args.arena.now (arguments_in c.args.arena.now passed) these) (c.in-Some.ensures.lengths (arguments_in c.args.arena.now passed) these) in
    let whole = ap (λ s. framed c.args.frame.at c.args.function.now s (whole_contents c.args.function.now (arguments_in c.args.arena.now passed))) (c.put_numbers.ensures c.args.arena.now (arguments_in c.args.arena.now passed) these)
    ∙ frame_is c.args.function.now (arguments_in c.args.arena.now passed) c.args.frame.at in
    IfErr-weaker c.put_frame.result _ _
    (λ full q. (q.0, subst (λ l. StopsFull (stores Enclave c.args.frame.at l) (g.P.WordPort.state c.args.port.now) (g.P.WordPort.state c.put_frame.new.port)) whole q.1))
    (c.put_frame.ensures.full (whole_contents c.args.function.now (arguments_in c.args.arena.now passed)) w.contents (c.as_slice.ensures.value ∙ w.lengths))
