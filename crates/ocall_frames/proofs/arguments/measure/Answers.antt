use Rattle.std.proofs.Common.{rules, ◌≡◌, ◌<◌, ◌≤◌, ◌+◌, [], ◌∷◌, length, zip, drop, get_or, None, ap, sym, ◌∙◌}
use Rattle.edl_interface.specs.declared.Param.{Param}
use Rattle.edl_interface.specs.Runnable.{IsPassed}
use Rattle.enclave_memory.specs.declared.Arg.TheVariants.{Value}
use Rattle.std.proofs.lemmas.List.Elements.{All-append}
use Rattle.std.proofs.lemmas.Option.{slice_get-get_or}
use Rattle.ocall_frames.specs.Contents.{measured}
use Rattle.ocall_frames.proofs.ArgumentLaws.{IsNext, item_below, item_at, next_item, all_at, live_at, none_left, with_done, measured_more, measured_stops, measured_ends, one_bounded}
use Rattle.ocall_frames.proofs.arguments.measure.Goals as goal

pub bounds-params-i : goal.bounds-params-i
bounds-params-i c = item_below c.as_slice-params.result.now c.args.function.now.params c.args.args.now c.loop-i.i c.as_slice-params.ensures c.requires.call.kinds c.loop-i-test.true

pub offset_bounds-params-i : goal.offset_bounds-params-i
offset_bounds-params-i c =
    let below : c.loop-i.i < length c.as_slice-params.result.now = item_below c.as_slice-params.result.now c.args.function.now.params c.args.args.now c.loop-i.i c.as_slice-params.ensures c.requires.call.kinds c.loop-i-test.true in
    search rules

pub buffer_length-requires-clause-class : goal.buffer_length-requires-clause-class
buffer_length-requires-clause-class c =
    all_at (λ (p : Param). IsPassed p.class) c.args.function.now.params c.loop-i.i c.index-params-i.result c.requires.call.runs.classes
    (item_at c.as_slice-params.result.now c.args.function.now.params c.args.args.now c.loop-i.i c.index-params-i.result c.as_slice-params.ensures c.requires.call.kinds c.loop-i-test.true c.index-params-i.is)

pub buffer_length-requires-clause-live : goal.buffer_length-requires-clause-live
buffer_length-requires-clause-live c =
    live_at c.args.arena.now c.args.args.now c.requires.call.live.0 c.loop-i.i (get_or c.args.args.now c.loop-i.i (Value 0)) c.requires.call.live.1
    (slice_get-get_or c.args.args.now c.loop-i.i (Value 0) c.loop-i-test.true)

pub returns-in_err-buffer_length-clause-lengths : goal.returns-in_err-buffer_length-clause-lengths
returns-in_err-buffer_length-clause-lengths c = λ arguments are.
    let none : c.from_residual.result ≡ None = search rules in
    let n : IsNext _ _ _ _ _ _ _ = next_item c.args.arena.now c.as_slice-params.result.now c.args.function.now.params c.args.args.now arguments c.loop-i.i c.index-params-i.result c.as_slice-params.ensures c.requires.call.kinds c.loop-i-test.true c.index-params-i.is are in
    rw none (sym (c.loop-i.invariant.lengths arguments are ∙ ap (λ l. with_done c.loop-i.lengths.items (measured c.args.function.now c.args.structure.now l)) n.left
    ∙ measured_stops c.args.function.now c.args.structure.now c.loop-i.lengths.items (c.index-params-i.result, n.argument) (drop (c.loop-i.i + 1) (zip c.args.function.now.params arguments)) (c.in_err-buffer_length.ensures.length n.argument n.is)))

pub loop-i-preserved : goal.loop-i-preserved
loop-i-preserved c = record {
  lengths = λ arguments are.
      let n : IsNext _ _ _ _ _ _ _ = next_item c.args.arena.now c.as_slice-params.result.now c.args.function.now.params c.args.args.now arguments c.loop-i.i c.index-params-i.result c.as_slice-params.ensures c.requires.call.kinds c.loop-i-test.true c.index-params-i.is are in
      c.loop-i.invariant.lengths arguments are ∙ ap (λ l. with_done c.loop-i.lengths.items (measured c.args.function.now c.args.structure.now l)) n.left
      ∙ measured_more c.args.function.now c.args.structure.now c.loop-i.lengths.items c.in_ok-buffer_length.field-0 (c.index-params-i.result, n.argument) (drop (c.loop-i.i + 1) (zip c.args.function.now.params arguments))
      (c.in_ok-buffer_length.ensures.length n.argument n.is)
      ∙ ap (λ l. with_done l (measured c.args.function.now c.args.structure.now (drop (c.loop-i.i + 1) (zip c.args.function.now.params arguments)))) (sym c.push.ensures.items);
  few = search rules;
  bounded = rw c.push.ensures.items (All-append (λ n. n ≤ 65536) c.loop-i.lengths.items (c.in_ok-buffer_length.field-0 ∷ []) c.loop-i.invariant.bounded (one_bounded c.in_ok-buffer_length.field-0 c.in_ok-buffer_length.ensures.bounded));
}

pub returns-clause-lengths : goal.returns-clause-lengths
returns-clause-lengths c = λ arguments are.
    sym (c.loop-i.invariant.lengths arguments are
    ∙ ap (λ l. with_done c.loop-i.lengths.items (measured c.args.function.now c.args.structure.now l)) (none_left c.args.arena.now c.args.function.now.params c.args.args.now arguments c.loop-i.i are c.loop-i-test.false)
    ∙ measured_ends c.loop-i.lengths.items)
