use Rattle.std.proofs.Common.{rules, ◌≡◌, ◌<◌, ◌≤◌, ◌+◌, length, zip, drop, ap, sym, ◌∙◌, arith, false}
use Rattle.std.proofs.lemmas.List.{length-replicate}
use Rattle.edl_interface.specs.declared.Param.{Param}
use Rattle.edl_interface.specs.Runnable.{field_end}
use Rattle.ocall_frames.proofs.ArgumentLaws.{IsNext, item_below, item_at, next_item, all_at, none_left, numbers_from}
use Rattle.ocall_frames.proofs.arguments.put_numbers.Goals as goal

pub bounds-params-i : goal.bounds-params-i
bounds-params-i c = item_below c.as_slice-params.result.now c.args.function.now.params c.args.args.now c.loop-i.i c.as_slice-params.ensures c.requires.kinds c.loop-i-test.true

pub offset_bounds-params-i : goal.offset_bounds-params-i
offset_bounds-params-i c =
    let below : c.loop-i.i < length c.as_slice-params.result.now = item_below c.as_slice-params.result.now c.args.function.now.params c.args.args.now c.loop-i.i c.as_slice-params.ensures c.requires.kinds c.loop-i-test.true in
    search rules

pub put_argument-requires : goal.put_argument-requires
put_argument-requires c =
    let end : field_end false c.index-params-i.result ≤ c.args.function.now.frame_size =
    all_at (λ (p : Param). field_end false p ≤ c.args.function.now.frame_size) c.args.function.now.params c.loop-i.i c.index-params-i.result c.requires.fields
    (item_at c.as_slice-params.result.now c.args.function.now.params c.args.args.now c.loop-i.i c.index-params-i.result c.as_slice-params.ensures c.requires.kinds c.loop-i-test.true c.index-params-i.is) in
    let whole : length c.args.structure.now ≡ c.args.function.now.frame_size = ap length c.requires.zeros ∙ length-replicate _ _ in
    omega (arith, end, whole, c.loop-i.auto.structure)

pub loop-i-preserved : goal.loop-i-preserved
loop-i-preserved c = λ m arguments are.
    let n : IsNext _ _ _ _ _ _ _ = next_item m c.as_slice-params.result.now c.args.function.now.params c.args.args.now arguments c.loop-i.i c.index-params-i.result c.as_slice-params.ensures c.requires.kinds c.loop-i-test.true c.index-params-i.is are in
    ap (λ s. numbers_from s (drop (c.loop-i.i + 1) (zip c.args.function.now.params arguments))) (c.put_argument.ensures m n.argument n.is)
    ∙ ap (λ l. numbers_from c.loop-i.structure l) (sym n.left) ∙ c.loop-i.invariant m arguments are

pub returns : goal.returns
returns c = λ m arguments are.
    sym (ap (λ l. numbers_from c.loop-i.structure l) (none_left m c.args.function.now.params c.args.args.now arguments c.loop-i.i are c.loop-i-test.false))
    ∙ c.loop-i.invariant m arguments are
