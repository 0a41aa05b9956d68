use Rattle.std.proofs.Common.{◌≡◌, ◌≤◌, ◌<◌, length, Some, slice_get, get_or, ap, ◌∙◌, refl, arith, rules, true}
use Rattle.std.proofs.lemmas.List.{length-replicate}
use Rattle.std.proofs.lemmas.Option.{slice_get-get_or}
use Rattle.edl_interface.specs.declared.Param.{Param}
use Rattle.edl_interface.specs.Parameters.{IsWordSized}
use Rattle.edl_interface.specs.Runnable.{field_end}
use Rattle.call_machine.proofs.HostFrames.{all_at, argument_at, fill_end, fill_more, read_at, same_lengths}
use Rattle.call_machine.proofs.arguments.fill_frame.Goals as goal

pub bounds-params-i : goal.bounds-params-i
bounds-params-i c =
    let same : length c.args.args.now ≡ length c.args.function.now.params = same_lengths _ _ _ c.requires.args in
    let params : length c.as_slice-params.result.now ≡ length c.args.function.now.params = ap length c.as_slice-params.ensures in
    omega (arith, same, params, c.loop-i-test.true)

pub offset_bounds-params-i : goal.offset_bounds-params-i
offset_bounds-params-i c =
    let same : length c.args.args.now ≡ length c.args.function.now.params = same_lengths _ _ _ c.requires.args in
    let params : length c.as_slice-params.result.now ≡ length c.args.function.now.params = ap length c.as_slice-params.ensures in
    let below : c.loop-i.i < length c.as_slice-params.result.now = omega (arith, same, params, c.loop-i-test.true) in
    search rules

pub put_field-requires-clause-word : goal.put_field-requires-clause-word
put_field-requires-clause-word c =
    let same : length c.args.args.now ≡ length c.args.function.now.params = same_lengths _ _ _ c.requires.args in
    let params : length c.as_slice-params.result.now ≡ length c.args.function.now.params = ap length c.as_slice-params.ensures in
    let below : c.loop-i.i < length c.as_slice-params.result.now = omega (arith, same, params, c.loop-i-test.true) in
    let at : slice_get c.args.function.now.params c.loop-i.i ≡ Some c.index-params-i.result = read_at c.as_slice-params.result.now c.args.function.now.params c.loop-i.i c.index-params-i.result c.as_slice-params.ensures below c.index-params-i.is in
    all_at (λ (q : Param). IsWordSized q.class) c.args.function.now.params c.loop-i.i c.index-params-i.result c.requires.words at

pub put_field-requires-clause-arg : goal.put_field-requires-clause-arg
put_field-requires-clause-arg c =
    let same : length c.args.args.now ≡ length c.args.function.now.params = same_lengths _ _ _ c.requires.args in
    let params : length c.as_slice-params.result.now ≡ length c.args.function.now.params = ap length c.as_slice-params.ensures in
    let below : c.loop-i.i < length c.as_slice-params.result.now = omega (arith, same, params, c.loop-i-test.true) in
    let at : slice_get c.args.function.now.params c.loop-i.i ≡ Some c.index-params-i.result = read_at c.as_slice-params.result.now c.args.function.now.params c.loop-i.i c.index-params-i.result c.as_slice-params.ensures below c.index-params-i.is in
    let arg_at : slice_get c.args.args.now c.loop-i.i ≡ Some c.index-args-i.result = read_at c.args.args.now c.args.args.now c.loop-i.i c.index-args-i.result refl c.loop-i-test.true c.index-args-i.is in
    argument_at c.args.place.frame c.args.function.now.params c.args.args.now c.loop-i.i c.index-params-i.result c.index-args-i.result c.requires.args at arg_at

pub put_field-requires-clause-fits : goal.put_field-requires-clause-fits
put_field-requires-clause-fits c =
    let same : length c.args.args.now ≡ length c.args.function.now.params = same_lengths _ _ _ c.requires.args in
    let params : length c.as_slice-params.result.now ≡ length c.args.function.now.params = ap length c.as_slice-params.ensures in
    let below : c.loop-i.i < length c.as_slice-params.result.now = omega (arith, same, params, c.loop-i-test.true) in
    let at : slice_get c.args.function.now.params c.loop-i.i ≡ Some c.index-params-i.result = read_at c.as_slice-params.result.now c.args.function.now.params c.loop-i.i c.index-params-i.result c.as_slice-params.ensures below c.index-params-i.is in
    let whole : length c.args.frame.now ≡ c.args.function.now.frame_size = ap length c.requires.zeros ∙ length-replicate _ _ in
    let kept : length c.loop-i.frame ≡ length c.args.frame.now = c.loop-i.auto.frame in
    let end : field_end true c.index-params-i.result ≤ c.args.function.now.frame_size = all_at (λ (q : Param). field_end true q ≤ c.args.function.now.frame_size) c.args.function.now.params c.loop-i.i c.index-params-i.result c.requires.fields at in
    omega (arith, whole, kept, end)

pub loop-i-preserved : goal.loop-i-preserved
loop-i-preserved c =
    let same : length c.args.args.now ≡ length c.args.function.now.params = same_lengths _ _ _ c.requires.args in
    let params : length c.as_slice-params.result.now ≡ length c.args.function.now.params = ap length c.as_slice-params.ensures in
    let below : c.loop-i.i < length c.as_slice-params.result.now = omega (arith, same, params, c.loop-i-test.true) in
    let at : slice_get c.args.function.now.params c.loop-i.i ≡ Some c.index-params-i.result = read_at c.as_slice-params.result.now c.args.function.now.params c.loop-i.i c.index-params-i.result c.as_slice-params.ensures below c.index-params-i.is in
    let arg_at : slice_get c.args.args.now c.loop-i.i ≡ Some c.index-args-i.result = read_at c.args.args.now c.args.args.now c.loop-i.i c.index-args-i.result refl c.loop-i-test.true c.index-args-i.is in
    let found : c.loop-i.i < length c.args.lengths.now = omega (arith, c.requires.lengths, c.loop-i-test.true) in
    fill_more c.args.place.frame c.args.function.now.params c.args.args.now c.args.lengths.now c.loop-i.i (get_or c.args.lengths.now c.loop-i.i 0) c.index-params-i.result c.index-args-i.result c.loop-i.frame c.put_field.new.frame _
    at arg_at (slice_get-get_or c.args.lengths.now c.loop-i.i 0 found) c.put_field.ensures c.loop-i.invariant

pub returns : goal.returns
returns c =
    let same : length c.args.args.now ≡ length c.args.function.now.params = same_lengths _ _ _ c.requires.args in
    fill_end c.args.place.frame c.args.function.now.params c.args.args.now c.args.lengths.now c.loop-i.i c.loop-i.frame _ (omega (arith, same, c.loop-i-test.false)) c.loop-i.invariant
