use Rattle.std.proofs.Common.{◌≡◌, ◌<◌, length, Some, slice_get, ap, subst, refl, arith, rules}
use Rattle.std.proofs.lemmas.Result.{err_from_is_err_and}
use Rattle.edl_interface.specs.declared.Param.{Param}
use Rattle.edl_interface.specs.Runnable.{IsPassed}
use Rattle.word_port.specs.Port.{PortState}
use Rattle.call_machine.proofs.HostFrames.{address_fits, all_at, argument_at, read_at, same_lengths}
use Rattle.call_machine.proofs.StringLaws.{lengths_begin, lengths_more, lengths_full, lengths_end, length_made, length_stopped}
use Rattle.call_machine.proofs.strings.string_lengths.Goals as goal

pub loop-i-init : goal.loop-i-init
loop-i-init g c = lengths_begin (g.P.WordPort.state c.args.port.now).host c.args.place.frame c.args.function.now.params c.args.args.now c.args.lengths.now _

pub bounds-params-i : goal.bounds-params-i
bounds-params-i g c =
    let same : length c.args.args.now ≡ length c.args.function.now.params = same_lengths _ _ _ c.requires.args in
    let params : length c.as_slice-params.result.now ≡ length c.args.function.now.params = ap length c.as_slice-params.ensures in
    omega (arith, same, params, c.loop-i-test.true)

pub offset_bounds-params-i : goal.offset_bounds-params-i
offset_bounds-params-i g c =
    let same : length c.args.args.now ≡ length c.args.function.now.params = same_lengths _ _ _ c.requires.args in
    let params : length c.as_slice-params.result.now ≡ length c.args.function.now.params = ap length c.as_slice-params.ensures in
    let below : c.loop-i.i < length c.as_slice-params.result.now = omega (arith, same, params, c.loop-i-test.true) in
    search rules

pub argument_length-requires-clause-passed : goal.argument_length-requires-clause-passed
argument_length-requires-clause-passed g c =
    let same : length c.args.args.now ≡ length c.args.function.now.params = same_lengths _ _ _ c.requires.args in
    let params : length c.as_slice-params.result.now ≡ length c.args.function.now.params = ap length c.as_slice-params.ensures in
    let below : c.loop-i.i < length c.as_slice-params.result.now = omega (arith, same, params, c.loop-i-test.true) in
    let at : slice_get c.args.function.now.params c.loop-i.i ≡ Some c.index-params-i.result = read_at c.as_slice-params.result.now c.args.function.now.params c.loop-i.i c.index-params-i.result c.as_slice-params.ensures below c.index-params-i.is in
    subst (λ (q : Param). IsPassed q.class) c.index-params-i.is (all_at (λ (q : Param). IsPassed q.class) c.args.function.now.params c.loop-i.i c.index-params-i.result c.requires.classes at)

pub argument_length-requires-clause-address : goal.argument_length-requires-clause-address
argument_length-requires-clause-address g c =
    let same : length c.args.args.now ≡ length c.args.function.now.params = same_lengths _ _ _ c.requires.args in
    let params : length c.as_slice-params.result.now ≡ length c.args.function.now.params = ap length c.as_slice-params.ensures in
    let below : c.loop-i.i < length c.as_slice-params.result.now = omega (arith, same, params, c.loop-i-test.true) in
    let at : slice_get c.args.function.now.params c.loop-i.i ≡ Some c.index-params-i.result = read_at c.as_slice-params.result.now c.args.function.now.params c.loop-i.i c.index-params-i.result c.as_slice-params.ensures below c.index-params-i.is in
    let arg_at : slice_get c.args.args.now c.loop-i.i ≡ Some c.index-args-i.result = read_at c.args.args.now c.args.args.now c.loop-i.i c.index-args-i.result refl c.loop-i-test.true c.index-args-i.is in
    address_fits c.args.place.frame c.index-params-i.result.class c.index-args-i.result
    (argument_at c.args.place.frame c.args.function.now.params c.args.args.now c.loop-i.i c.index-params-i.result c.index-args-i.result c.requires.args at arg_at)

pub returns-in_err-lengths-clause-full : goal.returns-in_err-lengths-clause-full
returns-in_err-lengths-clause-full g c =
    let p = err_from_is_err_and c.from_residual.result c.from_residual.ensures.1 in
    let same : length c.args.args.now ≡ length c.args.function.now.params = same_lengths _ _ _ c.requires.args in
    let params : length c.as_slice-params.result.now ≡ length c.args.function.now.params = ap length c.as_slice-params.ensures in
    let below : c.loop-i.i < length c.as_slice-params.result.now = omega (arith, same, params, c.loop-i-test.true) in
    let at : slice_get c.args.function.now.params c.loop-i.i ≡ Some c.index-params-i.result = read_at c.as_slice-params.result.now c.args.function.now.params c.loop-i.i c.index-params-i.result c.as_slice-params.ensures below c.index-params-i.is in
    let arg_at : slice_get c.args.args.now c.loop-i.i ≡ Some c.index-args-i.result = read_at c.args.args.now c.args.args.now c.loop-i.i c.index-args-i.result refl c.loop-i-test.true c.index-args-i.is in
    let host = ap (λ (s : PortState). s.host) c.loop-i.invariant.grown in
    rw (p.1, p.2, c.in_err-lengths.ensures.full.0) (
      refl,
      lengths_full _ _ _ _ c.loop-i.i c.loop-i.lengths _ _ c.loop-i.invariant c.index-params-i.result c.index-args-i.result at arg_at _
          (length_stopped _ _ _ _ c.index-params-i.result _ c.index-args-i.result _ _ host c.index-params-i.is refl c.in_err-lengths.ensures.full.1),
    )

pub loop-i-preserved : goal.loop-i-preserved
loop-i-preserved g c =
    let same : length c.args.args.now ≡ length c.args.function.now.params = same_lengths _ _ _ c.requires.args in
    let params : length c.as_slice-params.result.now ≡ length c.args.function.now.params = ap length c.as_slice-params.ensures in
    let below : c.loop-i.i < length c.as_slice-params.result.now = omega (arith, same, params, c.loop-i-test.true) in
    let at : slice_get c.args.function.now.params c.loop-i.i ≡ Some c.index-params-i.result = read_at c.as_slice-params.result.now c.args.function.now.params c.loop-i.i c.index-params-i.result c.as_slice-params.ensures below c.index-params-i.is in
    let arg_at : slice_get c.args.args.now c.loop-i.i ≡ Some c.index-args-i.result = read_at c.args.args.now c.args.args.now c.loop-i.i c.index-args-i.result refl c.loop-i-test.true c.index-args-i.is in
    let host = ap (λ (s : PortState). s.host) c.loop-i.invariant.grown in
    let room : c.loop-i.i < length c.loop-i.lengths = omega (arith, c.loop-i.auto.lengths, c.requires.room, c.loop-i-test.true) in
    lengths_more _ _ _ _ c.loop-i.i c.loop-i.lengths _ _ c.loop-i.invariant c.index-params-i.result c.index-args-i.result at arg_at _ _ room
    (length_made _ _ _ _ c.index-params-i.result _ c.index-args-i.result _ _ _ host c.index-params-i.is refl c.in_ok-lengths.ensures.ok)

pub returns-clause-ok : goal.returns-clause-ok
returns-clause-ok g c =
    let same : length c.args.args.now ≡ length c.args.function.now.params = same_lengths _ _ _ c.requires.args in
    lengths_end _ _ _ _ c.loop-i.i c.loop-i.lengths _ _ c.loop-i.invariant (omega (arith, same, c.loop-i-test.false)) c.loop-i-test.false (omega (arith, c.loop-i.auto.lengths, c.requires.room, c.loop-i.auto.i-end, c.loop-i-test.false))
