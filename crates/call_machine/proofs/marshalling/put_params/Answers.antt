use Rattle.std.proofs.Common.{suc, ap, ◌≡◌, ◌∙◌, ◌+◌, ◌<◌, None, sym, subst, arith}
use Rattle.std.proofs.lemmas.Result.{err_from_is_err_and}
use Rattle.edl_interface.specs.declared.Param.{Param}
use Rattle.edl_interface.specs.Parameters.{is_marshalled}
use Rattle.call_machine.proofs.CopiesIn.{other_left}
use Rattle.call_machine.proofs.CopiesBack.{IsPutting, IsNext, place_few, item_next, item_more, item_full, kept_more, other_more}
use Rattle.call_machine.proofs.marshalling.put_params.Goals as goal
use Rattle.call_machine.proofs.marshalling.put_params.Goals.{then-is_marshalled+in_ok-put_param, else-is_marshalled}

pub overflow_add-place : goal.overflow_add-place
overflow_add-place g c =
    let few : c.loop-param.place < 64 = place_few c.args.function.now c.as_slice-param-items.result.now c.loop-param.param-index c.loop-param.place c.as_slice-param-items.ensures c.loop-param-test.true c.loop-param.invariant.place c.requires.few in
    omega (arith, few)

pub offset_bounds-blocks-place : goal.offset_bounds-blocks-place
offset_bounds-blocks-place g c =
    let few : c.loop-param.place < 64 = place_few c.args.function.now c.as_slice-param-items.result.now c.loop-param.param-index c.loop-param.place c.as_slice-param-items.ensures c.loop-param-test.true c.loop-param.invariant.place c.requires.few in
    omega (arith, few)

pub bounds-blocks-place : goal.bounds-blocks-place
bounds-blocks-place g c = let (bytes, have, are) = c.requires.copies in (item_next c.args.function.now c.as_slice-param-items.result.now c.loop-param.param-index c.loop-param.place c.as_slice-param-items.ensures c.loop-param-test.true c.loop-param.invariant.place c.args.fields.now c.args.arena.now c.args.blocks.now _ _ c.param-item.result c.param-item.is (sym c.is_marshalled.ensures ∙ c.if-is_marshalled.true) c.requires.allowed c.loop-param.invariant.putting bytes have are).within

pub put_param-requires : goal.put_param-requires
put_param-requires g c =
    let (bytes, have, are) = c.requires.copies in
    let n : IsNext _ _ _ _ _ _ _ = item_next c.args.function.now c.as_slice-param-items.result.now c.loop-param.param-index c.loop-param.place c.as_slice-param-items.ensures c.loop-param-test.true c.loop-param.invariant.place c.args.fields.now c.args.arena.now c.args.blocks.now _ _ c.param-item.result c.param-item.is (sym c.is_marshalled.ensures ∙ c.if-is_marshalled.true) c.requires.allowed c.loop-param.invariant.putting bytes have are in
    (n.copy, n.has None, n.back)

pub returns-in_err-put_param-clause-full : goal.returns-in_err-put_param-clause-full
returns-in_err-put_param-clause-full g c = λ bytes have are.
    let p = err_from_is_err_and c.from_residual.result c.from_residual.ensures.1 in
    let n : IsNext _ _ _ _ _ _ _ = item_next c.args.function.now c.as_slice-param-items.result.now c.loop-param.param-index c.loop-param.place c.as_slice-param-items.ensures c.loop-param-test.true c.loop-param.invariant.place c.args.fields.now c.args.arena.now c.args.blocks.now _ _ c.param-item.result c.param-item.is (sym c.is_marshalled.ensures ∙ c.if-is_marshalled.true) c.requires.allowed c.loop-param.invariant.putting bytes have are in
    rw (p.1, p.2) (
      (c.in_err-put_param.ensures.full n.copy (n.has None)).0,
      item_full c.args.function.now c.as_slice-param-items.result.now c.loop-param.param-index c.loop-param.place c.as_slice-param-items.ensures c.loop-param-test.true c.loop-param.invariant.place c.args.fields.now c.args.arena.now c.args.blocks.now _ _ c.param-item.result c.param-item.is (sym c.is_marshalled.ensures ∙ c.if-is_marshalled.true) c.requires.allowed c.loop-param.invariant.putting _ (λ copy has. (c.in_err-put_param.ensures.full copy (has None)).1) bytes have are,
    )

pub loop-param-preserved : goal.loop-param-preserved
loop-param-preserved g c =
    let next : c.loop-param.place + 1 ≡ suc c.loop-param.place = omega arith in
    elim c.if-is_marshalled.branch [
      | then-is_marshalled+in_ok-put_param w ↦ rw (w.port-is, w.place-is) record {
        putting = item_more c.args.function.now c.as_slice-param-items.result.now c.loop-param.param-index c.loop-param.place c.as_slice-param-items.ensures c.loop-param-test.true c.loop-param.invariant.place c.args.fields.now c.args.arena.now c.args.blocks.now _ _ c.param-item.result c.param-item.is (sym c.is_marshalled.ensures ∙ w.if-is_marshalled.true) c.requires.allowed c.loop-param.invariant.putting _ _ next c.requires.copies (λ copy has. w.in_ok-put_param.ensures.ok copy (has None));
        place = next ∙ sym (kept_more (λ (p : Param). is_marshalled p.class) c.as_slice-param-items.result.now c.loop-param.param-index c.param-item.result c.loop-param-test.true c.param-item.is
            (sym c.is_marshalled.ensures ∙ w.if-is_marshalled.true) ∙ sym (ap (λ n. suc n) c.loop-param.invariant.place));
      }
      | else-is_marshalled w ↦ rw (w.port-is, w.place-is) record {
        putting = subst (λ l. IsPutting c.args.function.now c.args.fields.now c.args.arena.now c.args.blocks.now (g.P.WordPort.state c.args.port.now) (g.P.WordPort.state c.loop-param.port) c.loop-param.place l)
            (other_left (λ (p : Param). is_marshalled p.class) c.as_slice-param-items.result.now c.loop-param.param-index c.param-item.result c.loop-param-test.true c.param-item.is (sym c.is_marshalled.ensures ∙ w.if-is_marshalled.false))
            c.loop-param.invariant.putting;
        place = c.loop-param.invariant.place ∙ sym (other_more (λ (p : Param). is_marshalled p.class) c.as_slice-param-items.result.now c.loop-param.param-index c.param-item.result c.loop-param-test.true c.param-item.is
            (sym c.is_marshalled.ensures ∙ w.if-is_marshalled.false));
      }
    ]
