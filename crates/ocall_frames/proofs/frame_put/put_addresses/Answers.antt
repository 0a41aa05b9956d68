use Rattle.std.proofs.Common.{rules, ◌≡◌, ◌<◌, ◌≤◌, ◌+◌, length, drop, sum, get_or, ap, sym, ◌∙◌, arith, false, slice_get, Some}
use Rattle.edl_interface.specs.declared.Param.{Param}
use Rattle.edl_interface.specs.Runnable.{field_end}
use Rattle.ocall_frames.specs.Contents.{addressed, buffers_with}
use Rattle.ocall_frames.proofs.ArgumentLaws.{all_at}
use Rattle.ocall_frames.proofs.ContentLaws.{sum_next, total_more, address_more}
use Rattle.ocall_frames.proofs.StructureLaws.{read_at, nothing_left}
use Rattle.ocall_frames.proofs.frame_put.put_addresses.Goals as goal

pub bounds-params-i : goal.bounds-params-i
bounds-params-i c =
    let params : length c.as_slice-params.result.now ≡ length c.args.function.now.params = ap length c.as_slice-params.ensures in
    omega (arith, params, c.requires.count, c.loop-i-test.true)

pub offset_bounds-params-i : goal.offset_bounds-params-i
offset_bounds-params-i c =
    let params : length c.as_slice-params.result.now ≡ length c.args.function.now.params = ap length c.as_slice-params.ensures in
    let below : c.loop-i.i < length c.as_slice-params.result.now = omega (arith, params, c.requires.count, c.loop-i-test.true) in
    search rules

pub put_address-requires : goal.put_address-requires
put_address-requires c =
    let params : length c.as_slice-params.result.now ≡ length c.args.function.now.params = ap length c.as_slice-params.ensures in
    let below : c.loop-i.i < length c.as_slice-params.result.now = omega (arith, params, c.requires.count, c.loop-i-test.true) in
    let end : field_end false c.index-params-i.result ≤ c.args.function.now.frame_size =
    all_at (λ (p : Param). field_end false p ≤ c.args.function.now.frame_size) c.args.function.now.params c.loop-i.i c.index-params-i.result c.requires.fields
    (read_at c.as_slice-params.result.now c.args.function.now.params c.loop-i.i c.index-params-i.result c.as_slice-params.ensures below c.index-params-i.is) in
    omega (arith, end, c.requires.size, c.loop-i.auto.structure)

pub overflow_add-next : goal.overflow_add-next
overflow_add-next c =
    let s : sum (drop c.loop-i.i c.args.lengths.now) ≡ get_or c.args.lengths.now c.loop-i.i 0 + sum (drop (c.loop-i.i + 1) c.args.lengths.now) = sum_next c.args.lengths.now c.loop-i.i c.loop-i-test.true in
    omega (arith, s, c.loop-i.invariant.total, c.requires.fits, c.from-next.ensures)

pub loop-i-preserved : goal.loop-i-preserved
loop-i-preserved c =
    let params : length c.as_slice-params.result.now ≡ length c.args.function.now.params = ap length c.as_slice-params.ensures in
    let below : c.loop-i.i < length c.as_slice-params.result.now = omega (arith, params, c.requires.count, c.loop-i-test.true) in
    let at : slice_get c.args.function.now.params c.loop-i.i ≡ Some c.index-params-i.result =
    read_at c.as_slice-params.result.now c.args.function.now.params c.loop-i.i c.index-params-i.result c.as_slice-params.ensures below c.index-params-i.is in
    rw c.from-next.ensures record {
      total = total_more c.args.lengths.now c.loop-i.i c.loop-i.next _ c.loop-i-test.true c.loop-i.invariant.total;
      left = λ contents e.
          address_more c.loop-i.structure c.put_address.new.structure _ c.index-params-i.result c.args.function.now.params contents c.args.lengths.now c.loop-i.i c.loop-i.next e c.loop-i-test.true at
          c.put_address.ensures (c.loop-i.invariant.left contents e);
    }

pub returns : goal.returns
returns c = λ contents e.
    let none : length c.args.function.now.params ≤ c.loop-i.i = omega (arith, c.requires.count, c.loop-i-test.false) in
    sym (ap (λ l. addressed c.loop-i.structure (buffers_with c.loop-i.next l (drop c.loop-i.i contents))) (nothing_left c.args.function.now.params c.loop-i.i none)) ∙ c.loop-i.invariant.left contents e
