use Rattle.std.proofs.Common.{rules, ◌≡◌, ◌<◌, ◌≤◌, ◌+◌, length, drop, sum, get_or, ap, sym, ◌∙◌, subst, arith, slice_get, Some, IsTrue}
use Rattle.std.proofs.lemmas.Result.{err_from_is_err_and}
use Rattle.sgx_base.specs.Ranges.{is_mapped}
use Rattle.ocall_frames.proofs.ContentLaws.{IsNextContent, sum_next, total_more}
use Rattle.ocall_frames.proofs.PutLaws.{IsNextArg, content_next, arg_next, put_step, put_stops, put_all, part_mapped, leads_host}
use Rattle.ocall_frames.proofs.StructureLaws.{read_at}
use Rattle.ocall_frames.proofs.frame_put.put_buffers.Goals as goal

pub bounds-params-i : goal.bounds-params-i
bounds-params-i g c =
    let params : length c.as_slice-params.result.now ≡ length c.args.function.now.params = ap length c.as_slice-params.ensures in
    omega (arith, params, c.requires.params, c.loop-i-test.true)

pub offset_bounds-params-i : goal.offset_bounds-params-i
offset_bounds-params-i g c =
    let params : length c.as_slice-params.result.now ≡ length c.args.function.now.params = ap length c.as_slice-params.ensures in
    let below : c.loop-i.i < length c.as_slice-params.result.now = omega (arith, params, c.requires.params, c.loop-i-test.true) in
    search rules

pub put_buffer-requires-clause-content : goal.put_buffer-requires-clause-content
put_buffer-requires-clause-content g c =
    let params : length c.as_slice-params.result.now ≡ length c.args.function.now.params = ap length c.as_slice-params.ensures in
    let below : c.loop-i.i < length c.as_slice-params.result.now = omega (arith, params, c.requires.params, c.loop-i-test.true) in
    let at : slice_get c.args.function.now.params c.loop-i.i ≡ Some c.index-params-i.result =
    read_at c.as_slice-params.result.now c.args.function.now.params c.loop-i.i c.index-params-i.result c.as_slice-params.ensures below c.index-params-i.is in
    let (contents, are, e) = c.requires.contents in
    let n : IsNextContent contents c.args.lengths.now c.loop-i.i =
    content_next c.args.arena.now c.args.function.now.params c.args.args.now contents c.args.lengths.now c.loop-i.i c.loop-i.next c.index-params-i.result are e c.requires.lengths c.loop-i-test.true at in
    let a : IsNextArg _ _ _ _ =
    arg_next c.args.arena.now c.args.function.now.params c.args.args.now contents c.args.lengths.now c.loop-i.i c.loop-i.next c.index-params-i.result are e c.requires.lengths c.loop-i-test.true at in
    (_, a.is, n.count)

pub put_buffer-requires-clause-mapped : goal.put_buffer-requires-clause-mapped
put_buffer-requires-clause-mapped g c =
    let h : c.loop-i.i < length c.args.lengths.now = omega (arith, c.requires.lengths, c.loop-i-test.true) in
    let s : sum (drop c.loop-i.i c.args.lengths.now) ≡ get_or c.args.lengths.now c.loop-i.i 0 + sum (drop (c.loop-i.i + 1) c.args.lengths.now) = sum_next c.args.lengths.now c.loop-i.i h in
    let high : c.loop-i.next + get_or c.args.lengths.now c.loop-i.i 0 ≤ c.args.from + sum c.args.lengths.now = omega (arith, s, c.loop-i.invariant.total) in
    subst (λ n. IsTrue (is_mapped n c.loop-i.next (get_or c.args.lengths.now c.loop-i.i 0))) (sym c.loop-i.invariant.host)
    (part_mapped (g.P.WordPort.state c.args.port.now).host c.args.from (sum c.args.lengths.now) c.loop-i.next (get_or c.args.lengths.now c.loop-i.i 0) c.requires.mapped c.loop-i.invariant.low high)

pub overflow_add-next : goal.overflow_add-next
overflow_add-next g c =
    let h : c.loop-i.i < length c.args.lengths.now = omega (arith, c.requires.lengths, c.loop-i-test.true) in
    let s : sum (drop c.loop-i.i c.args.lengths.now) ≡ get_or c.args.lengths.now c.loop-i.i 0 + sum (drop (c.loop-i.i + 1) c.args.lengths.now) = sum_next c.args.lengths.now c.loop-i.i h in
    omega (arith, s, c.loop-i.invariant.total, c.requires.fits, c.from-next.ensures)

pub loop-i-preserved : goal.loop-i-preserved
loop-i-preserved g c =
    let h : c.loop-i.i < length c.args.lengths.now = omega (arith, c.requires.lengths, c.loop-i-test.true) in
    let params : length c.as_slice-params.result.now ≡ length c.args.function.now.params = ap length c.as_slice-params.ensures in
    let below : c.loop-i.i < length c.as_slice-params.result.now = omega (arith, params, c.requires.params, c.loop-i-test.true) in
    let at : slice_get c.args.function.now.params c.loop-i.i ≡ Some c.index-params-i.result =
    read_at c.as_slice-params.result.now c.args.function.now.params c.loop-i.i c.index-params-i.result c.as_slice-params.ensures below c.index-params-i.is in
    let (contents, are, e) = c.requires.contents in
    let a : IsNextArg _ _ _ _ =
    arg_next c.args.arena.now c.args.function.now.params c.args.args.now contents c.args.lengths.now c.loop-i.i c.loop-i.next c.index-params-i.result are e c.requires.lengths c.loop-i-test.true at in
    let n : IsNextContent contents c.args.lengths.now c.loop-i.i =
    content_next c.args.arena.now c.args.function.now.params c.args.args.now contents c.args.lengths.now c.loop-i.i c.loop-i.next c.index-params-i.result are e c.requires.lengths c.loop-i-test.true at in
    rw c.from-next.ensures record {
      low = omega (arith, c.loop-i.invariant.low);
      total = total_more c.args.lengths.now c.loop-i.i c.loop-i.next _ h c.loop-i.invariant.total;
      host = leads_host _ _ _ _ (c.in_ok-put_buffer.ensures.ok _ a.is n.count) ∙ c.loop-i.invariant.host;
      left = λ others theirs same.
          put_step c.args.arena.now c.args.function.now.params c.args.args.now others c.args.lengths.now c.loop-i.i c.loop-i.next c.index-params-i.result theirs same c.requires.lengths c.loop-i-test.true at
          _ _ _ _ (c.loop-i.invariant.left others theirs same) c.in_ok-put_buffer.ensures.ok;
    }

pub returns-in_err-put_buffer-clause-full : goal.returns-in_err-put_buffer-clause-full
returns-in_err-put_buffer-clause-full g c = λ others theirs same.
    let p = err_from_is_err_and c.from_residual.result c.from_residual.ensures.1 in
    let params : length c.as_slice-params.result.now ≡ length c.args.function.now.params = ap length c.as_slice-params.ensures in
    let below : c.loop-i.i < length c.as_slice-params.result.now = omega (arith, params, c.requires.params, c.loop-i-test.true) in
    let at : slice_get c.args.function.now.params c.loop-i.i ≡ Some c.index-params-i.result =
    read_at c.as_slice-params.result.now c.args.function.now.params c.loop-i.i c.index-params-i.result c.as_slice-params.ensures below c.index-params-i.is in
    let n : IsNextContent others c.args.lengths.now c.loop-i.i =
    content_next c.args.arena.now c.args.function.now.params c.args.args.now others c.args.lengths.now c.loop-i.i c.loop-i.next c.index-params-i.result theirs same c.requires.lengths c.loop-i-test.true at in
    let a : IsNextArg _ _ _ _ =
    arg_next c.args.arena.now c.args.function.now.params c.args.args.now others c.args.lengths.now c.loop-i.i c.loop-i.next c.index-params-i.result theirs same c.requires.lengths c.loop-i-test.true at in
    rw (p.1, p.2) (
      (c.in_err-put_buffer.ensures.full _ a.is n.count).0,
      put_stops c.args.arena.now c.args.function.now.params c.args.args.now others c.args.lengths.now c.loop-i.i c.loop-i.next c.index-params-i.result theirs same c.requires.lengths c.loop-i-test.true at
          _ _ _ _ (c.loop-i.invariant.left others theirs same) (λ content is count. (c.in_err-put_buffer.ensures.full content is count).1),
    )

pub returns-clause-ok : goal.returns-clause-ok
returns-clause-ok g c = λ others theirs same.
    let none : length c.args.function.now.params ≤ c.loop-i.i = omega (arith, c.requires.params, c.loop-i-test.false) in
    put_all _ c.args.function.now.params others c.loop-i.i c.loop-i.next _ _ none (c.loop-i.invariant.left others theirs same)
