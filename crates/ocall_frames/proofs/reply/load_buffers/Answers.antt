use Rattle.std.proofs.Common.{rules, ◌≡◌, ◌<◌, ◌≤◌, ◌+◌, length, drop, sum, get_or, ap, sym, ◌∙◌, subst, arith, slice_get, Some, IsTrue}
use Rattle.std.proofs.lemmas.Result.{err_from_is_err_and}
use Rattle.sgx_base.specs.Ranges.{is_mapped}
use Rattle.edl_interface.specs.declared.Param.{Param}
use Rattle.edl_interface.specs.Runnable.{IsPassed}
use Rattle.ocall_frames.proofs.ArgumentLaws.{all_at}
use Rattle.ocall_frames.proofs.ContentLaws.{IsNextContent, sum_next, total_more}
use Rattle.ocall_frames.proofs.PutLaws.{IsNextArg, content_next, arg_next, part_mapped, leads_host}
use Rattle.ocall_frames.proofs.ReplyLaws.{keeps_none, reading_none, part_is, load_step, load_full, step_keeps, reading_all}
use Rattle.ocall_frames.proofs.StructureLaws.{read_at, nothing_left}
use Rattle.ocall_frames.proofs.reply.load_buffers.Goals as goal

pub loop-i-init : goal.loop-i-init
loop-i-init g c = record {
  low = omega arith;
  total = search rules;
  host = search rules;
  keeps = keeps_none c.args.arena.now;
  reading = λ passed contents live are same. reading_none c.args.arena.now c.args.function.now.params passed contents c.args.from _;
}

pub bounds-params-i : goal.bounds-params-i
bounds-params-i g c =
    let params : length c.as_slice-params.result.now ≡ length c.args.function.now.params = ap length c.as_slice-params.ensures in
    omega (arith, params, c.requires.params, c.loop-i-test.true)

pub offset_bounds-params-i : goal.offset_bounds-params-i
offset_bounds-params-i g c =
    let params : length c.as_slice-params.result.now ≡ length c.args.function.now.params = ap length c.as_slice-params.ensures in
    let below : c.loop-i.i < length c.as_slice-params.result.now = omega (arith, params, c.requires.params, c.loop-i-test.true) in
    search rules

pub load_buffer-requires-clause-class : goal.load_buffer-requires-clause-class
load_buffer-requires-clause-class g c =
    let params : length c.as_slice-params.result.now ≡ length c.args.function.now.params = ap length c.as_slice-params.ensures in
    let below : c.loop-i.i < length c.as_slice-params.result.now = omega (arith, params, c.requires.params, c.loop-i-test.true) in
    let at : slice_get c.args.function.now.params c.loop-i.i ≡ Some c.index-params-i.result =
    read_at c.as_slice-params.result.now c.args.function.now.params c.loop-i.i c.index-params-i.result c.as_slice-params.ensures below c.index-params-i.is in
    all_at (λ (p : Param). IsPassed p.class) c.args.function.now.params c.loop-i.i c.index-params-i.result c.requires.classes at

pub load_buffer-requires-clause-part : goal.load_buffer-requires-clause-part
load_buffer-requires-clause-part g c =
    let params : length c.as_slice-params.result.now ≡ length c.args.function.now.params = ap length c.as_slice-params.ensures in
    let below : c.loop-i.i < length c.as_slice-params.result.now = omega (arith, params, c.requires.params, c.loop-i-test.true) in
    let at : slice_get c.args.function.now.params c.loop-i.i ≡ Some c.index-params-i.result =
    read_at c.as_slice-params.result.now c.args.function.now.params c.loop-i.i c.index-params-i.result c.as_slice-params.ensures below c.index-params-i.is in
    let (contents, are, e) = c.requires.contents in
    let n : IsNextContent contents c.args.lengths.now c.loop-i.i =
    content_next c.args.arena.now c.args.function.now.params c.args.args.now contents c.args.lengths.now c.loop-i.i c.loop-i.next c.index-params-i.result are e c.requires.lengths c.loop-i-test.true at in
    let a : IsNextArg _ _ _ _ =
    arg_next c.args.arena.now c.args.function.now.params c.args.args.now contents c.args.lengths.now c.loop-i.i c.loop-i.next c.index-params-i.result are e c.requires.lengths c.loop-i-test.true at in
    part_is c.args.arena.now c.loop-i.arena c.index-params-i.result.class _ _ (get_or c.args.lengths.now c.loop-i.i 0) c.loop-i.invariant.keeps a.is n.count

pub load_buffer-requires-clause-mapped : goal.load_buffer-requires-clause-mapped
load_buffer-requires-clause-mapped g c =
    let h : c.loop-i.i < length c.args.lengths.now = omega (arith, c.requires.lengths, c.loop-i-test.true) in
    let s : sum (drop c.loop-i.i c.args.lengths.now) ≡ get_or c.args.lengths.now c.loop-i.i 0 + sum (drop (c.loop-i.i + 1) c.args.lengths.now) = sum_next c.args.lengths.now c.loop-i.i h in
    let high : c.loop-i.next + get_or c.args.lengths.now c.loop-i.i 0 ≤ c.args.from + sum c.args.lengths.now = omega (arith, s, c.loop-i.invariant.total) in
    subst (λ n. IsTrue (is_mapped n c.loop-i.next (get_or c.args.lengths.now c.loop-i.i 0))) (sym c.loop-i.invariant.host)
    (part_mapped (g.P.WordPort.state c.args.port.now).host c.args.from (sum c.args.lengths.now) c.loop-i.next (get_or c.args.lengths.now c.loop-i.i 0) c.requires.mapped c.loop-i.invariant.low high)

pub overflow_add-next : goal.overflow_add-next
overflow_add-next g c =
    let h : c.loop-i.i < length c.args.lengths.now = omega (arith, c.requires.lengths, c.loop-i-test.true) in
    let s : sum (drop c.loop-i.i c.args.lengths.now) ≡ get_or c.args.lengths.now c.loop-i.i 0 + sum (drop (c.loop-i.i + 1) c.args.lengths.now) = sum_next c.args.lengths.now c.loop-i.i h in
    omega (arith, s, c.loop-i.invariant.total, c.requires.fits, c.from-next.ensures)

pub loop-i-preserved : goal.loop-i-preserved
loop-i-preserved g c =
    let h : c.loop-i.i < length c.args.lengths.now = omega (arith, c.requires.lengths, c.loop-i-test.true) in
    let params : length c.as_slice-params.result.now ≡ length c.args.function.now.params = ap length c.as_slice-params.ensures in
    let below : c.loop-i.i < length c.as_slice-params.result.now = omega (arith, params, c.requires.params, c.loop-i-test.true) in
    let at : slice_get c.args.function.now.params c.loop-i.i ≡ Some c.index-params-i.result =
    read_at c.as_slice-params.result.now c.args.function.now.params c.loop-i.i c.index-params-i.result c.as_slice-params.ensures below c.index-params-i.is in
    let (these, made, back) = c.in_ok-load_buffer.ensures.ok in
    rw c.from-next.ensures record {
      low = omega (arith, c.loop-i.invariant.low);
      total = total_more c.args.lengths.now c.loop-i.i c.loop-i.next _ h c.loop-i.invariant.total;
      host = leads_host _ _ _ _ made ∙ c.loop-i.invariant.host;
      keeps = step_keeps c.args.arena.now c.loop-i.arena c.load_buffer.new.arena c.args.args.now c.requires.live.0 c.loop-i.i c.index-params-i.result.class these c.requires.live.1 c.loop-i-test.true c.loop-i.invariant.keeps back;
      reading = λ passed contents live are same.
          load_step c.args.arena.now c.loop-i.arena c.args.function.now.params c.args.args.now passed contents c.args.lengths.now c.args.from c.loop-i.i c.loop-i.next c.index-params-i.result _ _ _
          live are same c.requires.lengths c.loop-i-test.true at (c.loop-i.invariant.reading passed contents live are same) c.load_buffer.new.arena these c.loop-i.invariant.keeps made back;
    }

pub returns-in_err-load_buffer-clause-full : goal.returns-in_err-load_buffer-clause-full
returns-in_err-load_buffer-clause-full g c = λ passed contents live are same.
    let p = err_from_is_err_and c.from_residual.result c.from_residual.ensures.1 in
    let params : length c.as_slice-params.result.now ≡ length c.args.function.now.params = ap length c.as_slice-params.ensures in
    let below : c.loop-i.i < length c.as_slice-params.result.now = omega (arith, params, c.requires.params, c.loop-i-test.true) in
    let at : slice_get c.args.function.now.params c.loop-i.i ≡ Some c.index-params-i.result =
    read_at c.as_slice-params.result.now c.args.function.now.params c.loop-i.i c.index-params-i.result c.as_slice-params.ensures below c.index-params-i.is in
    rw (p.1, p.2) (
      c.in_err-load_buffer.ensures.full.0,
      load_full c.args.arena.now c.loop-i.arena c.args.function.now.params c.args.args.now passed contents c.args.lengths.now c.args.from c.loop-i.i c.loop-i.next c.index-params-i.result _ _ _
          live are same c.requires.lengths c.loop-i-test.true at (c.loop-i.invariant.reading passed contents live are same) c.in_err-load_buffer.ensures.full.1,
    )

pub returns-clause-ok : goal.returns-clause-ok
returns-clause-ok g c = λ passed contents live are same.
    let none : length c.args.function.now.params ≤ c.loop-i.i = omega (arith, c.requires.params, c.loop-i-test.false) in
    reading_all c.args.arena.now c.loop-i.arena c.args.function.now.params passed contents c.args.from c.loop-i.next c.loop-i.i _ _ (c.loop-i.invariant.reading passed contents live are same) c.loop-i.invariant.keeps
    (nothing_left c.args.function.now.params c.loop-i.i none)
