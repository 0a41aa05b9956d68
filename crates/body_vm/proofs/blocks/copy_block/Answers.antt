use Rattle.std.proofs.Common.{ℕ, List, ◌≡◌, ◌<◌, ◌++◌, ◌∙◌, ap, sym, take, drop, length, min, get_or, slice_set, arith}
use Rattle.enclave_memory.specs.Memory.{IsBlock}
use Rattle.body_vm.specs.State.{overlay}
use Rattle.body_vm.proofs.WriteLaws.{IsPartly, partly_first, partly_block, partly_more, partly_other, length_overlay, overlay_at, overlay_done}
use Rattle.body_vm.proofs.blocks.copy_block.Goals as goal

pub loop-at-init : goal.loop-at-init
loop-at-init c = λ number other these those b d apart. partly_first c.args.arena.now c.args.to number these (overlay these those) b (length_overlay these those)

pub bytes-requires : goal.bytes-requires
bytes-requires c =
    let (number, other, these, those, b, d, apart) = c.requires in
    (other, those, partly_other c.args.arena.now c.loop-at.arena c.args.from number other c.loop-at.at these (overlay these those) those (c.loop-at.invariant number other these those b d apart) apart d)

pub write_byte-requires-clause-live : goal.write_byte-requires-clause-live
write_byte-requires-clause-live c =
    let (number, other, these, those, b, d, apart) = c.requires in
    (number, take c.loop-at.at (overlay these those) ++ drop c.loop-at.at these, partly_block c.args.arena.now c.loop-at.arena c.args.to number c.loop-at.at these (overlay these those) b (c.loop-at.invariant number other these those b d apart))

pub loop-at-preserved : goal.loop-at-preserved
loop-at-preserved c = λ number other these those b d apart.
    let new : List ℕ = overlay these those in
    let p : IsPartly c.args.arena.now c.loop-at.arena number c.loop-at.at these new = c.loop-at.invariant number other these those b d apart in
    let now : IsBlock c.loop-at.arena c.args.to number (take c.loop-at.at new ++ drop c.loop-at.at these) = partly_block c.args.arena.now c.loop-at.arena c.args.to number c.loop-at.at these new b p in
    let from : IsBlock c.loop-at.arena c.args.from other those = partly_other c.args.arena.now c.loop-at.arena c.args.from number other c.loop-at.at these new those p apart d in
    let w : c.loop-at.at < length these = omega (arith, c.loop-at-test.true, c.min-at-end.ensures, b.length_is) in
    let v : c.loop-at.at < length those = omega (arith, c.loop-at-test.true, c.min-at-end.ensures, d.length_is) in
    let e : get_or c.bytes.result.now c.loop-at.at 0 ≡ get_or new c.loop-at.at 0 = ap (λ xs. get_or xs c.loop-at.at 0) (c.bytes.ensures.bytes other those from) ∙ sym (overlay_at these those c.loop-at.at w v) in
    partly_more c.args.arena.now c.loop-at.arena c.write_byte.new.arena number c.loop-at.at _ these new p w e (c.write_byte.ensures number _ now)

pub returns : goal.returns
returns c = λ number other these those b d apart.
    let e : c.loop-at.at ≡ min (length these) (length those) = omega (arith, c.loop-at-test.false, c.loop-at.auto.at-end, c.min-at-end.ensures, b.length_is, d.length_is) in
    (c.loop-at.invariant number other these those b d apart).is ∙ ap (λ x. record c.args.arena.now { blocks = slice_set c.args.arena.now.blocks number x }) (overlay_done these those c.loop-at.at e)
