use Rattle.std.proofs.Common.{ℕ, List, ◌≡◌, ◌<◌, ◌++◌, sym, take, drop, length, replicate, arith}
use Rattle.std.proofs.lemmas.List.{length-replicate, get_or-replicate}
use Rattle.enclave_memory.specs.Memory.{IsBlock}
use Rattle.body_vm.proofs.WriteLaws.{IsPartly, partly_first, partly_block, partly_more, partly_end}
use Rattle.body_vm.proofs.blocks.fill_block.Goals as goal

pub loop-at-init : goal.loop-at-init
loop-at-init c = λ number bytes b. partly_first c.args.arena.now c.args.block number bytes (replicate (length bytes) c.args.byte) b (length-replicate (length bytes) c.args.byte)

pub write_byte-requires-clause-live : goal.write_byte-requires-clause-live
write_byte-requires-clause-live c =
    let (number, bytes, b) = c.requires in
    let new : List ℕ = replicate (length bytes) c.args.byte in
    (number, take c.loop-at.at new ++ drop c.loop-at.at bytes, partly_block c.args.arena.now c.loop-at.arena c.args.block number c.loop-at.at bytes new b (c.loop-at.invariant number bytes b))

pub loop-at-preserved : goal.loop-at-preserved
loop-at-preserved c = λ number bytes b.
    let new : List ℕ = replicate (length bytes) c.args.byte in
    let p : IsPartly c.args.arena.now c.loop-at.arena number c.loop-at.at bytes new = c.loop-at.invariant number bytes b in
    let now : IsBlock c.loop-at.arena c.args.block number (take c.loop-at.at new ++ drop c.loop-at.at bytes) = partly_block c.args.arena.now c.loop-at.arena c.args.block number c.loop-at.at bytes new b p in
    let w : c.loop-at.at < length bytes = omega (arith, c.loop-at-test.true, b.length_is) in
    partly_more c.args.arena.now c.loop-at.arena c.write_byte.new.arena number c.loop-at.at c.args.byte bytes new p w (sym (get_or-replicate (length bytes) c.loop-at.at c.args.byte 0 w)) (c.write_byte.ensures number _ now)

pub returns : goal.returns
returns c = λ number bytes b.
    let e : c.loop-at.at ≡ length bytes = omega (arith, c.loop-at-test.false, c.loop-at.auto.at-end, b.length_is) in
    partly_end c.args.arena.now c.loop-at.arena number c.loop-at.at bytes (replicate (length bytes) c.args.byte) (c.loop-at.invariant number bytes b) e
