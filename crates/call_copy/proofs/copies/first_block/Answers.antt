use Rattle.std.proofs.Common.{rules, ◌≡◌, true}
use Rattle.sgx_base.specs.Bytes.{is_divisible}
use Rattle.enclave_memory.specs.Memory.{room_of}
use Rattle.call_copy.proofs.CopyLaws.{row_none, pushed_zeros, filled_block}
use Rattle.call_copy.proofs.copies.first_block.Goals as goal

pub fill_block-requires-clause-zeros : goal.fill_block-requires-clause-zeros
fill_block-requires-clause-zeros g c = pushed_zeros c.args.arena.now c.push_length.new.arena c.in-Some.block c.args.length c.in-Some.ensures.pushed

pub returns-in-Ok-clause-ok : goal.returns-in-Ok-clause-ok
returns-in-Ok-clause-ok g c =
    let d : is_divisible c.args.length c.args.shape.unit ≡ true = search rules in
    let p = filled_block c.args.shape c.args.at c.args.length c.in-Some.block c.args.arena.now c.push_length.new.arena c.fill_block.new.arena (g.P.WordPort.state c.args.port.now) (g.P.WordPort.state c.fill_block.new.port) c.in-Some.ensures.pushed c.in-Ok.ensures.ok in
    (row_none c.args.shape c.args.length (room_of c.args.arena.now) d c.in-Some.ensures.fits, p.0, p.1)
