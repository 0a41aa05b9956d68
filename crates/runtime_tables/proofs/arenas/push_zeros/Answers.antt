use Rattle.std.proofs.Common.{length, replicate}
use Rattle.enclave_memory.proofs.Blocks.{pushed_block}
use Rattle.runtime_tables.proofs.arenas.push_zeros.Goals as goal

pub bytes-requires : goal.bytes-requires
bytes-requires c =
    (length c.args.arena.now.blocks, replicate c.args.length 0, pushed_block c.args.arena.now c.push_block.new.self c.in-Some.block (replicate c.args.length 0) c.in-Some.ensures.pushed)

pub write-requires-clause-live : goal.write-requires-clause-live
write-requires-clause-live c =
    (length c.args.arena.now.blocks, replicate c.args.length 0, pushed_block c.args.arena.now c.push_block.new.self c.in-Some.block (replicate c.args.length 0) c.in-Some.ensures.pushed)
