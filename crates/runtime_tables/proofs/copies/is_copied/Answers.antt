use Rattle.std.proofs.Common.{length}
use Rattle.enclave_memory.proofs.Blocks.{pushed_block}
use Rattle.runtime_tables.proofs.copies.is_copied.Goals as goal

pub bytes-requires : goal.bytes-requires
bytes-requires c =
    let (bytes, made, pushed) = c.in-Ok.ensures.ok in
    (length c.in_ok-arena.arena.blocks, bytes, pushed_block c.in_ok-arena.arena c.copy_in.new.arena c.in-Ok.block bytes pushed)
