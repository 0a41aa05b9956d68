use Rattle.enclave_memory.specs.Memory.{room_of}
use Rattle.call_copy.proofs.CopyLaws.{plain_copied, plain_stopped}
use Rattle.call_copy.proofs.copies.copy_buffer_in.Goals as goal

pub returns-clause-ok : goal.returns-clause-ok
returns-clause-ok g c = plain_copied c.first_block.result c.args.shape c.args.at c.args.length (room_of c.args.arena.now) _ _ _ _ c.requires.plain c.first_block.ensures.ok

pub returns-clause-err : goal.returns-clause-err
returns-clause-err g c = plain_stopped c.first_block.result c.args.shape c.args.at c.args.length (room_of c.args.arena.now) _ _ _ _ c.first_block.ensures.err
