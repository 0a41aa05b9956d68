use Rattle.enclave_memory.proofs.Changes.{left_end}
use Rattle.enclave_memory.proofs.arena.unlist.Goals as goal

pub returns-clause-left : goal.returns-clause-left
returns-clause-left c = λ k h e. left_end c.args.lengths.now.items c.loop-left.lengths.items c.loop-left.left c.args.mark k c.loop-left.invariant.0 c.loop-left-test.false h e
