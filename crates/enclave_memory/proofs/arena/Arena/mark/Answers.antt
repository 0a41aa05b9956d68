use Rattle.enclave_memory.proofs.Changes.{mark_is}
use Rattle.enclave_memory.proofs.arena.Arena.mark.Goals as goal

pub returns : goal.returns
returns c = mark_is c.self.inside.lengths.items c.self.inside.memory.bytes c.self.inside.taken _ c.args.self.now record { laid = c.self.invariant; seen = c.self.view_is }
