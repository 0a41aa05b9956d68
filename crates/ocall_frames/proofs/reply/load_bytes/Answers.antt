use Rattle.std.proofs.Common.{rules}
use Rattle.word_port.proofs.AccessLaws.{loads_begin, loads_more}
use Rattle.ocall_frames.proofs.reply.load_bytes.Goals as goal

pub loop-i-init : goal.loop-i-init
loop-i-init g c = loads_begin _ _ _ c.args.out.now _

pub loop-i-preserved : goal.loop-i-preserved
loop-i-preserved g c = loads_more _ _ _ _ _ _ _ _ _ c.loop-i.invariant (search rules) (search rules) c.in_ok-byte.ensures.ok
