use Rattle.std.proofs.Common.{◌≡◌, ◌*◌, ◌≤◌, take, sum}
use Rattle.ocall_frames.proofs.arguments.total.Given as goal

abbrev pub invariant-loop-length : goal.invariant-loop-length
invariant-loop-length l = record { so_far : l.sum ≡ sum (take l.length-index l.lengths); bound : l.sum ≤ l.length-index * 65536 }
