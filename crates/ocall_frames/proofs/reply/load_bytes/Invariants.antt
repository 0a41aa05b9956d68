use Rattle.std.proofs.Common.{◌+◌, ◌-◌, ◌++◌, length, take}
use Rattle.word_port.specs.Interaction.{and_then, ret}
use Rattle.word_port.specs.Accesses.{loads}
use Rattle.word_port.specs.Runs.{Leads}
use Rattle.word_port.specs.declared.Side.TheVariants.{Enclave}
use Rattle.ocall_frames.proofs.reply.load_bytes.Given as goal

-- the loads so far leave the loads of the bytes that are still to come
abbrev pub invariant-loop-i : goal.invariant-loop-i
invariant-loop-i g l =
    Leads (loads Enclave l.at (length l.fn.out)) (g.P.WordPort.state l.fn.port) (g.P.WordPort.state l.port)
    (and_then (loads Enclave (l.at + l.i) (length l.fn.out - l.i)) (λ bytes. ret (take l.i l.out ++ bytes)))
