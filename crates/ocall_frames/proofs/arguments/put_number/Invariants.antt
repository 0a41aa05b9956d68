use Rattle.std.proofs.Common.{◌≡◌, ◌+◌, ◌-◌}
use Rattle.sgx_base.specs.Bytes.{low_bytes, with_bytes_at}
use Rattle.ocall_frames.proofs.arguments.put_number.Given as goal

-- the bytes that are still to come, written behind those that are written
abbrev pub invariant-loop-i : goal.invariant-loop-i
invariant-loop-i l =
    with_bytes_at l.structure (l.at + l.i) (low_bytes (l.size - l.i) l.rest) ≡ with_bytes_at l.fn.structure l.at (low_bytes l.size l.number)
