use Rattle.std.proofs.Common.{◌≡◌, drop}
use Rattle.sgx_base.specs.Bytes.{little_endian}
use Rattle.sgx_base.proofs.bytes.read_little_endian.Given as goal

abbrev pub invariant-loop-i : goal.invariant-loop-i
invariant-loop-i l = l.number ≡ little_endian (drop l.i l.bytes)
