use Rattle.std.proofs.Common.{◌≡◌, ◌<◌, ◌^◌, drop}
use Rattle.sgx_base.specs.Bytes.{little_endian}
use Rattle.edl_interface.proofs.bytes.checked_little_endian.Given as goal

abbrev pub invariant-loop-at : goal.invariant-loop-at
invariant-loop-at l = (l.value ≡ little_endian (drop l.at l.bytes)) × (l.value < 2 ^ 64)
