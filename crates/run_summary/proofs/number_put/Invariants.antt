use Rattle.std.proofs.Common.{◌≡◌, drop}
use Rattle.sgx_base.specs.Bytes.{little_endian}
use Rattle.call_report.specs.Report.{put_bytes}
use Rattle.run_summary.proofs.number_put.Given as goal

abbrev pub invariant-loop-i : goal.invariant-loop-i
invariant-loop-i l = l.number ≡ little_endian (put_bytes (drop l.i l.steps))
