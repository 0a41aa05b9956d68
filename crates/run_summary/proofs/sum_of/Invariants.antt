use Rattle.std.proofs.Common.{◌≡◌, ◌≤◌, ◌*◌, take}
use Rattle.run_summary.specs.Summary.{returns_sum}
use Rattle.run_summary.proofs.sum_of.Given as goal

-- each return is a number of 64 bits
abbrev pub invariant-loop-call : goal.invariant-loop-call
invariant-loop-call l = record {
  summed : l.sum ≡ returns_sum (take l.call-index l.fn.records) l.fn.log;
  room : l.sum ≤ l.call-index * 18446744073709551615;
}
