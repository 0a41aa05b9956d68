use Rattle.std.proofs.Common.{◌≡◌, ◌≤◌, length, take, filter}
use Rattle.run_summary.specs.Summary.{is_success}
use Rattle.run_summary.proofs.count_of.Given as goal

abbrev pub invariant-loop-call : goal.invariant-loop-call
invariant-loop-call l = record {
  counted : l.count ≡ length (filter is_success (take l.call-index l.records));
  few : l.count ≤ l.call-index;
}
