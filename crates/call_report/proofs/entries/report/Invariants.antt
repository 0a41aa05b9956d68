use Rattle.std.proofs.Common.{◌≡◌, take}
use Rattle.std.specs.Prelude.{flat_map}
use Rattle.call_report.specs.Report.{entry}
use Rattle.call_report.proofs.entries.report.Given as goal

abbrev pub invariant-loop-call : goal.invariant-loop-call
invariant-loop-call l = l.out.items ≡ flat_map (entry l.fn.interface l.fn.log) (take l.call-index l.fn.records)
