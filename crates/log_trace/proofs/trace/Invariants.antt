use Rattle.std.proofs.Common.{◌≡◌, ◌++◌, take}
use Rattle.std.specs.Prelude.{flat_map}
use Rattle.log_trace.specs.Trace.{thread_line, step_line}
use Rattle.log_trace.proofs.trace.Given as goal

abbrev pub invariant-loop-step : goal.invariant-loop-step
invariant-loop-step l = l.text.items ≡ thread_line l.fn.thread ++ flat_map step_line (take l.step-index l.fn.log)
