use Rattle.std.proofs.Common.{◌≡◌, ◌++◌, drop}
use Rattle.call_report.specs.Report.{ecall_out_lines}
use Rattle.call_report.proofs.ecalls.append_out_lines.Given as goal

-- what is there, and what is still to come, is the whole
abbrev pub invariant-loop-param : goal.invariant-loop-param
invariant-loop-param l =
    l.out.items ++ ecall_out_lines l.fn.function l.fn.frame l.rest 0 (drop l.param-index l.fn.function.params)
    ≡ l.initial.out.items ++ ecall_out_lines l.fn.function l.fn.frame l.fn.log l.fn.at l.fn.function.params
