use Rattle.std.proofs.Common.{◌≡◌, ◌++◌, drop}
use Rattle.call_report.specs.Report.{ocall_out_lines}
use Rattle.call_report.proofs.ocalls.append_out_lines.Given as goal

-- what is there, and what is still to come, is the whole
abbrev pub invariant-loop-param : goal.invariant-loop-param
invariant-loop-param l =
    l.out.items ++ ocall_out_lines l.fn.function l.fn.structure l.buffers_left l.rest 0 (drop l.param-index l.fn.function.params)
    ≡ l.initial.out.items ++ ocall_out_lines l.fn.function l.fn.structure l.fn.buffers l.fn.log l.fn.at l.fn.function.params
