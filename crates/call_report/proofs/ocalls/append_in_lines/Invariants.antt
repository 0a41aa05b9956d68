use Rattle.std.proofs.Common.{◌≡◌, ◌++◌, drop}
use Rattle.call_report.specs.Report.{ocall_in_lines}
use Rattle.call_report.proofs.ocalls.append_in_lines.Given as goal

-- what is there, and what is still to come, is the whole
abbrev pub invariant-loop-param : goal.invariant-loop-param
invariant-loop-param l =
    l.out.items ++ ocall_in_lines l.fn.function l.fn.structure l.rest (drop l.param-index l.fn.function.params)
    ≡ l.initial.out.items ++ ocall_in_lines l.fn.function l.fn.structure l.fn.buffers l.fn.function.params
